-- The invoice number that a remark names. Assumes nothing.
use Rattle.std.specs.Prelude.{◌≡◌, ℕ, ◌-◌, ◌<◌, ◌≤◌, Bool, true, false, cond, ◌&&◌, List, [], ◌∷◌, length, drop, Some, None, Option, ◌==◌, nat_le, slice_index}
use Rattle.std.specs.Int.Digits.{number_from_digits}
use Rattle.foundation.specs.Counting.{first}

-- 0 to 9
abbrev pub is_digit : ℕ → Bool
is_digit byte = nat_le 48 byte && nat_le byte 57

-- the text begins with INV and then a digit
abbrev pub is_mark : List ℕ → Bool
is_mark text = slice_index text 0 == 73 && (slice_index text 1 == 78 && (slice_index text 2 == 86 && is_digit (slice_index text 3)))

-- the digits that a text begins with, up to the first byte that is none
abbrev pub digits : List ℕ → List ℕ
digits [] = []
digits (byte ∷ rest) = cond (is_digit byte) ((byte - 48) ∷ digits rest) []

-- the number that a text begins with, if it has at most so many digits
abbrev pub read_number : ℕ → List ℕ → Option ℕ
read_number most text = cond (nat_le (length (digits text)) most) (Some (number_from_digits 10 (digits text))) None

-- does INV stand at a place, directly before a digit?
abbrev pub is_marked : List ℕ → ℕ → Bool
is_marked remark place = is_mark (drop place remark)

-- the number after the three letters at a place
abbrev pub read_at : ℕ → List ℕ → Option ℕ → Option ℕ
read_at most remark None = None
read_at most remark (Some place) = read_number most (drop 3 (drop place remark))

unfoldable pub named : ℕ → List ℕ → Option ℕ
named most remark = cond (nat_le (length remark) 64) (read_at most remark (first (is_marked remark) (length remark))) None

-- The rule: a remark of at most 64 bytes names the number whose digits follow INV at the first place
-- where INV stands directly before a digit; all digits from there on count, and there are at most so many.
pub record Names (most : ℕ) (remark : List ℕ) (n : ℕ) : Type 0 where
  pub short : length remark ≤ 64
  pub place : ℕ
  pub marked : is_marked remark place ≡ true
  pub first : (earlier : ℕ) → earlier < place → is_marked remark earlier ≡ false
  pub few : length (digits (drop 3 (drop place remark))) ≤ most
  pub value : n ≡ number_from_digits 10 (digits (drop 3 (drop place remark)))

-- an answer is a number exactly where the rule says that the remark names it
pub record NamedAnswer (most : ℕ) (remark : List ℕ) (answer : Option ℕ) : Type 0 where
  pub sound : (n : ℕ) → answer ≡ Some n → Names most remark n
  pub complete : (n : ℕ) → Names most remark n → answer ≡ Some n
