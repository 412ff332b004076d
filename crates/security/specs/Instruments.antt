-- What cash, a letter of credit and two instruments together hold and have room for. Assumes nothing.
use Rattle.std.specs.Prelude.{ℕ, ◌-◌, cond, nat_le}
use Rattle.foundation.specs.Limits.{most_security}
use Rattle.security.specs.declared.means.Means.{Means}
use Rattle.security.specs.declared.means.Means.TheVariants as means
use Rattle.security.specs.Funding.{funded}

-- cash has room up to its limit for cash, and none for letters
abbrev pub cash_room : ℕ → Means → ℕ
cash_room cents means.Cash = most_security - cents
cash_room cents means.Letter = 0

-- a letter has room up to its limit for letters, by its face, and none for cash
abbrev pub letter_room : ℕ → Means → ℕ
letter_room face means.Cash = 0
letter_room face means.Letter = most_security - face

-- a draw of n takes from the first of two, then the rest from the second
abbrev pub left_in_first : ℕ → ℕ → ℕ
left_in_first first n = first - n

abbrev pub left_in_second : ℕ → ℕ → ℕ → ℕ
left_in_second first second n = second - (n - first)

-- a funding of n goes to the first of two that has the room: what the second then holds, by the rooms of both
abbrev pub funded_second : ℕ → ℕ → ℕ → ℕ → ℕ
funded_second second n first_room second_room = cond (nat_le n first_room) second (funded second n second_room)
