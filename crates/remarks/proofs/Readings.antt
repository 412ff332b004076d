-- Reading a number, digit by digit. Assumes nothing.
use Rattle.std.proofs.Common.{◌≡◌, ℕ, ◌+◌, ◌-◌, ◌*◌, ◌^◌, ◌<◌, ◌≤◌, Bool, true, false, ◌&&◌, leb, List, [], ◌∷◌, length, get_or, drop, Some, None, sym, refl, ap, ◌∙◌, pow-suc, add-one, arith, le-leb, leb-true}
use native.Mathlib.Nat.{pow-le-pow_right}
use borrow.Author.Tests.{lt-leb}
use Rattle.std.proofs.lemmas.List.{at_drop_more, at_drop_all}
use Rattle.std.proofs.lemmas.Bool.{cond-true, cond-false}
use Rattle.std.specs.Int.Digits.{number_from_digits, number_from_digits_after}
use Rattle.foundation.proofs.Firsts.{true-false}
use Rattle.remarks.specs.Remarks.{is_digit, digits, read_number}

and_left : (a b : Bool) → (a && b) ≡ true → a ≡ true
and_left true b h = refl
and_left false b h = h

pub and_right : (a b : Bool) → (a && b) ≡ true → b ≡ true
and_right true b h = h
and_right false b h = absurd (true-false false h refl)

pub digit-range : (byte : ℕ) → is_digit byte ≡ true → (48 ≤ byte) × (byte ≤ 57)
digit-range byte h = (leb-true 48 byte (and_left (leb 48 byte) (leb byte 57) h), leb-true byte 57 (and_right (leb 48 byte) (leb byte 57) h))

module _ (most : ℕ) (text : List ℕ) where
  abbrev pub Reading : ℕ → ℕ → Type 0
  Reading i n = (i ≤ most) × (number_from_digits_after 10 n (digits (drop i text)) ≡ number_from_digits 10 (digits text)) × (length (digits text) ≡ i + length (digits (drop i text))) × (n < 10 ^ i)

  module _ (i n : ℕ) (so : Reading i n) where
    pub read_fits : most ≤ 9 → (i ≡ most → ⊥) → n < 10 ^ 8
    read_fits nine ne =
        let up : 10 ^ i ≤ 10 ^ 8 = (let small : i ≤ 8 = omega (arith, so.0) in pow-le-pow_right {n = 10} (omega arith) small) in
        omega (arith, so.3, up)
