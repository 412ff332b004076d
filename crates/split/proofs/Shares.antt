-- Whole parts and remainders. Assumes nothing.
use Rattle.std.proofs.Common.{◌≡◌, ℕ, ◌+◌, ◌*◌, ◌<◌, ◌≤◌, Bool, true, false, ltb, List, length, get_or, sum, sym, refl, ap, ◌∙◌, mod-lt, arith}
use native.Mathlib.Nat.{div-add-mod, le_of_mul-le-mul_left}
use Rattle.std.proofs.lemmas.Bool.{ltb-false}
use Rattle.foundation.specs.Counting.{total, count, one_if}
use Rattle.split.specs.Split.{whole_part, remainder, leftover}
use Rattle.foundation.proofs.Totals.{total_mono, total-more, total-le, total-same, total-sum, total-times, sum-total}

module _ (amount : ℕ) (xs : List ℕ) where
  pub exact : (i : ℕ) → sum xs * whole_part amount xs i + remainder amount xs i ≡ amount * get_or xs i 0
  unfolding whole_part remainder
  exact i = div-add-mod (amount * get_or xs i 0) (sum xs)

  pub all-exact : sum xs * total (whole_part amount xs) (length xs) + total (remainder amount xs) (length xs) ≡ amount * sum xs
  all-exact =
      ap (λ w. w + total (remainder amount xs) (length xs)) (sym (total-times (sum xs) (whole_part amount xs) (length xs)))
      ∙ sym (total-sum (λ i. sum xs * whole_part amount xs i) (remainder amount xs) (length xs))
      ∙ total-same _ _ (length xs) (λ i _. exact i)
      ∙ total-times amount (λ i. get_or xs i 0) (length xs)
      ∙ ap (λ s. amount * s) (sym (sum-total xs))

module _ (amount : ℕ) (xs : List ℕ) (some : 0 < sum xs) where
  pub remainder-lt : (i : ℕ) → remainder amount xs i < sum xs
  unfolding remainder
  remainder-lt i = mod-lt (amount * get_or xs i 0) some

  pub wholes-le : total (whole_part amount xs) (length xs) ≤ amount
  wholes-le = le_of_mul-le-mul_left {k = sum xs} (omega (arith, all-exact amount xs)) some

  pub front-le : (i : ℕ) → i ≤ length xs → total (whole_part amount xs) i ≤ amount
  front-le i h = omega (arith, wholes-le, total_mono (whole_part amount xs) i (length xs) h)

  -- the whole parts up to a place and its own are not above the amount
  pub front-more : (i : ℕ) → i < length xs → total (whole_part amount xs) i + whole_part amount xs i ≤ amount
  front-more i h = omega (arith, total-more (whole_part amount xs) i, front-le (i + 1) (omega arith))

  pub leftover-wholes : leftover amount xs + total (whole_part amount xs) (length xs) ≡ amount
  unfolding leftover
  leftover-wholes = omega (arith, wholes-le)

  pub leftover-is : sum xs * leftover amount xs ≡ total (remainder amount xs) (length xs)
  leftover-is = omega (arith, all-exact amount xs, ap (λ z. sum xs * z) leftover-wholes)

  small : (i : ℕ) (t : Bool) → ltb 0 (remainder amount xs i) ≡ t → remainder amount xs i ≤ sum xs * one_if t
  small i true e = omega (arith, remainder-lt i)
  small i false e = omega (arith, ltb-false _ _ e)

  -- no more cents are left over than there are shares with a remainder
  pub leftover-few : leftover amount xs ≤ count (λ i. ltb 0 (remainder amount xs i)) (length xs)
  leftover-few =
      le_of_mul-le-mul_left {k = sum xs}
      (omega (arith, leftover-is, total-le (remainder amount xs) (λ i. sum xs * one_if (ltb 0 (remainder amount xs i))) (length xs) (λ i _. small i _ refl), total-times (sum xs) (λ i. one_if (ltb 0 (remainder amount xs i))) (length xs)))
      some
