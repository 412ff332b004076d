-- The sum of all activities, one at a time. Assumes nothing.
use Rattle.std.proofs.Common.{◌≡◌, ℕ, ◌*◌, ◌/◌, ◌%◌, ◌≤◌, true, leb, List, get_or, Ok, sum, sym, ap, ◌∙◌, leb-true}
use Rattle.split.specs.Split.{Shareable, whole_part, remainder, activity_asks, split_answer}
use Rattle.foundation.proofs.Verdicts.{all_hold}

-- what a share's product gives at a place is its whole part, and its remainder
pub whole-at : (amount : ℕ) (xs : List ℕ) (all i w : ℕ) → all ≡ sum xs → w ≡ amount * get_or xs i 0 / all → w ≡ whole_part amount xs i
unfolding whole_part
whole-at amount xs all i w e h = h ∙ ap (λ z. amount * get_or xs i 0 / z) e

pub rest_at : (amount : ℕ) (xs : List ℕ) (all i r : ℕ) → all ≡ sum xs → r ≡ amount * get_or xs i 0 % all → r ≡ remainder amount xs i
unfolding remainder
rest_at amount xs all i r e h = h ∙ ap (λ z. amount * get_or xs i 0 % z) e

-- an amount and activities that were accepted
pub accepted : (cents : ℕ) (xs : List ℕ) (all : ℕ) → 1 ≤ cents → cents ≤ 1000000000 → Ok all ≡ split_answer xs → (all ≡ sum xs) × Shareable cents xs
accepted cents xs all some fits h =
    let holds = all_hold (activity_asks (sum xs)) (sum xs) all (sym h) in
    (same holds, record { amount_some = some; amount_fits = fits; sum_some = leb-true 1 (sum xs) holds.0; sum_fits = leb-true (sum xs) 8000000000 holds.1.0 })
  where
    same : (leb 1 (sum xs) ≡ true) × ((leb (sum xs) 8000000000 ≡ true) × Unit {0}) → all ≡ sum xs
    same holds = let s : split_answer xs ≡ Ok (sum xs) = rw (holds.0, holds.1.0) in let e = h ∙ s in cc
