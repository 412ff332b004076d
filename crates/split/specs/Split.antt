-- How an amount is shared by activity. Assumes nothing.
use Rattle.std.specs.Prelude.{ℕ, ◌+◌, ◌-◌, ◌*◌, ◌/◌, ◌%◌, ◌<◌, ◌≤◌, Bool, ◌&&◌, ◌||◌, List, [], ◌∷◌, map, length, sum, Result, ◌==◌, nat_le, nat_lt, slice_index}
use Rattle.std.specs.List.{range_with_len}
use Rattle.foundation.specs.Counting.{total, count, one_if}
use Rattle.foundation.specs.Limits.{most_amount, most_activity}
use Rattle.foundation.specs.Questions.{Question, asks, verdict}
use Rattle.split.specs.declared.fault.Fault.{Fault}
use Rattle.split.specs.declared.fault.Fault.TheVariants.{NoActivity, TooMuchActivity}

-- all activities together are at least 1 and at most 8,000,000,000
abbrev pub activity_asks : ℕ → List (Question Fault)
activity_asks all = asks (nat_le 1 all) NoActivity ∷ asks (nat_le all most_activity) TooMuchActivity ∷ []

-- what a split answers: the sum of the activities
abbrev pub split_answer : List ℕ → Result ℕ Fault
split_answer xs = verdict (activity_asks (sum xs)) (sum xs)

-- an amount and activities that pass every question
pub record Shareable (amount : ℕ) (xs : List ℕ) : Type 0 where
  pub amount_some : 0 < amount
  pub amount_fits : amount ≤ most_amount
  pub sum_some : 0 < sum xs
  pub sum_fits : sum xs ≤ most_activity

-- the exact share of place i is amount × activity ÷ sum of all activities: its whole part and its remainder
unfoldable pub whole_part : ℕ → List ℕ → ℕ → ℕ
whole_part amount xs i = amount * slice_index xs i / sum xs

unfoldable pub remainder : ℕ → List ℕ → ℕ → ℕ
remainder amount xs i = amount * slice_index xs i % sum xs

-- the amount less all whole parts
unfoldable pub leftover : ℕ → List ℕ → ℕ
leftover amount xs = amount - total (whole_part amount xs) (length xs)

-- place j with the remainder theirs comes before place i with the remainder mine: it is larger, or equal and earlier
abbrev pub comes_first : ℕ → ℕ → ℕ → ℕ → Bool
comes_first theirs j mine i = nat_lt mine theirs || (mine == theirs && nat_lt j i)

-- how many places come before place i
unfoldable pub ahead : ℕ → List ℕ → ℕ → ℕ
ahead amount xs i = count (λ j. comes_first (remainder amount xs j) j (remainder amount xs i) i) (length xs)

-- the whole part, and a cent more where fewer places come before than cents are left over
unfoldable pub charge : ℕ → List ℕ → ℕ → ℕ
charge amount xs i = whole_part amount xs i + one_if (nat_lt (ahead amount xs i) (leftover amount xs))

unfoldable pub charges : ℕ → List ℕ → List ℕ
charges amount xs = map (charge amount xs) (range_with_len 0 (length xs))

-- charges in a table of n places, 0 past the last
unfoldable pub laid_out : List ℕ → ℕ → List ℕ
laid_out cs n = map (λ i. slice_index cs i) (range_with_len 0 n)
