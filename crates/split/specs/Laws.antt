-- What a split is worth, in the words of the subject. Assumes nothing.
use Rattle.std.specs.Prelude.{◌≡◌, ℕ, ◌*◌, ◌≤◌, List, [], ◌∷◌, map, length, ℤ, pos, ◌+ℤ◌, ◌-ℤ◌, ◌*ℤ◌, sum, slice_index, slice_index_or, unsigned_abs}
use Rattle.foundation.specs.Counting.{total}

abbrev pub sumℤ : List ℤ → ℤ
sumℤ [] = pos 0
sumℤ (d ∷ ds) = d +ℤ sumℤ ds

-- a division gives each place whole cents, also below 0, that add up to the amount
pub record Division (amount : ℕ) (xs : List ℕ) (ds : List ℤ) : Type 0 where
  pub each : length ds ≡ length xs
  pub adds : sumℤ ds ≡ pos amount

-- how far d cents are from the exact share of place i, times the sum of all activities: |M × d − amount × activity|
unfoldable pub distance : ℕ → List ℕ → ℕ → ℤ → ℕ
distance amount xs i d = unsigned_abs (pos (sum xs) *ℤ d -ℤ pos (amount * slice_index xs i))

unfoldable pub distances : ℕ → List ℕ → List ℤ → ℕ
distances amount xs ds = total (λ i. distance amount xs i (slice_index_or ds i (pos 0))) (length xs)

-- charges cs of an amount by activities xs
pub record FairSplit (amount : ℕ) (xs cs : List ℕ) : Type 0 where
  -- there is one for each place
  pub each : length cs ≡ length xs
  -- they add up to the amount
  pub adds_up : sum cs ≡ amount
  -- no division lies closer to the exact shares
  pub closest : (ds : List ℤ) → Division amount xs ds → distances amount xs (map pos cs) ≤ distances amount xs ds
