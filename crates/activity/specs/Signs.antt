-- Which sums may be below 0. Assumes nothing.
use Rattle.std.specs.Prelude.{◌≡◌, ℕ, Bool, true, false, ◌||◌, List, ℤ, pos, ◌==◌, slice_index_or}
use Rattle.std.specs.Int.Signed.{non_neg}

-- of the sums in kWh, those of determinants 3 and 4
abbrev pub energy_signed : ℕ → Bool
energy_signed k = k == 1 || k == 2

-- of the sums in kW over 15 minutes, none
abbrev pub interval_signed : ℕ → Bool
interval_signed k = false

abbrev pub Signs : (ℕ → Bool) → List ℤ → Type 0
Signs signed zs = (k : ℕ) → signed k ≡ false → non_neg (slice_index_or zs k (pos 0)) ≡ true
