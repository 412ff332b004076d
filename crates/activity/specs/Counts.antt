-- What is known of a number of quarters: what it counts, how large it is, and when it is not below 0. Assumes nothing.
use Rattle.std.specs.Prelude.{◌≡◌, ℕ, ◌≤◌, ℤ, pos, ◌≤ℤ◌, unsigned_abs}

pub record Counts (value : ℤ) (most : ℕ) (Natural : Type 0) (z : ℤ) : Type 0 where
  pub is : z ≡ value
  pub small : unsigned_abs z ≤ most
  pub natural : Natural → pos 0 ≤ℤ z
