-- How many months can have been billed. Assumes nothing.
use Rattle.std.specs.Prelude.{ℕ, ◌+◌, Some, None, Option}

-- up to the last one billed, counted from month 0
abbrev pub months_billed : Option ℕ → ℕ
months_billed None = 0
months_billed (Some m) = m + 1
