-- What a calendar means. Assumes nothing.
use Rattle.std.specs.Prelude.{ℕ, Bool}

-- of each day, whether it is a Bank Business Day and whether it is a Business Day
pub record CalendarMeaning : Type 0 where
  pub bank : ℕ → Bool
  pub business : ℕ → Bool
