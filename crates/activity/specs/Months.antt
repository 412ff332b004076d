-- The month that a state holds. Assumes nothing.
use Rattle.std.specs.Prelude.{ℕ}
use Rattle.activity.specs.declared.month.Collecting.{Collecting}
use Rattle.activity.specs.declared.month.Closed.{Closed}

abbrev pub collecting_month : Collecting → ℕ
collecting_month s = s.month

abbrev pub closed_month : Closed → ℕ
closed_month s = s.month
