-- The number of each refusal. Assumes nothing.
use Rattle.std.specs.Prelude.{ℕ}
use Rattle.split.specs.declared.fault.Fault.{Fault}
use Rattle.split.specs.declared.fault.Fault.TheVariants.{Amount, NoActivity, TooMuchActivity}

abbrev pub number : Fault → ℕ
number Amount = 18
number NoActivity = 20
number TooMuchActivity = 21
