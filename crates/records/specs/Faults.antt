-- The number of each refusal. Assumes nothing.
use Rattle.std.specs.Prelude.{ℕ}
use Rattle.records.specs.declared.fault.Fault.{Fault}
use Rattle.records.specs.declared.fault.Fault.TheVariants.{Month, Participant, Determinant, Mark, Sign, Sum}

abbrev pub number : Fault → ℕ
number Month = 12
number Participant = 13
number Determinant = 14
number Mark = 15
number Sign = 16
number Sum = 17
