-- The number of each refusal. Assumes nothing.
use Rattle.std.specs.Prelude.{ℕ}
use Rattle.receivables.specs.declared.fault.Fault.{Fault}
use Rattle.receivables.specs.declared.fault.Fault.TheVariants.{Places, Number, Account, Amount}

abbrev pub number : Fault → ℕ
number Places = 23
number Number = 25
number Account = 26
number Amount = 27
