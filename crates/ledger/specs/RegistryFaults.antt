-- The number of each refusal. Assumes nothing.
use Rattle.std.specs.Prelude.{ℕ}
use Rattle.ledger.specs.declared.registry.fault.Fault.{Fault}
use Rattle.ledger.specs.declared.registry.fault.Fault.TheVariants.{Zero, Known, Full, CounterParty}

abbrev pub number : Fault → ℕ
number Zero = 8
number Known = 9
number Full = 10
number CounterParty = 11
