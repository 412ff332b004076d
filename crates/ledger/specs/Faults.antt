-- The number of each refusal. Assumes nothing.
use Rattle.std.specs.Prelude.{ℕ}
use Rattle.ledger.specs.RegistryFaults as registry
use Rattle.records.specs.Faults as records
use Rattle.split.specs.Faults as split
use Rattle.receivables.specs.Faults as receivables
use Rattle.ledger.specs.declared.fault.Fault.{Fault}
use Rattle.ledger.specs.declared.fault.Fault.TheVariants.{NoMoment, Before, Registry, Record, Split, Month, DueDay, Receivable, Remark, Row, Means, Funding, Room}

abbrev pub number : Fault → ℕ
number NoMoment = 6
number Before = 7
number (Registry f) = registry.number f
number (Record f) = records.number f
number (Split f) = split.number f
number Month = 19
number DueDay = 22
number (Receivable f) = receivables.number f
number Remark = 24
number Row = 28
number Means = 29
number Funding = 30
number (Room r) = 31
