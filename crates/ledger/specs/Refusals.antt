-- What each refusal says: its number, and the values that it names. Assumes nothing.
use Rattle.std.specs.Prelude.{ℕ, List, [], ◌∷◌, Some, None, Option}
use Rattle.security.specs.declared.means.FundingRefused.{FundingRefused}
use Rattle.security.specs.Funding.{means_number}
use Rattle.ledger.specs.Faults.{number as number_of}
use Rattle.ledger.specs.declared.fault.Fault.{Fault}
use Rattle.ledger.specs.declared.fault.Fault.TheVariants.{NoMoment, Before, Registry, Record, Split, Month, DueDay, Receivable, Remark, Row, Means, Funding, Room}

pub record Refusal : Type 0 where
  pub number : ℕ
  pub values : List ℕ

-- the means, the amount and the room of an instrument's own refusal
abbrev pub named : Option FundingRefused → List ℕ
named None = []
named (Some r) = means_number r.means ∷ r.amount ∷ r.room ∷ []

abbrev pub values_of : Fault → List ℕ
values_of NoMoment = []
values_of Before = []
values_of (Registry f) = []
values_of (Record f) = []
values_of (Split f) = []
values_of Month = []
values_of DueDay = []
values_of (Receivable f) = []
values_of Remark = []
values_of Row = []
values_of Means = []
values_of Funding = []
values_of (Room r) = named (Some r)

abbrev pub refusal : Fault → Refusal
refusal f = record { number = number_of f; values = values_of f }
