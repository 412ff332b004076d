-- What a table of charges holds. Assumes nothing.
use Rattle.std.specs.Prelude.{ℕ, List, Ok, Err, Result}
use Rattle.foundation.specs.Limits.{most_counter_parties}
use Rattle.split.specs.declared.fault.Fault.{Fault}
use Rattle.split.specs.Split.{laid_out}
use Rattle.ledger.specs.declared.charges.Charges.{Charges}

-- in cents, by position
abbrev pub charges_in : Charges → List ℕ
charges_in c = c.cents

-- where an amount is shared, its charges in the table of 32 places
abbrev pub laid : List ℕ → Result ℕ Fault → Result (List ℕ) Fault
laid cs (Ok all) = Ok (laid_out cs most_counter_parties)
laid cs (Err fault) = Err fault
