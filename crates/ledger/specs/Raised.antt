-- A part's refusal inside the ledger's. Assumes nothing.
use Rattle.std.specs.Prelude.{Ok, Err, Result}

abbrev pub raised : {F G X : Type 0} → (F → G) → Result X F → Result X G
raised f (Ok x) = Ok x
raised f (Err e) = Err (f e)
