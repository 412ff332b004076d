use Rattle.std.proofs.Common.{refl}
use Rattle.ledger.proofs.Bills.{zeros-small}
use Rattle.ledger.proofs.charges.Charges.none.Goals as goal

pub invariant_of-result : goal.invariant_of-result
invariant_of-result c = record { laid = refl; small = zeros-small 32 }
