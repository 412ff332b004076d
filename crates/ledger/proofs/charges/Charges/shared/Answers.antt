use Rattle.std.proofs.Common.{ap, ◌∙◌, length, arith}
use Rattle.split.specs.Split.{charges}
use Rattle.ledger.proofs.Bills.{laid-long, laid-small}
use Rattle.ledger.proofs.charges.Charges.shared.Goals as goal

pub invariant_of-result : goal.invariant_of-result
invariant_of-result c =
    let a = c.args.amount in
    let cs = charges a.cents c.args.activities.now in
    let e = c.in_ok-split.ensures in
    record { laid = ap length e.charged ∙ laid-long cs; small = rw e.charged (laid-small 4294967295 cs (omega (arith, a.fits, e.fair.adds_up))) }
