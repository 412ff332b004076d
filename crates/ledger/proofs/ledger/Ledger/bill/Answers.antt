use Rattle.std.proofs.Common.{refl}
use Rattle.std.proofs.lemmas.Result.{err_from_is_err_and}
use Rattle.activity.specs.Tables.{meaning}
use Rattle.ledger.specs.Model.{model_of}
use Rattle.ledger.proofs.Bills.{no-charges}
use Rattle.ledger.proofs.ledger.Ledger.bill.Goals as goal

pub returns-in_err-charges : goal.returns-in_err-charges
returns-in_err-charges g c =
    let s = model_of c.args.self.now in
    let t = meaning c.args.table.now in
    let p = err_from_is_err_and c.from_residual-in_err-charges.result c.from_residual-in_err-charges.ensures.1 in
    rw (p.1, p.2) (record { answer = no-charges s t c.args.month.now.month c.args.amount c.args.stamp.day c.args.stamp.minute _ _ _ c.in_ok-at.ensures c.in_err-charges.ensures.answer; model = refl; fair = tt })
