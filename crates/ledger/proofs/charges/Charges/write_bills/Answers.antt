use Rattle.std.proofs.Common.{ℕ, length, get_or, arith}
use Rattle.std.proofs.lemmas.List.FromFn.{fill_by_all}
use Rattle.receivables.specs.declared.charge.Charge.{Charge}
use Rattle.ledger.specs.Bill.{bills}
use Rattle.ledger.proofs.charges.Charges.write_bills.Goals as goal

pub returns : goal.returns
unfolding bills
returns c =
    let f : ℕ → Charge = λ k. record { billed = get_or c.args.parties.now k 0; position = k; cents = get_or c.args.self.now.cents k 0 } in
    fill_by_all f c.loop-position.out (length c.args.parties.now) (record { billed = 0; position = 0; cents = 0 }) (omega arith) (λ k h. c.loop-position.invariant k (omega arith))
