use Rattle.std.proofs.Common.{◌≡◌, ℕ, ◌<◌, get_or}
use Rattle.receivables.specs.declared.charge.Charge.{Charge}
use Rattle.ledger.proofs.charges.Charges.write_bills.Given as goal

abbrev pub invariant-loop-position : goal.invariant-loop-position
invariant-loop-position l =
    let f : ℕ → Charge = λ k. record { billed = get_or l.parties k 0; position = k; cents = get_or l.self.cents k 0 } in
    (k : ℕ) → k < l.position → get_or l.out k (record { billed = 0; position = 0; cents = 0 }) ≡ f k
