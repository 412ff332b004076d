use Rattle.std.proofs.Common.{◌≡◌, ◌≤◌, length, Some, sym, ap, ◌∙◌, arith}
use Rattle.ledger.specs.Model.{model_of}
use Rattle.ledger.specs.Registries.{place_of}
use Rattle.ledger.proofs.Places.{place-within}
use Rattle.ledger.proofs.Secured.{place_ok}
use Rattle.ledger.proofs.ledger.Ledger.place_in.Goals as goal

pub returns : goal.returns
returns c =
    let s = model_of c.args.self.now in
    let k = c.in_ok-place.place in
    let at : Some k ≡ place_of s.register.parties c.args.counter_party = sym c.in_ok-place.ensures.ok_part ∙ c.position_of.ensures in
    let numbers = ap length c.counter_parties.ensures.numbers in
    let long : length s.register.parties ≤ c.args.places = omega (arith, numbers, c.if-places-counter_parties.false) in
    record { answer = place_ok s c.args.places c.args.counter_party k at long; within = omega (arith, place-within s.register.parties c.args.counter_party k at, long, numbers, c.counter_parties.ensures.few) }
