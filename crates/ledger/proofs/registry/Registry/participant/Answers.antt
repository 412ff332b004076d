use Rattle.std.proofs.Common.{◌≡◌, ◌<◌, vec_items, Some, ap, ◌∙◌, arith}
use Rattle.std.proofs.lemmas.Bool.{cond-true, lt-ltb}
use Rattle.ledger.specs.Registries.{place_of}
use Rattle.ledger.proofs.Places.{place-within}
use Rattle.ledger.proofs.registry.Registry.participant.Goals as goal

pub returns : goal.returns
returns c =
    let r = c.args.self.now in
    let k = c.in_ok-place.place in
    let found : Some k ≡ place_of (vec_items r.participants) c.args.number = c.in_ok-place.ensures ∙ ap (λ xs. place_of xs c.args.number) c.as_slice.ensures.value in
    let within : k < 64 = omega (arith, place-within (vec_items r.participants) c.args.number k found, r.participants.ok.0, r.participants_few) in
    c.new.ensures ∙ cond-true _ _ _ (lt-ltb k 64 within) ∙ found
