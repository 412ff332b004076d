use Rattle.std.proofs.Common.{◌≡◌, ℕ, ◌+◌, ◌≤◌, map, get_or, set, Ok, sym, ap, ◌∙◌, arith}
use Rattle.std.proofs.lemmas.List.{get_or-map, map-set, get_or-set_other}
use Rattle.security.specs.declared.means.Means.{Means}
use Rattle.receivables.proofs.Rows.{set-related}
use Rattle.ledger.specs.Secure.{security_of, no_security, place_funded}
use Rattle.ledger.proofs.Secured.{funded-place}
use Rattle.ledger.proofs.ledger.secure.fund_at.Goals as goal

pub returns : goal.returns
returns g c =
    let held = g.I.Instrument.held in
    let row = c.args.row.now in
    let place = c.args.place in
    let x = c.index-row-place.result in
    let y = c.fund.new.self in
    let means = security_of g.I.Instrument.held g.I.Instrument.room in
    let read : get_or (map means row) place no_security ≡ means x = get_or-map means row place _ no_security c.requires.within ∙ ap means (sym c.index-row-place.is) in
    let h : get_or (map held row) place 0 ≡ held x = get_or-map held row place _ 0 c.requires.within ∙ ap held (sym c.index-row-place.is) in
    let e = c.in_ok-fund.ensures in
    let f = funded-place (means x) c.args.means c.args.amount (held y) e.answer e.left in
    record {
      answer = ap Ok c.held.ensures ∙ f.1 ∙ ap (λ z. place_funded z c.args.means c.args.amount) (sym read);
      helds = map-set held row place y ∙ ap (λ k. set (map held row) place k) (f.0 ∙ ap (λ k. k + c.args.amount) (sym h));
      others = λ j d other. get_or-set_other row place j y d other;
      rooms = set-related (λ a b. (m : Means) → g.I.Instrument.room b m ≤ g.I.Instrument.room a m) (λ a m. omega arith) row place _ _ c.index-row-place.is e.rooms;
      refused = λ k. let z : ◌≡◌ {A = ℕ} 0 1 = cc in absurd (omega arith);
    }
