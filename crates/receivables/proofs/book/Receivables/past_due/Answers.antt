use Rattle.std.proofs.Common.{◌≡◌, ℕ, ◌^◌, ◌<◌, Bool, List, map, length, vec_items, filter, Vec, sym, ap, ◌∙◌, subst, arith}
use Rattle.std.specs.Vec.{with_items}
use Rattle.std.proofs.lemmas.List.{with_items_is}
use Rattle.calendar.specs.Moments.{when}
use Rattle.receivables.specs.declared.invoice.Invoice.{Invoice}
use Rattle.receivables.specs.Invoices.{balances, is_past_due, unsettled}
use Rattle.receivables.specs.Listed.{listed}
use Rattle.receivables.specs.Run.{drawn_all, helds, outcome}
use Rattle.receivables.proofs.Lists.{lists, unlists, kept-listed, run-kept, length-kept, length-after}
use Rattle.receivables.proofs.Owed.{balances-fit}
use Rattle.receivables.proofs.RunLaws.{run-law}
use Rattle.receivables.proofs.book.Receivables.past_due.Goals as goal

pub draw_all-outcome-requires : goal.draw_all-outcome-requires
draw_all-outcome-requires g c =
    let r = c.args.self.now in
    subst (λ vs. balances vs < 2 ^ 64) (sym c.as_mut_slice.ensures.value) (balances-fit 1 r.next (vec_items r.list) r.numbered (lists 1 r.next (vec_items r.list) r.sound))

-- the invoices after the run, with the settled ones out: the list lent was vs, and came back as ws
swept : {Z : Type 0} (past : Invoice → Bool) (hs : List ℕ) (v : Vec Invoice Z) (vs ws out : List Invoice) → vs ≡ vec_items v → ws ≡ drawn_all past vs hs → out ≡ filter unsettled (vec_items (with_items v ws))
    → out ≡ filter unsettled (drawn_all past (vec_items v) hs)
swept past hs v vs ws out lent ran kept =
    let ran' : ws ≡ drawn_all past (vec_items v) hs = ran ∙ ap (λ xs. drawn_all past xs hs) lent in
    let long : length ws ≡ v.len = ap length ran' ∙ length-after past (vec_items v) hs ∙ sym v.ok.0 in
    kept ∙ ap (filter unsettled) (with_items_is v ws long ∙ ran')

pub invariant_of-self-clause-few : goal.invariant_of-self-clause-few
invariant_of-self-clause-few g c =
    let r = c.args.self.now in
    let all = drawn_all (is_past_due (when c.args.at)) (vec_items r.list) (map g.I.Instrument.held c.args.row.now) in
    let left = swept (is_past_due (when c.args.at)) (map g.I.Instrument.held c.args.row.now) r.list _ _ _ c.as_mut_slice.ensures.value c.draw_all-outcome.ensures.list c.sweep.ensures.items in
    omega (arith, c.sweep.new.list.ok.0, ap length left, length-kept unsettled all, length-after (is_past_due (when c.args.at)) (vec_items r.list) (map g.I.Instrument.held c.args.row.now), r.list.ok.0, r.few)

pub invariant_of-self-clause-sound : goal.invariant_of-self-clause-sound
invariant_of-self-clause-sound g c =
    let r = c.args.self.now in
    let vs = vec_items r.list in
    let hs = map g.I.Instrument.held c.args.row.now in
    let past = is_past_due (when c.args.at) in
    let l = lists 1 r.next vs r.sound in
    let left = swept past hs r.list _ _ _ c.as_mut_slice.ensures.value c.draw_all-outcome.ensures.list c.sweep.ensures.items in
    ap (listed 1 r.next) left ∙ unlists 1 r.next _ (kept-listed 1 r.next vs (drawn_all past vs hs) (run-kept past 1 r.next vs hs l) l)

pub returns-clause-law : goal.returns-clause-law
returns-clause-law g c =
    let r = c.args.self.now in
    let vs = vec_items r.list in
    let hs = map g.I.Instrument.held c.args.row.now in
    let past = is_past_due (when c.args.at) in
    let e = c.draw_all-outcome.ensures in
    let v = c.as_mut_slice.ensures.value in
    let outcomes : c.draw_all-outcome.result ≡ outcome past vs hs = rw v at e.outcome in
    let rows : map g.I.Instrument.held c.draw_all-outcome.new.row ≡ helds past vs hs = rw v at e.helds in
    let left : vec_items c.sweep.new.list ≡ filter unsettled (drawn_all past vs hs) = swept past hs r.list _ _ _ v e.list c.sweep.ensures.items in
    rw (left, rows, outcomes) (run-law (when c.args.at) 1 r.next vs hs (lists 1 r.next vs r.sound))
