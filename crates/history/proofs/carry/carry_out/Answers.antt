use Rattle.std.proofs.Common.{◌≡◌, ℕ, [], map, vec_items, sym, subst, arith}
use Rattle.std.proofs.lemmas.List.{take_all}
use Rattle.ledger.specs.Model.{model_of}
use Rattle.ledger.specs.Secure.{row_of}
use Rattle.history.specs.Calls.{request_of, reply_of}
use Rattle.history.specs.Places.{state_of}
use Rattle.history.specs.Whole.{WholeHistory}
use Rattle.history.proofs.Pushes.{whole_more, whole-none}
use Rattle.history.proofs.carry.carry_out.Goals as goal

pub loop-call-init : goal.loop-call-init
loop-call-init g c =
    let row = row_of g.I.Instrument.held g.I.Instrument.room c.args.row.now in
    let new = c.in_ok-replies.ensures in
    let none = whole-none c.args.account row in
    let first = subst (λ m. WholeHistory c.args.account [] [] row (record { ledger = m; row = row })) (sym c.in_ok-ledger.ensures) none in
    (new.len, new.capacity, subst (λ rs. WholeHistory c.args.account [] (map reply_of rs) row (record { ledger = model_of c.in_ok-ledger.ledger; row = row })) (sym new.items) first)

pub loop-call-preserved : goal.loop-call-preserved
loop-call-preserved g c =
    let i = c.loop-call.invariant in
    let held = g.I.Instrument.held in
    let room = g.I.Instrument.room in
    let row = row_of held room c.args.row.now in (
      omega (arith, i.0, c.push_reserved.ensures.len),
      omega (arith, i.1, c.push_reserved.ensures.capacity),
      whole_more (request_of g.C.Calendar.meaning) reply_of c.args.account c.args.calls.now (vec_items c.loop-call.replies) (vec_items c.push_reserved.new.self) row (state_of held room c.loop-call.ledger c.loop-call.row) (state_of held room c.make.new.ledger c.make.new.row) c.loop-call.call-index c.call-item.result c.make.result c.loop-call-test.true c.call-item.is c.push_reserved.ensures.items i.2 c.make.ensures.step c.make.ensures.places,
    )

pub returns : goal.returns
returns g c =
    let all = take_all c.loop-call.call-index c.args.calls.now c.loop-call-test.false in
    record {
      history = subst (λ qs. WholeHistory c.args.account (map (request_of g.C.Calendar.meaning) qs) (map reply_of (vec_items c.loop-call.replies)) (row_of g.I.Instrument.held g.I.Instrument.room c.args.row.now) (state_of g.I.Instrument.held g.I.Instrument.room c.loop-call.ledger c.loop-call.row)) all c.loop-call.invariant.2;
      refused = λ e. let z : ◌≡◌ {A = ℕ} 0 1 = cc in absurd (omega arith);
    }
