use Rattle.std.proofs.Common.{◌≡◌, ◌+◌, ◌<◌, true, map, length, get_or, set, sym, ◌∙◌, arith}
use Rattle.calendar.specs.Moments.{when}
use Rattle.receivables.specs.Invoices.{is_past_due, nothing}
use Rattle.receivables.proofs.Runs.{Going, late-turn, early-turn, next-all, drawn-within, owed-within}
use Rattle.receivables.proofs.draws.draw_all.Given as given
use Rattle.receivables.proofs.draws.draw_all.Goals as goal
use Rattle.receivables.proofs.draws.draw_all.Goals.{then-is_past_due, else-is_past_due}

-- a run's turn at a past-due invoice
turn : (g : given.Over) (c : goal.After-row-1 g)
    → Going (is_past_due (when c.args.at)) c.args.list.now (map g.I.Instrument.held c.args.row.now) (c.loop-invoice.invoice-index + 1)
    (set c.loop-invoice.list c.loop-invoice.invoice-index c.collect-drawn.new.invoice) (map g.I.Instrument.held c.collect-drawn.new.row)
    (c.loop-invoice.drawn + c.collect-drawn.result) (c.loop-invoice.owed + c.collect-drawn.new.invoice.balance)
turn g c =
    let l : c.loop-invoice.invoice-index < length c.loop-invoice.list = omega arith in
    let e = c.collect-drawn.ensures in
    late-turn c.loop-invoice.invariant.0 l (sym c.if-is_past_due.ensures) _ _ _ e.invoice e.helds e.paid

pub overflow_add-drawn : goal.overflow_add-drawn
overflow_add-drawn g c = omega (arith, drawn-within (turn g c), c.requires)

pub overflow_add-owed : goal.overflow_add-owed
overflow_add-owed g c = omega (arith, owed-within (turn g c), c.requires)

pub loop-invoice-preserved : goal.loop-invoice-preserved
loop-invoice-preserved g c =
    let l : c.loop-invoice.invoice-index < length c.loop-invoice.list = omega arith in
    let s = c.loop-invoice.invariant.0 in
    elim c.if-is_past_due.branch [
      | then-is_past_due w ↦
          let e = w.collect-drawn.ensures in
          let t : is_past_due (when c.args.at) (get_or c.loop-invoice.list c.loop-invoice.invoice-index nothing) ≡ true = sym w.if-is_past_due.ensures in
          simp (w.list-is, w.row-is, w.drawn-is, w.owed-is) (
            late-turn s l t _ _ _ e.invoice e.helds e.paid,
            λ j d other. e.others j d (next-all s l _ other t) ∙ c.loop-invoice.invariant.1 j d other,
            λ j d m. omega (arith, c.loop-invoice.invariant.2 j d m, e.rooms j d m),
          )
      | else-is_past_due w ↦
          simp (w.list-is, w.row-is, w.drawn-is, w.owed-is)
          (early-turn s l (sym w.if-is_past_due.ensures), c.loop-invoice.invariant.1, c.loop-invoice.invariant.2)
    ]
