use Rattle.std.proofs.Common.{◌≡◌, ℕ, ◌≤◌, map, get_or}
use Rattle.security.specs.declared.means.Means.{Means}
use Rattle.calendar.specs.Moments.{when}
use Rattle.receivables.specs.Invoices.{is_past_due}
use Rattle.receivables.specs.Laws.{Untouched}
use Rattle.receivables.proofs.Runs.{Going}
use Rattle.receivables.proofs.draws.draw_all.Given as goal

abbrev pub invariant-loop-invoice : goal.invariant-loop-invoice
invariant-loop-invoice g l =
    let held = g.I.Instrument.held in
    let past = is_past_due (when l.at) in
    Going past l.initial.list (map held l.initial.row) l.invoice-index l.list (map held l.row) l.drawn l.owed
    × ((j : ℕ) (d : _) → Untouched past j l.initial.list → get_or l.row j d ≡ get_or l.initial.row j d)
    × ((j : ℕ) (d : _) (m : Means) → g.I.Instrument.room (get_or l.initial.row j d) m ≤ g.I.Instrument.room (get_or l.row j d) m)
