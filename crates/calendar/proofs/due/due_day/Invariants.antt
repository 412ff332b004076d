use Rattle.calendar.proofs.Dues.{SoFar}
use Rattle.calendar.proofs.due.due_day.Given as goal

abbrev pub invariant-loop-after : goal.invariant-loop-after
invariant-loop-after g l = SoFar (g.C.Calendar.meaning l.calendar) l.invoice_day l.after l.bank_days
