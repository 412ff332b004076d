-- A run draws for past-due invoices alone. Assumes nothing.
use Rattle.std.specs.Prelude.{◌≡◌, ℕ, ◌+◌, ◌-◌, Bool, cond, List, Ok, Err, sum_by, ◌==◌}
use Rattle.receivables.specs.declared.invoice.Invoice.{Invoice}
use Rattle.receivables.specs.Invoices.{is_past_due}
use Rattle.ledger.specs.Model.{at}
use Rattle.history.specs.Requests.{Request, register, enrol, bill, pay, fund, run, report, Reply}
use Rattle.history.specs.Steps.{State}
use Rattle.history.specs.Histories.{invoices_of, held_by}

-- what a Counter-Party owes on its past-due invoices
abbrev pub past_due_by : (Invoice → Bool) → List Invoice → ℕ → ℕ
past_due_by past vs p = sum_by (λ v. cond (past v) (cond (v.billed == p) v.balance 0) 0) vs

-- what an accepted run from s to t draws from a Counter-Party is what the balances of its past-due invoices fell by
abbrev pub DrawnForPastDue : State → Request → Reply → State → Type 0
DrawnForPastDue s q (Err f) t = Unit {0}
DrawnForPastDue s (register p) (Ok x) t = Unit {0}
DrawnForPastDue s (enrol m p) (Ok x) t = Unit {0}
DrawnForPastDue s (bill table month amount day minute cal) (Ok x) t = Unit {0}
DrawnForPastDue s (pay day minute account amount remark) (Ok x) t = Unit {0}
DrawnForPastDue s (fund p m n) (Ok x) t = Unit {0}
DrawnForPastDue s (run day minute) (Ok x) t = (p : ℕ) → past_due_by (is_past_due (at day minute)) (invoices_of s) p ≡ (held_by s p - held_by t p) + past_due_by (is_past_due (at day minute)) (invoices_of t) p
DrawnForPastDue s (report p) (Ok x) t = Unit {0}
