-- A run draws for past-due invoices alone. Assumes nothing.
use Rattle.std.proofs.Common.{◌≡◌, ℕ, ◌+◌, ◌-◌, List, [], ◌∷◌, Ok, Err, ap, subst, ◌∙◌, arith}
use Rattle.std.specs.List.{AllByRecursion}
use Rattle.receivables.specs.Invoices.{is_past_due}
use Rattle.ledger.specs.Model.{at}
use Rattle.history.specs.Requests.{Request, register, enrol, bill, pay, fund, run, report, Answer, Reply}
use Rattle.history.specs.Steps.{State, helds_of, Step}
use Rattle.history.specs.Histories.{Moment, Linked, invoices_of, held_by}
use Rattle.history.specs.PastDue.{past_due_by, DrawnForPastDue}
use Rattle.history.proofs.NotDue.{not_due_by, owed-parts, not-due-stays}
use Rattle.history.proofs.Keeps.{SoundState, sound-step}
use Rattle.history.proofs.Effects.{cents-step}

drawn-only : (s t : State) (day minute : ℕ) (x : Answer) (p : ℕ) → Step s (run day minute) (Ok x) t → SoundState s
    → past_due_by (is_past_due (at day minute)) (invoices_of s) p ≡ (held_by s p - held_by t p) + past_due_by (is_past_due (at day minute)) (invoices_of t) p
drawn-only s t day minute x p h ok =
    let past = is_past_due (at day minute) in
    let same : not_due_by past (invoices_of t) p ≡ not_due_by past (invoices_of s) p = ap (λ l. not_due_by past l.book.invoices p) h.1 ∙ not-due-stays (at day minute) p 1 s.ledger.book.next (invoices_of s) (helds_of s.row) ok.listed in
    omega (arith, cents-step p s t (run day minute) (Ok x) h ok, owed-parts past p (invoices_of s), owed-parts past p (invoices_of t), same)

pub drawn-step : (s t : State) (q : Request) (r : Reply) → Step s q r t → SoundState s → DrawnForPastDue s q r t
drawn-step s t q (Err f) h ok = tt
drawn-step s t (register p) (Ok x) h ok = tt
drawn-step s t (enrol m p) (Ok x) h ok = tt
drawn-step s t (bill table month amount day minute cal) (Ok x) h ok = tt
drawn-step s t (pay day minute account amount remark) (Ok x) h ok = tt
drawn-step s t (fund p m n) (Ok x) h ok = tt
drawn-step s t (run day minute) (Ok x) h ok = λ p. drawn-only s t day minute x p h ok
drawn-step s t (report p) (Ok x) h ok = tt

pub drawn-all : (s t : State) (ms : List Moment) → Linked s ms t → SoundState s → AllByRecursion (λ m. DrawnForPastDue m.before m.request m.reply m.next) ms
drawn-all s t [] h ok = tt
drawn-all s t (m ∷ ms) h ok =
    let here = subst SoundState h.0 ok in
    (drawn-step m.before m.next m.request m.reply h.1 here, drawn-all m.next t ms h.2 (sound-step m.before m.next m.request m.reply h.1 here))
