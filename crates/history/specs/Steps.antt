-- One call, from what ledger and row hold to what they hold after it. Assumes nothing.
use Rattle.std.specs.Prelude.{◌≡◌, ℕ, List, map}
use Rattle.foundation.specs.Questions.{after}
use Rattle.receivables.specs.Invoices.{is_past_due}
use Rattle.receivables.specs.Run.{helds}
use Rattle.ledger.specs.declared.fault.Fault.TheVariants.{Registry}
use Rattle.ledger.specs.Bill.{bill_answer, billed}
use Rattle.ledger.specs.Enrolment.{register_answer, registered, enrol_answer, enrolled}
use Rattle.ledger.specs.Model.{Model, at, with_register}
use Rattle.ledger.specs.Pay.{pay_answer, paid}
use Rattle.ledger.specs.Raised.{raised}
use Rattle.ledger.specs.Secure.{Security, fund_answer, funded, run_answer, ran, report_answer}
use Rattle.history.specs.Requests.{Request, register, enrol, bill, pay, fund, run, report, Reply, replied, done, issued, left, holds, drew, tells}

-- a ledger and its row of instruments
pub record State : Type 0 where
  pub ledger : Model
  pub row : List Security

abbrev pub helds_of : List Security → List ℕ
helds_of row = map (λ x. x.held) row

abbrev pub Step : State → Request → Reply → State → Type 0
Step s (register p) r t =
    (r ≡ replied (λ _. done) (raised Registry (register_answer s.ledger.register p)))
    × (t.ledger ≡ after r (with_register s.ledger (registered s.ledger.register p)) s.ledger)
    × (t.row ≡ s.row)
Step s (enrol m p) r t =
    (r ≡ replied (λ _. done) (raised Registry (enrol_answer s.ledger.register m p)))
    × (t.ledger ≡ after r (with_register s.ledger (enrolled s.ledger.register m p)) s.ledger)
    × (t.row ≡ s.row)
Step s (bill table month amount day minute cal) r t =
    (r ≡ replied issued (bill_answer s.ledger table month amount day minute cal))
    × (t.ledger ≡ after r (billed s.ledger table month amount day minute cal) s.ledger)
    × (t.row ≡ s.row)
Step s (pay day minute account amount remark) r t =
    (r ≡ replied left (pay_answer s.ledger day minute account amount remark))
    × (t.ledger ≡ after r (paid s.ledger day minute amount remark) s.ledger)
    × (t.row ≡ s.row)
Step s (fund p m n) r t =
    (r ≡ replied holds (fund_answer s.ledger s.row p m n))
    × (t.ledger ≡ s.ledger)
    × (helds_of t.row ≡ after r (funded s.ledger (helds_of s.row) p n) (helds_of s.row))
Step s (run day minute) r t =
    (r ≡ replied drew (run_answer s.ledger (helds_of s.row) day minute))
    × (t.ledger ≡ after r (ran s.ledger (helds_of s.row) day minute) s.ledger)
    × (helds_of t.row ≡ after r (helds (is_past_due (at day minute)) s.ledger.book.invoices (helds_of s.row)) (helds_of s.row))
Step s (report p) r t =
    (r ≡ replied tells (report_answer s.ledger (helds_of s.row) p))
    × (t.ledger ≡ s.ledger)
    × (t.row ≡ s.row)
