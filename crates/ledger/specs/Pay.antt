-- What a payment asks, answers and leaves. Assumes nothing.
use Rattle.std.specs.Prelude.{ℕ, ◌-◌, ◌&&◌, List, [], ◌∷◌, is_some, Some, Option, Result, ◌==◌, nat_le}
use Rattle.std.specs.Option.{unwrap_or}
use Rattle.foundation.specs.Questions.{Question, asks, verdict}
use Rattle.calendar.specs.Moments.{When, is_moment}
use Rattle.remarks.specs.Remarks.{named}
use Rattle.receivables.specs.declared.fault.Fault.TheVariants as receivable
use Rattle.receivables.specs.Payments.{has_number, balance_of, after_pay}
use Rattle.ledger.specs.declared.fault.Fault.{Fault}
use Rattle.ledger.specs.declared.fault.Fault.TheVariants.{NoMoment, Before, Remark, Receivable}
use Rattle.ledger.specs.Model.{Model, in_order}

abbrev pub moment_asks : Model → ℕ → ℕ → List (Question Fault)
moment_asks s day minute = asks (is_moment day minute) NoMoment ∷ asks (in_order s.moment (record { day = day; minute = minute })) Before ∷ []

abbrev pub moment_answer : Model → ℕ → ℕ → Result When Fault
moment_answer s day minute = verdict (moment_asks s day minute) (record { day = day; minute = minute })

-- the number that a payment's remark names: five digits at most
abbrev pub pay_number : List ℕ → Option ℕ
pay_number remark = named 5 remark

-- the invoice that a payment goes to
abbrev pub payee : List ℕ → ℕ
payee remark = unwrap_or (pay_number remark) 0

abbrev pub pay_asks : Model → ℕ → ℕ → ℕ → ℕ → List ℕ → List (Question Fault)
pay_asks s day minute account amount remark =
    asks (is_moment day minute) NoMoment
    ∷ asks (in_order s.moment (record { day = day; minute = minute })) Before
    ∷ asks (is_some (pay_number remark)) Remark
    ∷ asks (has_number s.book.invoices (payee remark)) (Receivable receivable.Number)
    ∷ asks (account == s.book.account) (Receivable receivable.Account)
    ∷ asks (nat_le 1 amount && nat_le amount (balance_of s.book.invoices (payee remark))) (Receivable receivable.Amount)
    ∷ []

abbrev pub pay_answer : Model → ℕ → ℕ → ℕ → ℕ → List ℕ → Result ℕ Fault
pay_answer s day minute account amount remark = verdict (pay_asks s day minute account amount remark) (balance_of s.book.invoices (payee remark) - amount)

abbrev pub paid : Model → ℕ → ℕ → ℕ → List ℕ → Model
paid s day minute amount remark = record {
  register = s.register;
  book = after_pay s.book (payee remark) amount;
  charges = s.charges;
  moment = Some (record { day = day; minute = minute });
  month = s.month;
}
