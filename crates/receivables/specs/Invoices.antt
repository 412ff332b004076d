-- What becomes of an invoice by each event, and when it is past due. Assumes nothing.
use Rattle.std.specs.Prelude.{ℕ, ◌-◌, Bool, true, false, cond, not, List, sum_by, ◌==◌, nat_lt, codes}
use Rattle.foundation.specs.Limits.{due_minute}
use Rattle.calendar.specs.Moments.{When, before}
use Rattle.receivables.specs.declared.invoice.State.{State}
use Rattle.receivables.specs.declared.invoice.State.TheVariants.{Open, Short, Settled}
use Rattle.receivables.specs.declared.invoice.Event.{Event}
use Rattle.receivables.specs.declared.invoice.Event.TheVariants.{Payment, Draw, PastDue}
use Rattle.receivables.specs.declared.invoice.Invoice.{Invoice}

-- the invoice with another balance and state
abbrev pub with_state : Invoice → ℕ → State → Invoice
with_state v b s = record { number = v.number; billed = v.billed; position = v.position; balance = b; due_day = v.due_day; state = s }

-- a payment or draw of n lowers the balance; at 0 the invoice is settled
abbrev pub lowered : Invoice → ℕ → Invoice
lowered v n = with_state v (v.balance - n) (cond (nat_lt n v.balance) v.state Settled)

abbrev pub told_unsettled : Invoice → Event → Invoice
told_unsettled v (Payment n) = lowered v n
told_unsettled v (Draw n) = lowered v n
told_unsettled v PastDue = with_state v v.balance Short

-- nothing happens to a settled invoice any more
abbrev pub told_in : State → Invoice → Event → Invoice
told_in Open v e = told_unsettled v e
told_in Short v e = told_unsettled v e
told_in Settled v e = v

abbrev pub told : Invoice → Event → Invoice
told v e = told_in v.state v e

abbrev pub is_settled : State → Bool
is_settled Open = false
is_settled Short = false
is_settled Settled = true

-- how a state is printed
abbrev pub state_name : State → List ℕ
state_name Open = codes "open"
state_name Short = codes "short"
state_name Settled = codes "settled"

abbrev pub unsettled : Invoice → Bool
unsettled v = not (is_settled v.state)

-- past due after minute 1,020 of the due day
abbrev pub is_past_due : When → Invoice → Bool
is_past_due at v = before (record { day = v.due_day; minute = due_minute }) at

-- what is owed on all invoices together
abbrev pub balances : List Invoice → ℕ
balances vs = sum_by (λ v. v.balance) vs

-- what a Counter-Party owes on its invoices
abbrev pub owed_by : List Invoice → ℕ → ℕ
owed_by vs party = sum_by (λ v. cond (v.billed == party) v.balance 0) vs

-- what stands past a list's end
abbrev pub nothing : Invoice
nothing = record { number = 0; billed = 0; position = 0; balance = 0; due_day = 0; state = Open }
