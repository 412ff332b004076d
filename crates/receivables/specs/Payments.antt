-- A payment on the invoice with a number. Assumes nothing.
use Rattle.std.specs.Prelude.{ℕ, ◌-◌, Bool, false, cond, ◌&&◌, ◌||◌, List, [], ◌∷◌, map, Some, None, filter, Option, Result, ◌==◌, nat_le}
use Rattle.foundation.specs.Questions.{Question, asks, verdict}
use Rattle.receivables.specs.declared.fault.Fault.{Fault}
use Rattle.receivables.specs.declared.fault.Fault.TheVariants as fault
use Rattle.receivables.specs.declared.invoice.Event.TheVariants.{Payment}
use Rattle.receivables.specs.declared.invoice.Invoice.{Invoice}
use Rattle.receivables.specs.Books.{Book, with_invoices}
use Rattle.receivables.specs.Invoices.{told, unsettled}

-- has an unsettled invoice the number?
abbrev pub has_number : List Invoice → ℕ → Bool
has_number [] n = false
has_number (v ∷ vs) n = v.number == n || has_number vs n

-- the balance of the invoice with a number, 0 where there is none
abbrev pub balance_of : List Invoice → ℕ → ℕ
balance_of [] n = 0
balance_of (v ∷ vs) n = cond (v.number == n) v.balance (balance_of vs n)

-- whom the invoice with a number bills, nobody where there is none
abbrev pub billed_of : List Invoice → ℕ → Option ℕ
billed_of [] n = None
billed_of (v ∷ vs) n = cond (v.number == n) (Some v.billed) (billed_of vs n)

-- n for the Counter-Party that is billed, and 0 for any other
abbrev pub counts_for : ℕ → Option ℕ → ℕ → ℕ
counts_for party None n = 0
counts_for party (Some billed) n = cond (billed == party) n 0

abbrev pub pay_asks : Book → ℕ → ℕ → ℕ → List (Question Fault)
pay_asks b n account amount =
    asks (has_number b.invoices n) fault.Number
    ∷ asks (account == b.account) fault.Account
    ∷ asks (nat_le 1 amount && nat_le amount (balance_of b.invoices n)) fault.Amount
    ∷ []

-- a payment answers the balance left
abbrev pub pay_answer : Book → ℕ → ℕ → ℕ → Result ℕ Fault
pay_answer b n account amount = verdict (pay_asks b n account amount) (balance_of b.invoices n - amount)

-- the invoice with the number is told of the payment
abbrev pub paid_on : ℕ → ℕ → Invoice → Invoice
paid_on n amount v = cond (v.number == n) (told v (Payment amount)) v

-- a settled invoice gives up its place
abbrev pub after_pay : Book → ℕ → ℕ → Book
after_pay b n amount = with_invoices b (filter unsettled (map (paid_on n amount) b.invoices))
