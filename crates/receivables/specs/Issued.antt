-- The invoices of a bill: one for each charge above 0, in their order, with rising numbers. Assumes nothing.
use Rattle.std.specs.Prelude.{ℕ, ◌+◌, Bool, cond, ◌&&◌, List, [], ◌∷◌, ◌++◌, length, sum_by, Result, ◌==◌, nat_le, nat_lt}
use Rattle.foundation.specs.Questions.{asks, verdict}
use Rattle.receivables.specs.declared.charge.Charge.{Charge}
use Rattle.receivables.specs.declared.charge.Issued.{Issued}
use Rattle.receivables.specs.declared.fault.Fault.{Fault}
use Rattle.receivables.specs.declared.fault.Fault.TheVariants.{Places}
use Rattle.receivables.specs.declared.invoice.Invoice.{Invoice}
use Rattle.receivables.specs.declared.invoice.State.TheVariants.{Open}
use Rattle.receivables.specs.Books.{Book}

-- an invoice starts open with its charge as balance
abbrev pub issued : ℕ → ℕ → Charge → Invoice
issued n due c = record { number = n; billed = c.billed; position = c.position; balance = c.cents; due_day = due; state = Open }

-- how many charges are above 0
abbrev pub positive : List Charge → ℕ
positive [] = 0
positive (c ∷ cs) = cond (nat_lt 0 c.cents) (1 + positive cs) (positive cs)

-- the invoices for charges, with numbers from n on
abbrev pub issued_from : ℕ → ℕ → List Charge → List Invoice
issued_from n due [] = []
issued_from n due (c ∷ cs) = cond (nat_lt 0 c.cents) (issued n due c ∷ issued_from (n + 1) due cs) (issued_from n due cs)

-- what the charges ask of a Counter-Party
abbrev pub charged_to : List Charge → ℕ → ℕ
charged_to cs party = sum_by (λ c. cond (c.billed == party) c.cents 0) cs

-- is there a place for each? Numbers have 32 bits
abbrev pub are_places : ℕ → Book → List Charge → Bool
are_places places b cs = nat_le (length b.invoices + positive cs) places && nat_le (b.next + positive cs) 4294967295

abbrev pub issue_answer : ℕ → Book → List Charge → Result Issued Fault
issue_answer places b cs = verdict (asks (are_places places b cs) Places ∷ []) (record { count = positive cs; first = b.next })

abbrev pub after_issue : Book → ℕ → List Charge → Book
after_issue b due cs = record { invoices = b.invoices ++ issued_from b.next due cs; next = b.next + positive cs; account = b.account }
