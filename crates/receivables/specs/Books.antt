-- What the struct of receivables holds. Assumes nothing.
use Rattle.std.specs.Prelude.{ℕ, List, [], vec_items}
use Rattle.receivables.specs.declared.book.Receivables.{Receivables}
use Rattle.receivables.specs.declared.invoice.Invoice.{Invoice}

-- the unsettled invoices by rising number, the number of the next one, and the account
pub record Book : Type 0 where
  pub invoices : List Invoice
  pub next : ℕ
  pub account : ℕ

abbrev pub book_of : {places : ℕ} → Receivables places → Book
book_of r = record { invoices = vec_items r.list; next = r.next; account = r.account }

-- numbers start at 1
abbrev pub new_book : ℕ → Book
new_book account = record { invoices = []; next = 1; account = account }

abbrev pub with_invoices : Book → List Invoice → Book
with_invoices b vs = record { invoices = vs; next = b.next; account = b.account }
