-- The past-due run: the invoices by rising number, each drawing on what those before it left. Assumes nothing.
use Rattle.std.specs.Prelude.{ℕ, ◌+◌, ◌-◌, min, Bool, cond, List, [], ◌∷◌, filter, slice_index, slice_set}
use Rattle.receivables.specs.declared.draws.Outcome.{Outcome}
use Rattle.receivables.specs.declared.invoice.Event.TheVariants.{Draw, PastDue}
use Rattle.receivables.specs.declared.invoice.Invoice.{Invoice}
use Rattle.receivables.specs.Books.{Book, with_invoices}
use Rattle.receivables.specs.Invoices.{told, unsettled}

-- what a draw of an invoice's balance pays, out of the cents held at each place of the row
abbrev pub paid : List ℕ → Invoice → ℕ
paid hs v = min v.balance (slice_index hs v.position)

-- the cents held after it
abbrev pub held_after : List ℕ → Invoice → List ℕ
held_after hs v = slice_set hs v.position (slice_index hs v.position - v.balance)

-- the invoice after it: settled, or short with what is left
abbrev pub drawn_on : List ℕ → Invoice → Invoice
drawn_on hs v = told (told v (Draw (paid hs v))) PastDue

module _ (past : Invoice → Bool) where
  -- the cents held at each place after the run
  abbrev pub helds : List Invoice → List ℕ → List ℕ
  helds [] hs = hs
  helds (v ∷ vs) hs = helds vs (cond (past v) (held_after hs v) hs)

  -- the invoices after the run, the settled ones still among them
  abbrev pub drawn_all : List Invoice → List ℕ → List Invoice
  drawn_all [] hs = []
  drawn_all (v ∷ vs) hs = cond (past v) (drawn_on hs v) v ∷ drawn_all vs (cond (past v) (held_after hs v) hs)

  -- the cents drawn, and those still owed on past-due invoices
  abbrev pub drawn : List Invoice → List ℕ → ℕ
  drawn [] hs = 0
  drawn (v ∷ vs) hs = cond (past v) (paid hs v) 0 + drawn vs (cond (past v) (held_after hs v) hs)

  abbrev pub owed : List Invoice → List ℕ → ℕ
  owed [] hs = 0
  owed (v ∷ vs) hs = cond (past v) (drawn_on hs v).balance 0 + owed vs (cond (past v) (held_after hs v) hs)

  abbrev pub outcome : List Invoice → List ℕ → Outcome
  outcome vs hs = record { drawn = drawn vs hs; owed = owed vs hs }

  abbrev pub after_run : Book → List ℕ → Book
  after_run b hs = with_invoices b (filter unsettled (drawn_all b.invoices hs))
