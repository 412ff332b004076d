-- What a call leaves at each place of the row. Assumes nothing.
use Rattle.std.specs.Prelude.{◌≡◌, ℕ, ◌≤◌, Bool, true, List, is_err, ◌≢◌, slice_index_or}
use Rattle.security.specs.declared.means.Means.{Means}
use Rattle.receivables.specs.declared.invoice.Invoice.{Invoice}
use Rattle.receivables.specs.Invoices.{is_past_due}
use Rattle.receivables.specs.Laws.{Untouched}
use Rattle.ledger.specs.declared.ledger.Ledger.{Ledger}
use Rattle.ledger.specs.Model.{model_of, at}
use Rattle.ledger.specs.Secure.{Security, row_of, no_security, party_at}
use Rattle.history.specs.Requests.{Request, register, enrol, bill, pay, fund, run, report, Reply}
use Rattle.history.specs.Steps.{State}

-- a ledger and its row, by what its kind of instrument holds and has room for
abbrev pub state_of : {I : Type 0} → (I → ℕ) → (I → Means → ℕ) → Ledger → List I → State
state_of held room l row = record { ledger = model_of l; row = row_of held room row }

-- a funding at place k: the other places stand, no room rises, and nothing changes where it is refused
pub record FundedAt (k : ℕ) (r : Reply) (row later : List Security) : Type 0 where
  pub others : (j : ℕ) → (j ≢ k) → slice_index_or later j no_security ≡ slice_index_or row j no_security
  pub rooms : (j : ℕ) (m : Means) → (slice_index_or later j no_security).room m ≤ (slice_index_or row j no_security).room m
  pub refused : is_err r ≡ true → later ≡ row

-- a run that finds these invoices: a place that no past-due invoice draws on stands, no room falls, and nothing
-- changes where it is refused
pub record DrawnFrom (past : Invoice → Bool) (vs : List Invoice) (r : Reply) (row later : List Security) : Type 0 where
  pub others : (j : ℕ) → Untouched past j vs → slice_index_or later j no_security ≡ slice_index_or row j no_security
  pub rooms : (j : ℕ) (m : Means) → (slice_index_or row j no_security).room m ≤ (slice_index_or later j no_security).room m
  pub refused : is_err r ≡ true → later ≡ row

abbrev pub PlacesKept : State → Request → Reply → State → Type 0
PlacesKept s (register p) r t = Unit {0}
PlacesKept s (enrol m p) r t = Unit {0}
PlacesKept s (bill table month amount day minute cal) r t = Unit {0}
PlacesKept s (pay day minute account amount remark) r t = Unit {0}
PlacesKept s (fund p m n) r t = FundedAt (party_at s.ledger p) r s.row t.row
PlacesKept s (run day minute) r t = DrawnFrom (is_past_due (at day minute)) s.ledger.book.invoices r s.row t.row
PlacesKept s (report p) r t = Unit {0}
