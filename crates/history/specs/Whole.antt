-- A history with what else holds of its calls. Assumes nothing.
use Rattle.std.specs.Prelude.{ℕ, List}
use Rattle.std.specs.List.{AllByRecursion}
use Rattle.ledger.specs.Secure.{Security}
use Rattle.history.specs.Requests.{Request, Reply}
use Rattle.history.specs.Steps.{State}
use Rattle.history.specs.Histories.{History}
use Rattle.history.specs.Places.{PlacesKept}
use Rattle.history.specs.PastDue.{DrawnForPastDue}

pub record WholeHistory (account : ℕ) (requests : List Request) (replies : List Reply) (row : List Security) (end : State) : Type 0 where
  pub history : History account requests replies row end
  -- at each place of the row, what a funding or a run leaves
  pub places : AllByRecursion (λ m. PlacesKept m.before m.request m.reply m.next) history.moments
  -- every accepted run draws for past-due invoices alone
  pub drawn : AllByRecursion (λ m. DrawnForPastDue m.before m.request m.reply m.next) history.moments
