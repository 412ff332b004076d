-- What a ledger means. Assumes nothing.
use Rattle.std.specs.Prelude.{ℕ, Bool, true, not, List, replicate, Some, None, Option, nat_lt}
use Rattle.std.specs.Option.{option_map}
use Rattle.foundation.specs.Limits.{most_counter_parties}
use Rattle.calendar.specs.Moments.{When, when, before}
use Rattle.ledger.specs.Charges.{charges_in}
use Rattle.ledger.specs.Registries.{Register, register_of, nobody}
use Rattle.receivables.specs.Books.{Book, book_of, new_book}
use Rattle.ledger.specs.declared.ledger.Ledger.{Ledger}

-- who is registered and enrolled; the unsettled invoices; each Counter-Party's charge in the last accepted
-- bill, by position, 0 elsewhere; the last accepted moment; the last month billed
pub record Model : Type 0 where
  pub register : Register
  pub book : Book
  pub charges : List ℕ
  pub moment : Option When
  pub month : Option ℕ

abbrev pub model_of : Ledger → Model
model_of l = record { register = register_of l.registry; book = book_of l.receivables; charges = charges_in l.charges; moment = option_map when l.moment; month = l.month }

abbrev pub new_model : ℕ → Model
new_model account = record { register = nobody; book = new_book account; charges = replicate most_counter_parties 0; moment = None; month = None }

abbrev pub at : ℕ → ℕ → When
at day minute = record { day = day; minute = minute }

-- not before the last accepted moment
abbrev pub in_order : Option When → When → Bool
in_order None at = true
in_order (Some last) at = not (before at last)

-- after the last month billed
abbrev pub is_later : Option ℕ → ℕ → Bool
is_later None month = true
is_later (Some last) month = nat_lt last month

abbrev pub with_register : Model → Register → Model
with_register s g = record { register = g; book = s.book; charges = s.charges; moment = s.moment; month = s.month }
