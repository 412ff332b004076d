-- What the ledger's own contracts say of a funding, a run and a report is the step of that call, and what it leaves at each place. Assumes nothing.
use Rattle.std.proofs.Common.{◌≡◌, ℕ, ◌≤◌, true, List, map, length, get_or, is_err, Ok, Err, Result, sym, refl, ap, ◌∙◌}
use Rattle.foundation.specs.Questions.{after}
use Rattle.security.specs.declared.means.Means.{Means}
use Rattle.receivables.specs.declared.draws.Outcome.{Outcome}
use Rattle.receivables.specs.Invoices.{is_past_due}
use Rattle.receivables.specs.Laws.{Untouched}
use Rattle.receivables.specs.Run.{helds}
use Rattle.ledger.specs.declared.answers.Report.{Report}
use Rattle.ledger.specs.declared.fault.Fault.{Fault}
use Rattle.ledger.specs.Model.{Model, at}
use Rattle.ledger.specs.Secure.{row_of, party_at, fund_answer, funded, run_answer, ran, report_answer}
use Rattle.history.specs.Requests.{fund, run, report, Answer, Reply, replied, holds, drew, tells}
use Rattle.history.specs.Places.{PlacesKept}
use Rattle.history.specs.Steps.{helds_of, Step}
use Rattle.history.proofs.Rows.{helds-of, same-places, fewer-rooms}

-- an answer decides what is there after a call, also when it is seen as a reply
after-replied : {X Y : Type 0} (f : X → Answer) (a : Result X Fault) (new old : Y) → after (replied f a) new old ≡ after a new old
after-replied f (Ok x) new old = refl
after-replied f (Err e) new old = refl

err-replied : {X : Type 0} (f : X → Answer) (a : Result X Fault) → is_err (replied f a) ≡ is_err a
err-replied f (Ok x) = refl
err-replied f (Err e) = refl

module _ {I : Type 0} (held : I → ℕ) (room : I → Means → ℕ) (s : Model) (row later : List I) (long : length later ≡ length row) where
  pub fund-step : (p m n : ℕ) (a : Result ℕ Fault) (r : Reply)
      → a ≡ fund_answer s (row_of held room row) p m n
      → map held later ≡ after a (funded s (map held row) p n) (map held row)
      → r ≡ replied holds a
      → Step (record { ledger = s; row = row_of held room row }) (fund p m n) r (record { ledger = s; row = row_of held room later })
  fund-step p m n a r is hs e = (
    e ∙ ap (replied holds) is,
    refl,
    helds-of held room later ∙ hs ∙ sym (ap (λ l. after a (funded s l p n) l) (helds-of held room row)) ∙ sym (after-replied holds a _ _) ∙ ap (λ x. after x (funded s (helds_of (row_of held room row)) p n) (helds_of (row_of held room row))) (sym e),
  )

  pub fund-places : (p m n : ℕ) (a : Result ℕ Fault) (r : Reply)
      → ((j : ℕ) (d : I) → (j ≡ party_at s p → ⊥) → get_or later j d ≡ get_or row j d)
      → ((j : ℕ) (d : I) (k : Means) → room (get_or later j d) k ≤ room (get_or row j d) k)
      → (is_err a ≡ true → later ≡ row)
      → r ≡ replied holds a
      → PlacesKept (record { ledger = s; row = row_of held room row }) (fund p m n) r (record { ledger = s; row = row_of held room later })
  fund-places p m n a r others rooms refused e =
      record {
        others = same-places held room (λ j. j ≡ party_at s p → ⊥) later row long others;
        rooms = fewer-rooms held room row later long rooms;
        refused = λ err. ap (row_of held room) (refused (sym (err-replied holds a) ∙ ap is_err (sym e) ∙ err));
      }

  pub run-step : (t : Model) (day minute : ℕ) (a : Result Outcome Fault) (r : Reply)
      → a ≡ run_answer s (map held row) day minute
      → t ≡ after a (ran s (map held row) day minute) s
      → map held later ≡ after a (helds (is_past_due (at day minute)) s.book.invoices (map held row)) (map held row)
      → r ≡ replied drew a
      → Step (record { ledger = s; row = row_of held room row }) (run day minute) r (record { ledger = t; row = row_of held room later })
  run-step t day minute a r is model hs e =
      let past = is_past_due (at day minute) in
      let here = helds-of held room row in (
        e ∙ ap (replied drew) is ∙ ap (λ l. replied drew (run_answer s l day minute)) (sym here),
        model ∙ ap (λ l. after a (ran s l day minute) s) (sym here) ∙ sym (after-replied drew a _ _) ∙ ap (λ x. after x (ran s (helds_of (row_of held room row)) day minute) s) (sym e),
        helds-of held room later ∙ hs ∙ sym (ap (λ l. after a (helds past s.book.invoices l) l) here) ∙ sym (after-replied drew a _ _) ∙ ap (λ x. after x (helds past s.book.invoices (helds_of (row_of held room row))) (helds_of (row_of held room row))) (sym e),
      )

  pub run-places : (t : Model) (day minute : ℕ) (a : Result Outcome Fault) (r : Reply)
      → ((j : ℕ) (d : I) → Untouched (is_past_due (at day minute)) j s.book.invoices → get_or later j d ≡ get_or row j d)
      → ((j : ℕ) (d : I) (k : Means) → room (get_or row j d) k ≤ room (get_or later j d) k)
      → (is_err a ≡ true → later ≡ row)
      → r ≡ replied drew a
      → PlacesKept (record { ledger = s; row = row_of held room row }) (run day minute) r (record { ledger = t; row = row_of held room later })
  run-places t day minute a r others rooms refused e =
      record {
        others = same-places held room (λ j. Untouched (is_past_due (at day minute)) j s.book.invoices) later row long others;
        rooms = fewer-rooms held room later row (sym long) rooms;
        refused = λ err. ap (row_of held room) (refused (sym (err-replied drew a) ∙ ap is_err (sym e) ∙ err));
      }

pub report-step : {I : Type 0} (held : I → ℕ) (room : I → Means → ℕ) (s : Model) (row : List I) (p : ℕ) (a : Result Report Fault) (r : Reply)
    → a ≡ report_answer s (map held row) p
    → r ≡ replied tells a
    → Step (record { ledger = s; row = row_of held room row }) (report p) r (record { ledger = s; row = row_of held room row })
report-step held room s row p a r is e = (e ∙ ap (replied tells) is ∙ ap (λ l. replied tells (report_answer s l p)) (sym (helds-of held room row)), refl, refl)
