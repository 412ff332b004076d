-- Every call leaves a sound ledger sound. Assumes nothing.
use Rattle.std.proofs.Common.{◌≡◌, ℕ, ◌≤◌, true, leb, List, get_or, Ok, Err, sum, Result, unwrap_or, sym, refl, ap, ◌∙◌, subst, arith, ltb-true, leb-true}
use Rattle.std.specs.List.{AllByRecursion}
use Rattle.std.proofs.lemmas.Bool.{and_parts}
use Rattle.foundation.specs.Questions.{Question, verdict}
use Rattle.foundation.proofs.Verdicts.{all_hold, all-ok, the_value}
use Rattle.calendar.specs.Due.{due_day_of}
use Rattle.activity.specs.Tables.{TableMeaning}
use Rattle.split.specs.Laws.{FairSplit}
use Rattle.split.proofs.Fairness.{fair}
use Rattle.receivables.specs.Invoices.{is_past_due}
use Rattle.ledger.specs.declared.fault.Fault.{Fault}
use Rattle.ledger.specs.declared.fault.Fault.TheVariants.{Registry}
use Rattle.ledger.specs.Bill.{activities_of, charges_of, laid_charges, bill_asks, charge_asks}
use Rattle.ledger.specs.Enrolment.{register_asks, register_answer}
use Rattle.ledger.specs.Model.{Model, at}
use Rattle.ledger.specs.Pay.{payee}
use Rattle.ledger.specs.Raised.{raised}
use Rattle.ledger.proofs.Bills.{small-charges}
use Rattle.history.specs.Requests.{Request, register, enrol, bill, pay, fund, run, report, Answer, Reply, replied, issued}
use Rattle.history.specs.Steps.{State, helds_of, Step}
use Rattle.history.specs.Histories.{parties_of}
use Rattle.history.proofs.Sound.{Sound, sound-issue, sound-pay, sound-run, sound-register}

-- an accepted reply comes from an accepted answer
pub replied-ok : {X : Type 0} (f : X → Answer) (a : Result X Fault) (x : Answer) → Ok x ≡ replied f a → (y : X) × (a ≡ Ok y) × (x ≡ f y)
replied-ok f (Ok y) x h = (y, refl, cc)
replied-ok f (Err e) x h = let z : ◌≡◌ {A = ℕ} 0 1 = cc in absurd (omega arith)

raised-ok : {F G X : Type 0} (f : F → G) (a : Result X F) (x : X) → raised f a ≡ Ok x → a ≡ Ok x
raised-ok f (Ok y) x h = cc
raised-ok f (Err e) x h = let z : ◌≡◌ {A = ℕ} 0 1 = cc in absurd (omega arith)

pub held_of : {X : Type 0} (f : X → Answer) (qs : List (Question Fault)) (v : X) (x : Answer) → Ok x ≡ replied f (verdict qs v) → AllByRecursion (λ q. q.holds ≡ true) qs × (x ≡ f v)
held_of f qs v x h =
    let y = replied-ok f (verdict qs v) x h in
    (all_hold qs v y.0 y.1, y.2 ∙ ap f (the_value qs v y.0 (sym y.1)))

-- ---- what an accepted bill was asked
module _ (s : Model) (t : TableMeaning) (month amount : ℕ) where
  pub fair-bill : AllByRecursion (λ q. q.holds ≡ true) (charge_asks s t month amount) → FairSplit amount (activities_of s t) (charges_of s t amount)
  fair-bill h =
      let sums = h.1.1.1 in
      let is = and_parts (leb 1 amount) (leb amount 1000000000) h.1.0 in
      fair amount (activities_of s t) (record {
        amount_some = omega (arith, leb-true 1 amount is.0);
        amount_fits = leb-true amount 1000000000 is.1;
        sum_some = omega (arith, leb-true 1 (sum (activities_of s t)) sums.0);
        sum_fits = leb-true (sum (activities_of s t)) 8000000000 sums.1.0;
      })

  pub bill-small : AllByRecursion (λ q. q.holds ≡ true) (charge_asks s t month amount) → (k : ℕ) → get_or (laid_charges s t amount) k 0 ≤ 4294967295
  bill-small h = (small-charges s t month amount (laid_charges s t amount) (sym (all-ok (charge_asks s t month amount) (laid_charges s t amount) h)) (fair-bill h)).1

abbrev pub SoundState : State → Type 0
SoundState s = Sound (parties_of s) s.ledger.book

same : (s t : State) → t.ledger ≡ s.ledger → SoundState s → SoundState t
same s t e h = subst (λ l. Sound l.register.parties l.book) (sym e) h

pub sound-step : (s t : State) (q : Request) (r : Reply) → Step s q r t → SoundState s → SoundState t
sound-step s t (register p) (Err f) h ok = same s t h.1 ok
sound-step s t (enrol m p) (Err f) h ok = same s t h.1 ok
sound-step s t (bill table month amount day minute cal) (Err f) h ok = same s t h.1 ok
sound-step s t (pay day minute account amount remark) (Err f) h ok = same s t h.1 ok
sound-step s t (fund p m n) (Err f) h ok = same s t h.1 ok
sound-step s t (run day minute) (Err f) h ok = same s t h.1 ok
sound-step s t (report p) (Err f) h ok = same s t h.1 ok
sound-step s t (register p) (Ok x) h ok =
    let y = replied-ok _ (raised Registry (register_answer s.ledger.register p)) x h.0 in
    let asks = all_hold (register_asks s.ledger.register p) tt tt (raised-ok Registry _ tt y.1) in
    subst (λ l. Sound l.register.parties l.book) (sym h.1) (sound-register (parties_of s) s.ledger.book p ok asks.1.0 (ltb-true _ 32 asks.1.1.0))
sound-step s t (enrol m p) (Ok x) h ok = subst (λ l. Sound l.register.parties l.book) (sym h.1) ok
sound-step s t (bill table month amount day minute cal) (Ok x) h ok =
    let asks = (held_of issued (bill_asks s.ledger table month amount day minute cal) _ x h.0).0 in
    let mid = asks.1.1 in
    let small = bill-small s.ledger table month amount (mid.0, (mid.1.0, (mid.1.1.0, (mid.1.1.1.0, (mid.1.1.1.1.0, tt))))) in
    subst (λ l. Sound l.register.parties l.book) (sym h.1) (sound-issue (parties_of s) (laid_charges s.ledger table amount) s.ledger.book (unwrap_or (due_day_of cal day) 0) ok small)
sound-step s t (pay day minute account amount remark) (Ok x) h ok = subst (λ l. Sound l.register.parties l.book) (sym h.1) (sound-pay (parties_of s) s.ledger.book (payee remark) amount ok)
sound-step s t (fund p m n) (Ok x) h ok = same s t h.1 ok
sound-step s t (run day minute) (Ok x) h ok = subst (λ l. Sound l.register.parties l.book) (sym h.1) (sound-run (parties_of s) s.ledger.book (is_past_due (at day minute)) (helds_of s.row) ok)
sound-step s t (report p) (Ok x) h ok = same s t h.1 ok
