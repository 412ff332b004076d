-- What one call does to cents owed and to security. Assumes nothing.
use Rattle.std.proofs.Common.{◌≡◌, ℕ, ◌+◌, ◌-◌, ◌<◌, ◌≤◌, Bool, true, cond, eqb, leb, List, [], ◌∷◌, length, get_or, is_some, Some, None, Ok, Err, sum, Option, unwrap_or, sym, refl, ap, ◌∙◌, subst, arith, leb-true}
use borrow.Author.Tests.{eqb-false}
use Rattle.std.specs.List.{AllByRecursion}
use Rattle.std.proofs.lemmas.List.{length-map}
use Rattle.std.proofs.lemmas.List.Sums.{sum_by-cons, sum_by-set}
use Rattle.std.proofs.lemmas.Bool.{and_parts, cond-false, ne_eqb}
use Rattle.foundation.proofs.Firsts.{First, first-is}
use Rattle.calendar.specs.Due.{due_day_of}
use Rattle.receivables.specs.declared.invoice.Invoice.{Invoice}
use Rattle.receivables.specs.Invoices.{is_past_due, owed_by}
use Rattle.receivables.specs.Laws.{RunLaw, owed_at}
use Rattle.receivables.specs.Run.{helds, outcome}
use Rattle.receivables.proofs.Owing.{Placed, Distinct, owed_more, owed-less, owed-there}
use Rattle.receivables.proofs.RunLaws.{run-law}
use Rattle.ledger.specs.Bill.{bills_of, bill_asks}
use Rattle.ledger.specs.Model.{at}
use Rattle.ledger.specs.Pay.{pay_asks, payee}
use Rattle.ledger.specs.Registries.{place_of}
use Rattle.ledger.specs.Secure.{party_at, fund_asks, run_asks}
use Rattle.ledger.proofs.Places.{place-within, place-number}
use Rattle.history.specs.Requests.{Request, register, enrol, bill, pay, fund, run, report, Answer, Reply, issued, left, holds, drew, tells}
use Rattle.history.specs.Steps.{State, helds_of, Step}
use Rattle.history.specs.Histories.{accepted, invoices_of, parties_of, held_there, held_by, billed_in, paid_in, drawn_in, funded_in, total_in, FairBill, RightRun}
use Rattle.history.proofs.Keeps.{SoundState, sound-step, replied-ok, held_of, fair-bill}

-- ---- a number's place
pub nowhere : (parties : List ℕ) (p : ℕ) → place_of parties p ≡ None → (k : ℕ) → k < length parties → get_or parties k 0 ≡ p → ⊥
unfolding place_of
nowhere parties p e k lt = eqb-false (get_or parties k 0) p (subst (First (λ i. eqb (get_or parties i 0) p) (length parties)) e (first-is (λ i. eqb (get_or parties i 0) p) (length parties)) k lt)

place_at : (parties : List ℕ) (p k : ℕ) → Distinct parties → k < length parties → get_or parties k 0 ≡ p → place_of parties p ≡ Some k
place_at parties p k d lt is = go (place_of parties p) refl where
  go : (o : Option ℕ) → place_of parties p ≡ o → o ≡ Some k
  go None e = absurd (nowhere parties p e k lt is)
  go (Some j) e = ap Some (d j k (place-within parties p j (sym e)) lt (place-number parties p j (sym e) ∙ sym is))

owed_none : (parties : List ℕ) (p : ℕ) (vs : List Invoice) → ((k : ℕ) → k < length parties → get_or parties k 0 ≡ p → ⊥) → Placed parties vs → owed_by vs p ≡ 0
owed_none parties p [] none a = refl
owed_none parties p (v ∷ vs) none a =
    omega (arith, sum_by-cons (λ u. cond (eqb u.billed p) u.balance 0) v vs, owed_none parties p vs none a.1, cond-false (eqb v.billed p) v.balance 0 (ne_eqb _ _ (λ e. none v.position a.0.0 (a.0.1 ∙ e))))

-- ---- a run
module _ (past : Invoice → Bool) (p : ℕ) (parties : List ℕ) (vs ws : List Invoice) (hs ks : List ℕ) where
  run-cents : (each : (j : ℕ) → get_or ks j 0 + owed_at j vs ≡ get_or hs j 0 + owed_at j ws) → ((j : ℕ) → get_or ks j 0 ≤ get_or hs j 0) → Distinct parties → Placed parties vs → Placed parties ws
      → owed_by vs p ≡ (held_there (place_of parties p) hs - held_there (place_of parties p) ks) + owed_by ws p
  run-cents each falls d pv pw = go (place_of parties p) refl where
    go : (o : Option ℕ) → place_of parties p ≡ o → owed_by vs p ≡ (held_there o hs - held_there o ks) + owed_by ws p
    go None e = omega (arith, owed_none parties p vs (nowhere parties p e) pv, owed_none parties p ws (nowhere parties p e) pw)
    go (Some k) e =
        let lt = place-within parties p k (sym e) in
        let n = place-number parties p k (sym e) in
        let v : owed_at k vs ≡ owed_by vs p = owed-there parties k vs d lt pv ∙ ap (owed_by vs) n in
        let w : owed_at k ws ≡ owed_by ws p = owed-there parties k ws d lt pw ∙ ap (owed_by ws) n in
        omega (arith, each k, falls k, v, w)

all_both : {X : Type 0} (P Q R : X → Type 0) → ((x : X) → P x → Q x → R x) → (xs : List X) → AllByRecursion P xs → AllByRecursion Q xs → AllByRecursion R xs
all_both P Q R both [] p q = tt
all_both P Q R both (x ∷ xs) p q = (both x p.0 q.0, all_both P Q R both xs p.1 q.1)

-- the law of an accepted run, between what it found and what it left
ran-law : (s t : State) (day minute : ℕ) (x : Answer) → Step s (run day minute) (Ok x) t → SoundState s
    → RunLaw (is_past_due (at day minute)) (invoices_of s) (helds_of s.row) (invoices_of t) (helds_of t.row) (outcome (is_past_due (at day minute)) (invoices_of s) (helds_of s.row))
ran-law s t day minute x h ok =
    let past = is_past_due (at day minute) in
    let o = outcome past (invoices_of s) (helds_of s.row) in
    let law = run-law (at day minute) 1 s.ledger.book.next (invoices_of s) (helds_of s.row) ok.listed in
    subst (λ ks. RunLaw past (invoices_of s) (helds_of s.row) (invoices_of t) ks o) (sym h.2)
    (subst (λ ws. RunLaw past (invoices_of s) (helds_of s.row) ws (helds past (invoices_of s) (helds_of s.row)) o) (sym (ap (λ l. l.book.invoices) h.1)) law)

-- ---- cents
module _ (p : ℕ) where
  unmoved : (s t : State) → t.ledger ≡ s.ledger → owed_by (invoices_of t) p ≡ owed_by (invoices_of s) p
  unmoved s t e = ap (λ l. owed_by l.book.invoices p) e

  pub cents-step : (s t : State) (q : Request) (r : Reply) → Step s q r t → SoundState s
      → owed_by (invoices_of s) p + accepted r (billed_in p s q) ≡ accepted r (paid_in p s q) + accepted r (drawn_in p s q t) + owed_by (invoices_of t) p
  cents-step s t (register q) (Err f) h ok = omega (arith, unmoved s t h.1)
  cents-step s t (enrol m q) (Err f) h ok = omega (arith, unmoved s t h.1)
  cents-step s t (bill table month amount day minute cal) (Err f) h ok = omega (arith, unmoved s t h.1)
  cents-step s t (pay day minute account amount remark) (Err f) h ok = omega (arith, unmoved s t h.1)
  cents-step s t (fund q m n) (Err f) h ok = omega (arith, unmoved s t h.1)
  cents-step s t (run day minute) (Err f) h ok = omega (arith, unmoved s t h.1)
  cents-step s t (report q) (Err f) h ok = omega (arith, unmoved s t h.1)
  cents-step s t (register q) (Ok x) h ok = omega (arith, ap (λ l. owed_by l.book.invoices p) h.1)
  cents-step s t (enrol m q) (Ok x) h ok = omega (arith, ap (λ l. owed_by l.book.invoices p) h.1)
  cents-step s t (bill table month amount day minute cal) (Ok x) h ok =
      omega (arith, ap (λ l. owed_by l.book.invoices p) h.1, owed_more p s.ledger.book.next (unwrap_or (due_day_of cal day) 0) (invoices_of s) (bills_of s.ledger table amount))
  cents-step s t (pay day minute account amount remark) (Ok x) h ok =
      let asks = (held_of left (pay_asks s.ledger day minute account amount remark) _ x h.0).0 in
      let most = leb-true amount _ (and_parts (leb 1 amount) _ asks.1.1.1.1.1.0).1 in
      omega (arith, ap (λ l. owed_by l.book.invoices p) h.1, owed-less p 1 s.ledger.book.next (payee remark) amount (invoices_of s) ok.listed most)
  cents-step s t (fund q m n) (Ok x) h ok = omega (arith, unmoved s t h.1)
  cents-step s t (run day minute) (Ok x) h ok =
      let law = ran-law s t day minute x h ok in
      let parties : parties_of t ≡ parties_of s = ap (λ l. l.register.parties) h.1 in
      let later = sound-step s t (run day minute) (Ok x) h ok in
      let placed : Placed (parties_of s) (invoices_of t) = subst (λ qs. Placed qs (invoices_of t)) parties later.placed in
      let here = run-cents (is_past_due (at day minute)) p (parties_of s) (invoices_of s) (invoices_of t) (helds_of s.row) (helds_of t.row) law.each law.falls ok.distinct ok.placed placed in
      let held : held_by t p ≡ held_there (place_of (parties_of s) p) (helds_of t.row) = ap (λ qs. held_there (place_of qs p) (helds_of t.row)) parties in
      omega (arith, here, held)
  cents-step s t (report q) (Ok x) h ok = omega (arith, unmoved s t h.1)

-- ---- security
stands : (s t : State) → t.row ≡ s.row → sum (helds_of t.row) ≡ sum (helds_of s.row)
stands s t e = ap (λ w. sum (helds_of w)) e

pub security-step : (s t : State) (q : Request) (r : Reply) → Step s q r t → SoundState s → sum (helds_of s.row) + accepted r (funded_in q) ≡ total_in r + sum (helds_of t.row)
security-step s t (register q) (Err f) h ok = omega (arith, stands s t h.2)
security-step s t (enrol m q) (Err f) h ok = omega (arith, stands s t h.2)
security-step s t (bill table month amount day minute cal) (Err f) h ok = omega (arith, stands s t h.2)
security-step s t (pay day minute account amount remark) (Err f) h ok = omega (arith, stands s t h.2)
security-step s t (fund q m n) (Err f) h ok = omega (arith, ap sum h.2)
security-step s t (run day minute) (Err f) h ok = omega (arith, ap sum h.2)
security-step s t (report q) (Err f) h ok = omega (arith, stands s t h.2)
security-step s t (register q) (Ok x) h ok = let y = replied-ok _ _ x h.0 in omega (arith, stands s t h.2, ap (λ a. total_in (Ok a)) y.2)
security-step s t (enrol m q) (Ok x) h ok = let y = replied-ok _ _ x h.0 in omega (arith, stands s t h.2, ap (λ a. total_in (Ok a)) y.2)
security-step s t (bill table month amount day minute cal) (Ok x) h ok = let y = replied-ok issued _ x h.0 in omega (arith, stands s t h.2, ap (λ a. total_in (Ok a)) y.2)
security-step s t (pay day minute account amount remark) (Ok x) h ok = let y = replied-ok left _ x h.0 in omega (arith, stands s t h.2, ap (λ a. total_in (Ok a)) y.2)
security-step s t (report q) (Ok x) h ok = let y = replied-ok tells _ x h.0 in omega (arith, stands s t h.2, ap (λ a. total_in (Ok a)) y.2)
security-step s t (run day minute) (Ok x) h ok =
    let y = held_of drew (run_asks s.ledger (length (helds_of s.row)) day minute) _ x h.0 in
    omega (arith, (ran-law s t day minute x h ok).total, ap (λ a. total_in (Ok a)) y.1)
security-step s t (fund q m n) (Ok x) h ok =
    let y = held_of holds (fund_asks s.ledger s.row q m n) _ x h.0 in
    let hs = helds_of s.row in
    let k = party_at s.ledger q in
    let long = leb-true _ _ y.0.1.0 in
    let lt : k < length hs = omega (arith, within (place_of (parties_of s) q) refl y.0.0, long, length-map s.row (λ w. w.held)) in
    omega (arith, ap sum h.2, sum_by-set (λ c. c) hs k (get_or hs k 0 + n) 0 lt, ap (λ a. total_in (Ok a)) y.1)
  where
    within : (o : Option ℕ) → place_of (parties_of s) q ≡ o → is_some o ≡ true → unwrap_or o 0 < length (parties_of s)
    within None e i = let z : ◌≡◌ {A = ℕ} 0 1 = cc in absurd (omega arith)
    within (Some j) e i = place-within (parties_of s) q j (sym e)

-- ---- bills and runs
pub fair-step : (s t : State) (q : Request) (r : Reply) → Step s q r t → FairBill s q r
fair-step s t q (Err f) h = tt
fair-step s t (register p) (Ok x) h = tt
fair-step s t (enrol m p) (Ok x) h = tt
fair-step s t (bill table month amount day minute cal) (Ok x) h =
    let mid = (held_of issued (bill_asks s.ledger table month amount day minute cal) _ x h.0).0.1.1 in
    fair-bill s.ledger table month amount (mid.0, (mid.1.0, (mid.1.1.0, (mid.1.1.1.0, (mid.1.1.1.1.0, tt)))))
fair-step s t (pay day minute account amount remark) (Ok x) h = tt
fair-step s t (fund p m n) (Ok x) h = tt
fair-step s t (run day minute) (Ok x) h = tt
fair-step s t (report p) (Ok x) h = tt

pub run_step : (s t : State) (q : Request) (r : Reply) → Step s q r t → SoundState s → RightRun s q r t
run_step s t q (Err f) h ok = tt
run_step s t (register p) (Ok x) h ok = tt
run_step s t (enrol m p) (Ok x) h ok = tt
run_step s t (bill table month amount day minute cal) (Ok x) h ok = tt
run_step s t (pay day minute account amount remark) (Ok x) h ok = tt
run_step s t (fund p m n) (Ok x) h ok = tt
run_step s t (run day minute) (Ok x) h ok =
    let past = is_past_due (at day minute) in
    let law = ran-law s t day minute x h ok in
    let later = sound-step s t (run day minute) (Ok x) h ok in
    record {
      empty = all_both (λ v. (v.position < length (parties_of t)) × (get_or (parties_of t) v.position 0 ≡ v.billed)) (λ v. past v ≡ true → get_or (helds_of t.row) v.position 0 ≡ 0) (λ v. past v ≡ true → held_by t v.billed ≡ 0)
          (λ v placed none due. ap (λ o. held_there o (helds_of t.row)) (place_at (parties_of t) v.billed v.position later.distinct placed.0 placed.1) ∙ none due)
          (invoices_of t) later.placed law.empty;
      spared = law.spared;
    }
run_step s t (report p) (Ok x) h ok = tt
