-- The due day is what the rule says. Assumes nothing.
use Rattle.std.proofs.Common.{◌≡◌, ℕ, suc, ◌+◌, ◌-◌, ◌<◌, ◌≤◌, Bool, true, false, ◌&&◌, leb, Some, None, Option, sym, refl, ap, ◌∙◌, subst, inl, inr, add-one, arith, le-leb, leb-true}
use borrow.Author.Tests.{lt-leb}
use Rattle.std.proofs.lemmas.Bool.{cases_lt}
use Rattle.calendar.specs.Meaning.{CalendarMeaning}
use Rattle.foundation.specs.Counting.{one_if}
use Rattle.foundation.proofs.Totals.{total_mono, count-few}
use Rattle.calendar.specs.Due.{first_after, is_both, bank_days, may_be_due, span, due_day_of, Due, DueAnswer}
use Rattle.calendar.proofs.Firsts.{days_after, days-reach, Firsts, first-is, first_found, turn_on, turn-hit}

and_left : (a b : Bool) → (a && b) ≡ true → a ≡ true
and_left true b h = refl
and_left false b h = h

and_right : (a b : Bool) → (a && b) ≡ true → b ≡ true
and_right true b h = h
and_right false b h = absurd (let z : ◌≡◌ {A = ℕ} 0 1 = ap one_if h in omega arith)

and_both : (a b : Bool) → a ≡ true → b ≡ true → (a && b) ≡ true
and_both a b h k = rw (h, k)

and-rest : (a b : Bool) → a ≡ true → (a && b) ≡ false → b ≡ false
and-rest true b h k = k
and-rest false b h k = absurd (let z : ◌≡◌ {A = ℕ} 0 1 = ap one_if h in omega arith)

and-off : (a b : Bool) → a ≡ false → (a && b) ≡ false
and-off a b h = rw h

and_no : (a b : Bool) → b ≡ false → (a && b) ≡ false
and_no true b h = h
and_no false b h = refl

days-mono : (p : ℕ → Bool) (day i n : ℕ) → i ≤ n → days_after p day i ≤ days_after p day n
days-mono p day i n h = total_mono (λ k. one_if (p (day + suc k))) i n h

module _ (m : CalendarMeaning) (invoice : ℕ) where
  sound : (due : ℕ) → Firsts (may_be_due m invoice) invoice (span invoice) (Some due) → Due m invoice due
  sound due h =
      let many : 5 ≤ bank_days m invoice due = leb-true 5 (bank_days m invoice due) (and_left _ _ h.2) in
      let both : is_both m due ≡ true = and_right (leb 5 (bank_days m invoice due)) (is_both m due) h.2 in
      let r = days-reach m.bank invoice 4 (due - invoice) many in
      let gap : invoice + suc r.0 - invoice ≡ suc r.0 = omega arith in
      record {
        fifth = invoice + suc r.0;
        later = omega arith;
        fifth_bank = r.2;
        five = ap (days_after m.bank invoice) gap ∙ r.3;
        from_fifth = omega (arith, r.1);
        bank = and_left _ _ both;
        business = and_right _ _ both;
        next = λ day lo hi.
            let more = days-mono m.bank invoice (suc r.0) (day - invoice) (omega arith) in
            and-rest (leb 5 (bank_days m invoice day)) (is_both m day) (le-leb 5 (bank_days m invoice day) (omega (arith, more, r.3))) (h.3 day (omega arith) hi);
        soon = omega (arith, h.1);
        last = omega (arith, h.0, h.1);
      }

  before-fifth : (fifth : ℕ) → invoice < fifth → m.bank fifth ≡ true → bank_days m invoice fifth ≡ 5 → (day : ℕ) → invoice < day → day < fifth → bank_days m invoice day < 5
  before-fifth fifth lo on five day later early =
      let k = fifth - invoice - 1 in
      let e : fifth - invoice ≡ suc k = omega arith in
      let at : invoice + suc k ≡ fifth = omega arith in
      let whole : days_after m.bank invoice k + one_if (m.bank (invoice + suc k)) ≡ 5 = ap (days_after m.bank invoice) (sym e) ∙ five in
      let one : one_if (m.bank (invoice + suc k)) ≡ 1 = ap (λ d. one_if (m.bank d)) at ∙ ap one_if on in
      omega (arith, whole, one, days-mono m.bank invoice (day - invoice) k (omega arith))

  complete : (due : ℕ) → Due m invoice due → first_after (may_be_due m invoice) invoice (span invoice) ≡ Some due
  complete due h =
      let more = days-mono m.bank invoice (h.fifth - invoice) (due - invoice) (omega (arith, h.from_fifth)) in
      first_found (may_be_due m invoice) invoice (span invoice) due (omega (arith, h.later, h.from_fifth)) (omega (arith, h.later, h.from_fifth, h.soon, h.last))
      (and_both _ _ (le-leb 5 (bank_days m invoice due) (omega (arith, more, h.five))) (and_both _ _ h.bank h.business))
      (λ day lo hi. elim (cases_lt day h.fifth) [
        | inl k ↦ and-off _ _ (lt-leb 5 (bank_days m invoice day) (before-fifth h.fifth h.later h.fifth_bank h.five day lo k))
        | inr k ↦ and_no _ _ (h.next day k hi)
      ])

  pub due-law : DueAnswer m invoice (due_day_of m invoice)
  unfolding due_day_of
  due-law = record {
    sound = λ due e. sound due (subst (Firsts (may_be_due m invoice) invoice (span invoice)) e (first-is (may_be_due m invoice) invoice (span invoice)));
    complete = complete;
  }

-- one turn of the loop over the days after the invoice day
module _ (m : CalendarMeaning) (invoice : ℕ) where
  abbrev pub SoFar : ℕ → ℕ → Type 0
  SoFar k seen = (seen ≡ days_after m.bank invoice k) × (first_after (may_be_due m invoice) invoice k ≡ None)

  module _ (k seen : ℕ) (sofar : SoFar k seen) where
    at : invoice + suc k ≡ invoice + k + 1
    at = omega arith

    days-now : days_after m.bank invoice (k + 1) ≡ seen + one_if (m.bank (invoice + k + 1))
    days-now = rw add-one (omega (arith, sofar.0, ap (λ d. one_if (m.bank d)) at))

    test : may_be_due m invoice (invoice + suc k) ≡ (leb 5 (seen + one_if (m.bank (invoice + k + 1))) && is_both m (invoice + k + 1))
    test =
        let gap : invoice + suc k - invoice ≡ k + 1 = omega arith in
        ap (λ n. leb 5 (days_after m.bank invoice n) && is_both m (invoice + suc k)) gap
        ∙ ap (λ n. leb 5 n && is_both m (invoice + suc k)) days-now
        ∙ ap (λ d. leb 5 (seen + one_if (m.bank (invoice + k + 1))) && is_both m d) at

    pub hit : k < span invoice → m.bank (invoice + k + 1) ≡ true → 5 ≤ seen + 1 → m.business (invoice + k + 1) ≡ true → Some (invoice + k + 1) ≡ due_day_of m invoice
    unfolding due_day_of
    hit lt bank five business =
        let on : may_be_due m invoice (invoice + suc k) ≡ true = test ∙ and_both _ _ (le-leb 5 (seen + one_if (m.bank (invoice + k + 1))) (omega (arith, ap one_if bank))) (and_both _ _ bank business) in
        sym (turn-hit (may_be_due m invoice) invoice k (span invoice) lt sofar.1 on ∙ ap Some at)

    pub no-bank : m.bank (invoice + k + 1) ≡ false → SoFar (k + 1) seen
    no-bank off = (omega (arith, days-now, ap one_if off), turn_on (may_be_due m invoice) invoice k sofar.1 (test ∙ and_no _ _ (and-off _ _ off)))

    pub early : m.bank (invoice + k + 1) ≡ true → seen + 1 < 5 → SoFar (k + 1) (seen + 1)
    early bank few =
        (omega (arith, days-now, ap one_if bank), turn_on (may_be_due m invoice) invoice k sofar.1 (test ∙ and-off _ _ (lt-leb 5 (seen + one_if (m.bank (invoice + k + 1))) (omega (arith, ap one_if bank)))))

    pub no-business : m.bank (invoice + k + 1) ≡ true → m.business (invoice + k + 1) ≡ false → SoFar (k + 1) (seen + 1)
    no-business bank off = (omega (arith, days-now, ap one_if bank), turn_on (may_be_due m invoice) invoice k sofar.1 (test ∙ and_no (leb 5 (seen + one_if (m.bank (invoice + k + 1)))) (is_both m (invoice + k + 1)) (and_no (m.bank (invoice + k + 1)) (m.business (invoice + k + 1)) off)))

    pub at_most : seen ≤ k
    at_most = omega (arith, sofar.0, count-few (λ k. m.bank (invoice + suc k)) k)

    pub none-due : k ≡ span invoice → None ≡ due_day_of m invoice
    unfolding due_day_of
    none-due e = sym (ap (first_after (may_be_due m invoice) invoice) (sym e) ∙ sofar.1)

  pub law-of : (r : Option ℕ) → r ≡ due_day_of m invoice → DueAnswer m invoice r
  law-of r e = subst (DueAnswer m invoice) (sym e) (due-law m invoice)
