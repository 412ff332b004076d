-- What holds of a ledger after any list of calls: its invoices are in order, each drawing on the place of the
-- Counter-Party that it bills, and no Counter-Party is registered twice. Assumes nothing.
use Rattle.std.proofs.Common.{◌≡◌, ℕ, zero, suc, ◌+◌, ◌<◌, ◌≤◌, Bool, true, false, cond, not, eqb, ltb, List, [], ◌∷◌, ◌++◌, map, length, get_or, is_some, Some, None, filter, Option, sym, refl, ap, ◌∙◌, subst, inl, inr, arith, ltb-true}
use borrow.Author.Tests.{eqb-false}
use Rattle.std.specs.List.{range_with_len, AllByRecursion}
use Rattle.std.proofs.lemmas.Bool.{cases_lt}
use Rattle.foundation.proofs.Firsts.{First, first-is}
use Rattle.receivables.specs.declared.charge.Charge.{Charge}
use Rattle.receivables.specs.declared.invoice.Event.TheVariants.{Payment, Draw, PastDue}
use Rattle.receivables.specs.declared.invoice.Invoice.{Invoice}
use Rattle.receivables.specs.Books.{Book}
use Rattle.receivables.specs.Invoices.{told, unsettled}
use Rattle.receivables.specs.Issued.{issued, issued_from, positive, after_issue}
use Rattle.receivables.specs.Payments.{paid_on, after_pay}
use Rattle.receivables.specs.Run.{drawn_on, drawn_all, held_after, paid, after_run}
use Rattle.receivables.proofs.Lists.{Listed, kept-listed, pay-kept, run-kept}
use Rattle.receivables.proofs.Owing.{Placed, Distinct, told-in-billed}
use Rattle.receivables.proofs.RunLaws.{told-in-position}
use Rattle.ledger.specs.Bill.{bills}
use Rattle.ledger.specs.Registries.{place_of}

pub record Sound (parties : List ℕ) (b : Book) : Type 0 where
  pub listed : Listed 1 b.next b.invoices
  pub placed : Placed parties b.invoices
  pub distinct : Distinct parties
  pub few : length parties ≤ 32

-- ---- lists
pub all_append : {X : Type 0} (P : X → Type 0) (xs ys : List X) → AllByRecursion P xs → AllByRecursion P ys → AllByRecursion P (xs ++ ys)
all_append P [] ys a b = b
all_append P (x ∷ xs) ys a b = (a.0, all_append P xs ys a.1 b)

all-kept : {X : Type 0} (P : X → Type 0) (q : X → Bool) (xs : List X) → AllByRecursion P xs → AllByRecursion P (filter q xs)
all-kept P q [] a = tt
all-kept P q (x ∷ xs) a =
    let rest = all-kept P q xs a.1 in
    elim (q x) as (λ b. AllByRecursion P (cond b (x ∷ filter q xs) (filter q xs))) [ true ↦ (a.0, rest) | false ↦ rest ]

all-mapped : {X : Type 0} (P : X → Type 0) (f : X → X) → ((x : X) → P x → P (f x)) → (xs : List X) → AllByRecursion P xs → AllByRecursion P (map f xs)
all-mapped P f step [] a = tt
all-mapped P f step (x ∷ xs) a = (step x a.0, all-mapped P f step xs a.1)

all-counted : {X : Type 0} (P : X → Type 0) (f : ℕ → X) (a n top : ℕ) → a + n ≡ top → ((k : ℕ) → k < top → P (f k)) → AllByRecursion P (map f (range_with_len a n))
all-counted P f a zero top e h = tt
all-counted P f a (suc n) top e h = (h a (omega (arith, e)), all-counted P f (a + 1) n top (omega (arith, e)) h)

-- ---- issuing
module _ (due : ℕ) where
  issued-listed : (low n : ℕ) (cs : List Charge) → low ≤ n → AllByRecursion (λ c. c.cents ≤ 4294967295) cs → Listed low (n + positive cs) (issued_from n due cs)
  issued-listed low n [] le small = omega arith
  issued-listed low n (c ∷ cs) le small = go (ltb 0 c.cents) refl (issued-listed (n + 1) (n + 1) cs (omega arith) small.1) (issued-listed low n cs le small.1) where
    go : (b : Bool) → ltb 0 c.cents ≡ b → Listed (n + 1) (n + 1 + positive cs) (issued_from (n + 1) due cs) → Listed low (n + positive cs) (issued_from n due cs)
        → Listed low (n + cond b (1 + positive cs) (positive cs)) (cond b (issued n due c ∷ issued_from (n + 1) due cs) (issued_from n due cs))
    go true t one none = (le, record { more = ltb-true 0 c.cents t; small = small.0; here = refl }, subst (λ m. Listed (n + 1) m (issued_from (n + 1) due cs)) (omega arith) one)
    go false t one none = none

  more-listed : (low n : ℕ) (vs : List Invoice) (cs : List Charge) → Listed low n vs → AllByRecursion (λ c. c.cents ≤ 4294967295) cs → Listed low (n + positive cs) (vs ++ issued_from n due cs)
  more-listed low n [] cs l small = issued-listed low n cs l small
  more-listed low n (v ∷ vs) cs l small = (l.0, l.1, more-listed (v.number + 1) n vs cs l.2 small)

  issued-placed : (parties : List ℕ) (n : ℕ) (cs : List Charge) → AllByRecursion (λ c. (c.position < length parties) × (get_or parties c.position 0 ≡ c.billed)) cs → Placed parties (issued_from n due cs)
  issued-placed parties n [] a = tt
  issued-placed parties n (c ∷ cs) a =
      let one = issued-placed parties (n + 1) cs a.1 in
      let none = issued-placed parties n cs a.1 in
      elim (ltb 0 c.cents) as (λ b. Placed parties (cond b (issued n due c ∷ issued_from (n + 1) due cs) (issued_from n due cs))) [ true ↦ (a.0, one) | false ↦ none ]

bills-small : (parties cs : List ℕ) → ((k : ℕ) → get_or cs k 0 ≤ 4294967295) → AllByRecursion (λ c. c.cents ≤ 4294967295) (bills parties cs)
unfolding bills
bills-small parties cs small = all-counted _ _ 0 (length parties) (length parties) (omega arith) (λ k lt. small k)

bills-placed : (parties cs : List ℕ) → AllByRecursion (λ c. (c.position < length parties) × (get_or parties c.position 0 ≡ c.billed)) (bills parties cs)
unfolding bills
bills-placed parties cs = all-counted _ _ 0 (length parties) (length parties) (omega arith) (λ k lt. (lt, refl))

pub sound-issue : (parties cs : List ℕ) (b : Book) (due : ℕ) → Sound parties b → ((k : ℕ) → get_or cs k 0 ≤ 4294967295) → Sound parties (after_issue b due (bills parties cs))
sound-issue parties cs b due s small = record {
  listed = more-listed due 1 b.next b.invoices (bills parties cs) s.listed (bills-small parties cs small);
  placed = all_append _ b.invoices (issued_from b.next due (bills parties cs)) s.placed (issued-placed due parties b.next (bills parties cs) (bills-placed parties cs));
  distinct = s.distinct;
  few = s.few;
}

-- ---- paying and drawing leave whom an invoice bills, and on which place it draws
paid-placed : (parties : List ℕ) (n amount : ℕ) (v : Invoice) → (v.position < length parties) × (get_or parties v.position 0 ≡ v.billed) → ((paid_on n amount v).position < length parties) × (get_or parties (paid_on n amount v).position 0 ≡ (paid_on n amount v).billed)
paid-placed parties n amount v p =
    let w : Invoice = told v (Payment amount) in
    let at = told-in-position v.state v (Payment amount) in
    let whom = told-in-billed v.state v (Payment amount) in
    elim (eqb v.number n) as (λ b. ((cond b w v).position < length parties) × (get_or parties (cond b w v).position 0 ≡ (cond b w v).billed))
    [ true ↦ (omega (arith, at, p.0), ap (λ k. get_or parties k 0) at ∙ p.1 ∙ sym whom) | false ↦ p ]

pub sound-pay : (parties : List ℕ) (b : Book) (n amount : ℕ) → Sound parties b → Sound parties (after_pay b n amount)
sound-pay parties b n amount s = record {
  listed = kept-listed 1 b.next b.invoices (map (paid_on n amount) b.invoices) (pay-kept 1 b.next n amount b.invoices s.listed) s.listed;
  placed = all-kept _ unsettled (map (paid_on n amount) b.invoices) (all-mapped _ (paid_on n amount) (paid-placed parties n amount) b.invoices s.placed);
  distinct = s.distinct;
  few = s.few;
}

drawn-placed : (parties : List ℕ) (past : Invoice → Bool) (vs : List Invoice) (hs : List ℕ) → Placed parties vs → Placed parties (drawn_all past vs hs)
drawn-placed parties past [] hs p = tt
drawn-placed parties past (v ∷ vs) hs p =
    let w : Invoice = drawn_on hs v in
    let u : Invoice = told v (Draw (paid hs v)) in
    let at = told-in-position u.state u PastDue ∙ told-in-position v.state v (Draw (paid hs v)) in
    let whom = told-in-billed u.state u PastDue ∙ told-in-billed v.state v (Draw (paid hs v)) in
    let here = elim (past v) as (λ b. ((cond b w v).position < length parties) × (get_or parties (cond b w v).position 0 ≡ (cond b w v).billed))
    [ true ↦ (omega (arith, at, p.0.0), ap (λ k. get_or parties k 0) at ∙ p.0.1 ∙ sym whom) | false ↦ p.0 ] in
    (here, drawn-placed parties past vs (cond (past v) (held_after hs v) hs) p.1)

pub sound-run : (parties : List ℕ) (b : Book) (past : Invoice → Bool) (hs : List ℕ) → Sound parties b → Sound parties (after_run past b hs)
sound-run parties b past hs s = record {
  listed = kept-listed 1 b.next b.invoices (drawn_all past b.invoices hs) (run-kept past 1 b.next b.invoices hs s.listed) s.listed;
  placed = all-kept _ unsettled (drawn_all past b.invoices hs) (drawn-placed parties past b.invoices hs s.placed);
  distinct = s.distinct;
  few = s.few;
}

-- ---- registering
not_there : (parties : List ℕ) (p : ℕ) → not (is_some (place_of parties p)) ≡ true → (k : ℕ) → k < length parties → get_or parties k 0 ≡ p → ⊥
unfolding place_of
not_there parties p none k lt = go (place_of parties p) refl none where
  go : (o : Option ℕ) → place_of parties p ≡ o → not (is_some o) ≡ true → get_or parties k 0 ≡ p → ⊥
  go (Some j) e n = let z : ◌≡◌ {A = ℕ} 0 1 = cc in absurd (omega arith)
  go None e n = eqb-false (get_or parties k 0) p (subst (First (λ i. eqb (get_or parties i 0) p) (length parties)) e (first-is (λ i. eqb (get_or parties i 0) p) (length parties)) k lt)

last-is : (parties : List ℕ) (p k : ℕ) → length parties ≤ k → k < length (parties ++ p ∷ []) → get_or (parties ++ p ∷ []) k 0 ≡ p
last-is [] p zero le lt = refl
last-is [] p (suc k) le lt = absurd (omega arith)
last-is (x ∷ xs) p zero le lt = absurd (omega arith)
last-is (x ∷ xs) p (suc k) le lt = last-is xs p k (omega arith) (omega arith)

first-are : (parties : List ℕ) (p k : ℕ) → k < length parties → get_or (parties ++ p ∷ []) k 0 ≡ get_or parties k 0
first-are [] p k lt = absurd (omega arith)
first-are (x ∷ xs) p zero lt = refl
first-are (x ∷ xs) p (suc k) lt = first-are xs p k (omega arith)

one-longer : (parties : List ℕ) (p : ℕ) → length (parties ++ p ∷ []) ≡ length parties + 1
one-longer [] p = refl
one-longer (x ∷ xs) p = omega (arith, one-longer xs p)

placed-longer : (parties : List ℕ) (p : ℕ) (vs : List Invoice) → Placed parties vs → Placed (parties ++ p ∷ []) vs
placed-longer parties p [] a = tt
placed-longer parties p (v ∷ vs) a = ((omega (arith, one-longer parties p, a.0.0), first-are parties p v.position a.0.0 ∙ a.0.1), placed-longer parties p vs a.1)

distinct-longer : (parties : List ℕ) (p : ℕ) → Distinct parties → ((k : ℕ) → k < length parties → get_or parties k 0 ≡ p → ⊥) → Distinct (parties ++ p ∷ [])
distinct-longer parties p d new i j li lj e =
    elim (cases_lt i (length parties)) [
      | inl a ↦ elim (cases_lt j (length parties)) [
        | inl b ↦ d i j a b (sym (first-are parties p i a) ∙ e ∙ first-are parties p j b)
        | inr b ↦ absurd (new i a (sym (first-are parties p i a) ∙ e ∙ last-is parties p j b lj))
      ]
      | inr a ↦ elim (cases_lt j (length parties)) [
        | inl b ↦ absurd (new j b (sym (first-are parties p j b) ∙ sym e ∙ last-is parties p i a li))
        | inr b ↦ omega (arith, one-longer parties p, li, lj)
      ]
    ]

pub sound-register : (parties : List ℕ) (b : Book) (p : ℕ) → Sound parties b → not (is_some (place_of parties p)) ≡ true → length parties < 32 → Sound (parties ++ p ∷ []) b
sound-register parties b p s none room = record {
  listed = s.listed;
  placed = placed-longer parties p b.invoices s.placed;
  distinct = distinct-longer parties p s.distinct (not_there parties p none);
  few = omega (arith, one-longer parties p, room);
}
