-- The charges of a bill, over all Counter-Parties, are its amount. Assumes nothing.
use Rattle.std.proofs.Common.{◌≡◌, ℕ, zero, suc, ◌+◌, ◌<◌, ◌≤◌, cond, eqb, List, [], ◌∷◌, ◌++◌, map, length, get_or, Ok, Err, sum_by, sum, sym, refl, ap, ◌∙◌, arith}
use Rattle.std.specs.List.{range_with_len, AllByRecursion}
use Rattle.std.proofs.lemmas.List.FromFn.{length-map-range_with_len, get_or-map-range_with_len}
use Rattle.std.proofs.lemmas.List.Sums.{sum_by-cons}
use Rattle.std.proofs.lemmas.Bool.{cond-true, cond-false, eq-eqb, ne_eqb}
use Rattle.foundation.specs.Counting.{total}
use Rattle.foundation.proofs.Totals.{total-same, sum-total, sum-counting}
use Rattle.activity.specs.Tables.{TableMeaning}
use Rattle.split.specs.Laws.{FairSplit}
use Rattle.split.specs.Split.{laid_out}
use Rattle.receivables.specs.declared.charge.Charge.{Charge}
use Rattle.receivables.specs.Issued.{charged_to}
use Rattle.receivables.proofs.Owing.{Distinct}
use Rattle.ledger.specs.Bill.{activities_of, charges_of, laid_charges, bills, bills_of}
use Rattle.ledger.specs.Model.{Model}
use Rattle.history.specs.Requests.{Request, register, enrol, bill, pay, fund, run, report, Reply}
use Rattle.history.specs.Steps.{State, Step}
use Rattle.history.specs.Histories.{accepted, parties_of, billed_in, amount_in}
use Rattle.history.proofs.Keeps.{SoundState}
use Rattle.history.proofs.Effects.{fair-step}

-- ---- sums
pub sum-none : {X : Type 0} (f : X → ℕ) → ((x : X) → f x ≡ 0) → (xs : List X) → sum_by f xs ≡ 0
sum-none f none [] = refl
sum-none f none (x ∷ xs) = omega (arith, sum_by-cons f x xs, none x, sum-none f none xs)

pub sum_both : {X : Type 0} (f g h : X → ℕ) → ((x : X) → h x ≡ f x + g x) → (xs : List X) → sum_by h xs ≡ sum_by f xs + sum_by g xs
sum_both f g h is [] = refl
sum_both f g h is (x ∷ xs) = omega (arith, sum_by-cons f x xs, sum_by-cons g x xs, sum_by-cons h x xs, is x, sum_both f g h is xs)

swap : {X : Type 0} (f : X → ℕ → ℕ) (cs : List X) (qs : List ℕ) → sum_by (λ q. sum_by (λ c. f c q) cs) qs ≡ sum_by (λ c. sum_by (f c) qs) cs
swap f [] qs = sum-none (λ q. 0) (λ q. refl) qs
swap f (c ∷ cs) qs = sum_both (f c) (λ q. sum_by (λ d. f d q) cs) (λ q. sum_by (λ d. f d q) (c ∷ cs)) (λ q. sum_by-cons (λ d. f d q) c cs) qs ∙ ap (λ n. sum_by (f c) qs + n) (swap f cs qs) ∙ sym (sum_by-cons (λ d. sum_by (f d) qs) c cs)

-- ---- a number that stands once in a list
missed : (b n : ℕ) (qs : List ℕ) → ((k : ℕ) → k < length qs → get_or qs k 0 ≡ b → ⊥) → sum_by (λ q. cond (eqb b q) n 0) qs ≡ 0
missed b n [] none = refl
missed b n (q ∷ qs) none =
    omega (arith, sum_by-cons (λ x. cond (eqb b x) n 0) q qs, cond-false (eqb b q) n 0 (ne_eqb b q (λ e. none 0 (omega arith) (sym e))), missed b n qs (λ k lt e. none (suc k) (omega arith) e))

once : (b n : ℕ) (qs : List ℕ) (k : ℕ) → Distinct qs → k < length qs → get_or qs k 0 ≡ b → sum_by (λ q. cond (eqb b q) n 0) qs ≡ n
once b n [] k d lt is = absurd (omega arith)
once b n (q ∷ qs) zero d lt is =
    omega (arith, sum_by-cons (λ x. cond (eqb b x) n 0) q qs, cond-true (eqb b q) n 0 (eq-eqb b q (sym is)), missed b n qs (λ k l e. omega (arith, d zero (suc k) lt (omega arith) (is ∙ sym e))))
once b n (q ∷ qs) (suc k) d lt is =
    omega (
      arith,
      sum_by-cons (λ x. cond (eqb b x) n 0) q qs,
      cond-false (eqb b q) n 0 (ne_eqb b q (λ e. omega (arith, d zero (suc k) (omega arith) lt (sym e ∙ sym is)))),
      once b n qs k (λ i j li lj e. omega (arith, d (suc i) (suc j) (omega arith) (omega arith) e)) (omega arith) is,
    )

-- ---- a later list of Counter-Parties
abbrev pub Extends : List ℕ → List ℕ → Type 0
Extends ps qs = (k : ℕ) → k < length ps → (k < length qs) × (get_or qs k 0 ≡ get_or ps k 0)

sum_of : (qs : List ℕ) (cs : List Charge) → Distinct qs → AllByRecursion (λ c. (c.position < length qs) × (get_or qs c.position 0 ≡ c.billed)) cs → sum_by (λ c. sum_by (λ q. cond (eqb c.billed q) c.cents 0) qs) cs ≡ sum_by (λ c. c.cents) cs
sum_of qs [] d a = refl
sum_of qs (c ∷ cs) d a =
    omega (arith, sum_by-cons (λ x. sum_by (λ q. cond (eqb x.billed q) x.cents 0) qs) c cs, sum_by-cons (λ x. x.cents) c cs, once c.billed c.cents qs c.position d a.0.0 a.0.1, sum_of qs cs d a.1)

-- ---- the charges of a bill
abbrev cents-of : Charge → ℕ
cents-of c = c.cents

abbrev made : List ℕ → List ℕ → ℕ → Charge
made ps cs k = record { billed = get_or ps k 0; position = k; cents = get_or cs k 0 }

abbrev At : List ℕ → Charge → Type 0
At qs c = (c.position < length qs) × (get_or qs c.position 0 ≡ c.billed)

bill-cents : (ps cs : List ℕ) → sum_by cents-of (bills ps cs) ≡ total (λ k. get_or cs k 0) (length ps)
unfolding bills
bill-cents ps cs = along 0 (length ps) ∙ sum-counting (λ k. get_or cs k 0) (length ps) where
  along : (a n : ℕ) → sum_by cents-of (map (made ps cs) (range_with_len a n)) ≡ sum (map (λ k. get_or cs k 0) (range_with_len a n))
  along a zero = refl
  along a (suc n) =
      omega (
        arith,
        sum_by-cons cents-of (made ps cs a) (map (made ps cs) (range_with_len (a + 1) n)),
        sum_by-cons (λ x. x) (get_or cs a 0) (map (λ k. get_or cs k 0) (range_with_len (a + 1) n)),
        along (a + 1) n,
      )

laid-sum : (cs : List ℕ) (n : ℕ) → length cs ≡ n → n ≤ 32 → total (λ k. get_or (laid_out cs 32) k 0) n ≡ sum cs
unfolding laid_out
laid-sum cs n long few =
    total-same (λ k. get_or (laid_out cs 32) k 0) (λ k. get_or cs k 0) n (λ k lt. get_or-map-range_with_len (λ i. get_or cs i 0) 0 32 k k 0 (omega arith) (omega arith))
    ∙ ap (total (λ k. get_or cs k 0)) (sym long) ∙ sym (sum-total cs)

placed-in : (ps cs qs : List ℕ) → Extends ps qs → AllByRecursion (At qs) (bills ps cs)
unfolding bills
placed-in ps cs qs ext = along 0 (length ps) (omega arith) where
  along : (a n : ℕ) → a + n ≤ length ps → AllByRecursion (At qs) (map (made ps cs) (range_with_len a n))
  along a zero le = tt
  along a (suc n) le = (ext a (omega arith), along (a + 1) n (omega arith))

whole-bill : (s : Model) (t : TableMeaning) (amount : ℕ) (qs : List ℕ) → FairSplit amount (activities_of s t) (charges_of s t amount) → length s.register.parties ≤ 32 → Distinct qs → Extends s.register.parties qs
    → sum_by (λ q. charged_to (bills_of s t amount) q) qs ≡ amount
whole-bill s t amount qs fair few d ext =
    let ps = s.register.parties in
    let long : length (charges_of s t amount) ≡ length ps = fair.each ∙ length-map-range_with_len _ 0 (length ps) in
    swap (λ c q. cond (eqb c.billed q) c.cents 0) (bills_of s t amount) qs
    ∙ sum_of qs (bills_of s t amount) d (placed-in ps (laid_charges s t amount) qs ext)
    ∙ bill-cents ps (laid_charges s t amount)
    ∙ laid-sum (charges_of s t amount) (length ps) long few
    ∙ fair.adds_up

pub amount-step : (qs : List ℕ) (s t : State) (q : Request) (r : Reply) → Step s q r t → SoundState s → Distinct qs → Extends (parties_of s) qs → sum_by (λ p. accepted r (billed_in p s q)) qs ≡ accepted r (amount_in q)
amount-step qs s t q (Err f) h ok d ext = sum-none (λ p. 0) (λ p. refl) qs
amount-step qs s t (register p) (Ok x) h ok d ext = sum-none (λ p. 0) (λ p. refl) qs
amount-step qs s t (enrol m p) (Ok x) h ok d ext = sum-none (λ p. 0) (λ p. refl) qs
amount-step qs s t (bill table month amount day minute cal) (Ok x) h ok d ext = whole-bill s.ledger table amount qs (fair-step s t (bill table month amount day minute cal) (Ok x) h) ok.few d ext
amount-step qs s t (pay day minute account amount remark) (Ok x) h ok d ext = sum-none (λ p. 0) (λ p. refl) qs
amount-step qs s t (fund p m n) (Ok x) h ok d ext = sum-none (λ p. 0) (λ p. refl) qs
amount-step qs s t (run day minute) (Ok x) h ok d ext = sum-none (λ p. 0) (λ p. refl) qs
amount-step qs s t (report p) (Ok x) h ok d ext = sum-none (λ p. 0) (λ p. refl) qs

-- ---- the Counter-Parties of one moment are among those of a later one
longer : (ps : List ℕ) (p : ℕ) → Extends ps (ps ++ p ∷ [])
longer [] p k lt = absurd (omega arith)
longer (x ∷ xs) p zero lt = (omega arith, refl)
longer (x ∷ xs) p (suc k) lt = let r = longer xs p k (omega arith) in (omega (arith, r.0), r.1)

pub extends-same : (ps qs : List ℕ) → qs ≡ ps → Extends ps qs
extends-same ps qs e k lt = (omega (arith, ap length e), ap (λ l. get_or l k 0) e)

pub extends-on : (ps qs rs : List ℕ) → Extends ps qs → Extends qs rs → Extends ps rs
extends-on ps qs rs a b k lt = let x = a k lt in let y = b k x.0 in (y.0, y.1 ∙ x.1)

pub extends-step : (s t : State) (q : Request) (r : Reply) → Step s q r t → Extends (parties_of s) (parties_of t)
extends-step s t (register p) (Err f) h = extends-same _ _ (ap (λ l. l.register.parties) h.1)
extends-step s t (register p) (Ok x) h = extends-on (parties_of s) (parties_of s ++ p ∷ []) (parties_of t) (longer (parties_of s) p) (extends-same _ _ (ap (λ l. l.register.parties) h.1))
extends-step s t (enrol m p) (Err f) h = extends-same _ _ (ap (λ l. l.register.parties) h.1)
extends-step s t (enrol m p) (Ok x) h = extends-same _ _ (ap (λ l. l.register.parties) h.1)
extends-step s t (bill table month amount day minute cal) (Err f) h = extends-same _ _ (ap (λ l. l.register.parties) h.1)
extends-step s t (bill table month amount day minute cal) (Ok x) h = extends-same _ _ (ap (λ l. l.register.parties) h.1)
extends-step s t (pay day minute account amount remark) (Err f) h = extends-same _ _ (ap (λ l. l.register.parties) h.1)
extends-step s t (pay day minute account amount remark) (Ok x) h = extends-same _ _ (ap (λ l. l.register.parties) h.1)
extends-step s t (fund p m n) r h = extends-same _ _ (ap (λ l. l.register.parties) h.1)
extends-step s t (run day minute) (Err f) h = extends-same _ _ (ap (λ l. l.register.parties) h.1)
extends-step s t (run day minute) (Ok x) h = extends-same _ _ (ap (λ l. l.register.parties) h.1)
extends-step s t (report p) r h = extends-same _ _ (ap (λ l. l.register.parties) h.1)
