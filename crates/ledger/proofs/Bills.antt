-- What the steps of a bill give together. Assumes nothing.
use Rattle.std.proofs.Common.{◌≡◌, ℕ, zero, suc, ◌+◌, ◌≤◌, Bool, true, false, cond, ◌&&◌, ltb, leb, List, [], ◌∷◌, ◌++◌, length, get_or, replicate, is_some, Ok, Err, sum, Result, unwrap_or, sym, refl, ap, ◌∙◌, subst, ⊎_elim, arith, le-leb, leb-true}
use Rattle.std.proofs.lemmas.List.FromFn.{length-map-range_with_len, get_or-map-range_with_len}
use Rattle.std.proofs.lemmas.List.{get_or_past}
use Rattle.std.proofs.lemmas.List.Sums.{get_or-le-sum_by}
use Rattle.std.proofs.lemmas.Bool.{and_from, and_parts, cases_lt}
use Rattle.foundation.specs.Questions.{Question, asks}
use Rattle.foundation.proofs.Verdicts.{all_hold, all-ok, the_value, verdict-goes, verdict-stops}
use Rattle.calendar.specs.Due.{due_day_of}
use Rattle.calendar.specs.Meaning.{CalendarMeaning}
use Rattle.calendar.specs.Moments.{When}
use Rattle.records.specs.declared.fault.Fault.TheVariants as record-fault
use Rattle.activity.specs.Activity.{activities}
use Rattle.activity.specs.Tables.{TableMeaning, carries, activities_answer}
use Rattle.split.specs.declared.fault.Fault.{Fault as SplitFault}
use Rattle.split.specs.declared.fault.Fault.TheVariants as split-fault
use Rattle.split.specs.Amounts.{is_amount, amount_answer}
use Rattle.split.specs.Laws.{FairSplit}
use Rattle.split.specs.Split.{charges, laid_out, activity_asks, split_answer}
use Rattle.receivables.specs.declared.charge.Charge.{Charge}
use Rattle.receivables.specs.declared.charge.Issued.{Issued}
use Rattle.receivables.specs.declared.fault.Fault as receivable-fault
use Rattle.receivables.specs.declared.fault.Fault.TheVariants as receivable
use Rattle.receivables.specs.Books.{Book}
use Rattle.receivables.specs.Issued.{positive, are_places, issue_answer, after_issue}
use Rattle.ledger.specs.declared.answers.Billed.{Billed}
use Rattle.ledger.specs.declared.fault.Fault.{Fault}
use Rattle.ledger.specs.declared.fault.Fault.TheVariants.{DueDay, Receivable}
use Rattle.ledger.specs.Bill.{activities_of, charges_of, laid_charges, bills, bills_of, charge_asks, charge_answer, place_asks, place_answer, bill_answer}
use Rattle.ledger.specs.Charges.{laid}
use Rattle.ledger.specs.Model.{Model, is_later}
use Rattle.ledger.specs.Pay.{moment_asks, moment_answer}

-- an amount that was accepted is the one given
pub amount-is : (cents amount : ℕ) → Ok cents ≡ amount_answer amount → (cents ≡ amount) × (is_amount amount ≡ true)
amount-is cents amount h =
    let qs = asks (is_amount amount) split-fault.Amount ∷ [] in
    (the_value qs amount cents h, (all_hold qs amount cents (sym h)).0)

pub laid-ok : (cs out : List ℕ) (r : Result ℕ SplitFault) → Ok out ≡ laid cs r → (m : ℕ) × (Ok m ≡ r) × (out ≡ laid_out cs 32)
laid-ok cs out (Ok m) h = (m, refl, cc)
laid-ok cs out (Err f) h = absurd (let z : ◌≡◌ {A = ℕ} 0 1 = cc in omega arith)

module _ (s : Model) (t : TableMeaning) (month amount : ℕ) where
  pub charged : (cents n : ℕ) (us xs out : List ℕ) → Ok tt ≡ activities_answer t month → Ok cents ≡ amount_answer amount → month ≤ 959 → is_later s.month month ≡ true
      → xs ≡ activities t.rows us n → us ≡ s.register.under → n ≡ length s.register.parties → Ok out ≡ laid (charges cents xs) (split_answer xs) → FairSplit cents xs (charges cents xs)
      → (Ok out ≡ charge_answer s t month amount) × FairSplit amount (activities_of s t) (charges_of s t amount)
  charged cents n us xs out carried amounts fits later acts under long shared fair =
      let split-ok = laid-ok (charges cents xs) out (split_answer xs) shared in
      let a = amount-is cents amount amounts in
      let same : xs ≡ activities_of s t = acts ∙ ap (λ u. activities t.rows u n) under ∙ ap (activities t.rows s.register.under) long in
      let held = all_hold (activity_asks (sum xs)) (sum xs) split-ok.0 (sym split-ok.1) in
      let twelve = (all_hold (asks (carries t month) record-fault.Month ∷ []) tt tt (sym carried)).0 in
      let twenty : leb 1 (sum (activities_of s t)) ≡ true = ap (λ ys. leb 1 (sum ys)) (sym same) ∙ held.0 in
      let more : leb (sum (activities_of s t)) 8000000000 ≡ true = ap (λ ys. leb (sum ys) 8000000000) (sym same) ∙ held.1.0 in
      let cs : charges cents xs ≡ charges_of s t amount = ap (λ c. charges c xs) a.0 ∙ ap (charges amount) same in (
        ap Ok (split-ok.2 ∙ ap (λ ys. laid_out ys 32) cs)
            ∙ sym (all-ok (charge_asks s t month amount) (laid_charges s t amount) (twelve, (a.1, (and_from _ _ (le-leb month 959 fits) later, (twenty, (more, tt)))))),
        subst (FairSplit amount (activities_of s t)) cs (subst (λ ys. FairSplit amount ys (charges cents xs)) same (subst (λ c. FairSplit c xs (charges cents xs)) a.0 fair)),
      )

-- ---- places
positive-few : (cs : List Charge) → positive cs ≤ length cs
positive-few [] = omega arith
positive-few (c ∷ cs) =
    let few = positive-few cs in
    elim (ltb 0 c.cents) as (λ b. cond b (1 + positive cs) (positive cs) ≤ length (c ∷ cs)) [ true ↦ omega (arith, few) | false ↦ omega (arith, few) ]

bills-long : (parties cs : List ℕ) → length (bills parties cs) ≡ length parties
unfolding bills
bills-long parties cs = length-map-range_with_len _ 0 (length parties)

pub bills-few : (parties cs : List ℕ) → length parties ≤ 32 → positive (bills parties cs) ≤ 32
bills-few parties cs few = omega (arith, positive-few (bills parties cs), bills-long parties cs)

-- numbers that do not run out leave the question to the places
pub places-only : (b : Book) (cs : List Charge) → b.next + positive cs ≤ 4294967295 → are_places 256 b cs ≡ leb (length b.invoices + positive cs) 256
places-only b cs h = and-on (leb (length b.invoices + positive cs) 256) (leb (b.next + positive cs) 4294967295) (le-leb _ _ h)
  where
    and-on : (x y : Bool) → y ≡ true → (x && y) ≡ x
    and-on true y e = e
    and-on false y e = refl

-- ---- issuing, with the ledger's refusal
refused-too : (w : Bool) (i : Issued) (f : receivable-fault.Fault) → Err f ≡ cond w (Ok i) (Err receivable.Places) → Err (Receivable f) ≡ cond w (Ok i) (Err (Receivable receivable.Places))
refused-too true i f h = let z : ◌≡◌ {A = ℕ} 0 1 = cc in absurd (omega arith)
refused-too false i f h = cc

taken-too : (w : Bool) (i j : Issued) → Ok j ≡ cond w (Ok i) (Err receivable.Places) → Ok j ≡ cond w (Ok i) (Err (Receivable receivable.Places))
taken-too true i j h = cc
taken-too false i j h = let z : ◌≡◌ {A = ℕ} 0 1 = cc in absurd (omega arith)

module _ (b : Book) (parties cs : List ℕ) (xs : List Charge) (few : length parties ≤ 32) (numbers : b.next ≤ 4294967263) (written : xs ≡ bills parties cs) where
  fits : b.next + positive (bills parties cs) ≤ 4294967295
  fits = omega (arith, bills-few parties cs few, numbers)

  abbrev value : Issued
  value = record { count = positive (bills parties cs); first = b.next }

  told : issue_answer 256 b xs ≡ cond (leb (length b.invoices + positive (bills parties cs)) 256) (Ok value) (Err receivable.Places)
  told = ap (issue_answer 256 b) written ∙ ap (λ w. cond w (Ok value) (Err receivable.Places)) (places-only b (bills parties cs) fits)

  pub no-places : (f : receivable-fault.Fault) → Err f ≡ issue_answer 256 b xs → Err (Receivable f) ≡ place_answer b (bills parties cs)
  no-places f h = refused-too (leb (length b.invoices + positive (bills parties cs)) 256) value f (h ∙ told)

  pub placed : (j : Issued) → Ok j ≡ issue_answer 256 b xs → Ok j ≡ place_answer b (bills parties cs)
  placed j h = taken-too (leb (length b.invoices + positive (bills parties cs)) 256) value j (h ∙ told)

  pub issued-book : (b' : Book) (due : ℕ) → b' ≡ after_issue b due xs → (b' ≡ after_issue b due (bills parties cs)) × (b'.next ≤ b.next + 32)
  issued-book b' due h =
      let e = h ∙ ap (after_issue b due) written in
      (e, omega (arith, ap (λ x. x.next) e, bills-few parties cs few))

-- ---- the charges that a bill is made of
at-most-sum : (m : ℕ) (cs : List ℕ) → sum cs ≤ m → (k : ℕ) → get_or cs k 0 ≤ m
at-most-sum m cs h k = ⊎_elim (λ l. omega (arith, get_or-le-sum_by (λ x. x) cs k 0 l, h)) (λ l. omega (arith, get_or_past cs k 0 l)) (cases_lt k (length cs))

pub laid-long : (cs : List ℕ) → length (laid_out cs 32) ≡ 32
unfolding laid_out
laid-long cs = length-map-range_with_len (λ i. get_or cs i 0) 0 32

pub laid-small : (m : ℕ) (cs : List ℕ) → sum cs ≤ m → (k : ℕ) → get_or (laid_out cs 32) k 0 ≤ m
unfolding laid_out
laid-small m cs h k =
    ⊎_elim (λ l. omega (arith, get_or-map-range_with_len (λ i. get_or cs i 0) 0 32 k k 0 l (omega arith), at-most-sum m cs h k))
    (λ l. omega (arith, get_or_past (laid_out cs 32) k 0 (omega (arith, laid-long cs, l)))) (cases_lt k 32)

pub zeros-small : (n k : ℕ) → get_or (replicate n 0) k 0 ≤ 4294967295
zeros-small zero k = omega arith
zeros-small (suc n) zero = omega arith
zeros-small (suc n) (suc k) = zeros-small n k

module _ (s : Model) (t : TableMeaning) (month amount : ℕ) where
  -- an accepted amount leaves every charge small
  pub small-charges : (out : List ℕ) → Ok out ≡ charge_answer s t month amount → FairSplit amount (activities_of s t) (charges_of s t amount) → (out ≡ laid_charges s t amount) × ((k : ℕ) → get_or out k 0 ≤ 4294967295)
  small-charges out h fair =
      let e = the_value (charge_asks s t month amount) (laid_charges s t amount) out h in
      let most = (all_hold (charge_asks s t month amount) _ out (sym h)).1.0 in
      (e, λ k. subst (λ cs. get_or cs k 0 ≤ 4294967295) (sym e) (laid-small 4294967295 (charges_of s t amount) (omega (arith, fair.adds_up, leb-true amount 1000000000 (and_parts (leb 1 amount) (leb amount 1000000000) most).1)) k))

module _ (s : Model) (t : TableMeaning) (month amount day minute : ℕ) (cal : CalendarMeaning) where
  abbrev rest : List (Question Fault)
  rest = asks (is_some (due_day_of cal day)) DueDay ∷ place_asks s.book (bills_of s t amount)

  abbrev bill_value : Billed
  bill_value = record { count = positive (bills_of s t amount); first = s.book.next; due_day = unwrap_or (due_day_of cal day) 0 }

  pub no-charges : (w : When) (e : Fault) → Ok w ≡ moment_answer s day minute → Err e ≡ charge_answer s t month amount → Err e ≡ bill_answer s t month amount day minute cal
  no-charges w e h k = sym (verdict-goes (moment_asks s day minute) (charge_asks s t month amount ++ rest) _ w bill_value (sym h) ∙ verdict-stops (charge_asks s t month amount) rest _ bill_value e (sym k))
