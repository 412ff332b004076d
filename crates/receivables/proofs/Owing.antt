-- What issuing, paying and a run do to what a Counter-Party owes. Assumes nothing.
use Rattle.std.proofs.Common.{◌≡◌, ℕ, ◌+◌, ◌-◌, ◌<◌, ◌≤◌, Bool, true, false, cond, eqb, ltb, List, [], ◌∷◌, ◌++◌, map, length, get_or, Some, filter, sym, refl, ap, ◌∙◌, inl, inr, arith}
use Rattle.std.specs.List.{AllByRecursion}
use Rattle.std.proofs.lemmas.List.Sums.{sum_by-cons, sum_by-append}
use Rattle.std.proofs.lemmas.Bool.{cases_eq, cond-true, cond-false, eq-eqb, ne_eqb, ltb-false}
use Rattle.receivables.specs.declared.charge.Charge.{Charge}
use Rattle.receivables.specs.declared.invoice.Event.{Event}
use Rattle.receivables.specs.declared.invoice.Event.TheVariants.{Payment}
use Rattle.receivables.specs.declared.invoice.Invoice.{Invoice}
use Rattle.receivables.specs.declared.invoice.State.{State}
use Rattle.receivables.specs.declared.invoice.State.TheVariants.{Open, Short, Settled}
use Rattle.receivables.specs.Invoices.{told, told_in, unsettled, owed_by}
use Rattle.receivables.specs.Issued.{issued, issued_from, charged_to}
use Rattle.receivables.specs.Laws.{owed_at}
use Rattle.receivables.specs.Payments.{balance_of, billed_of, counts_for, paid_on}
use Rattle.receivables.proofs.Lists.{Standing, Listed, told-in-rest, numbers-above}
use Rattle.receivables.proofs.Payments.{others_same}
use Rattle.receivables.proofs.RunLaws.{Clear, told-in-clear, standing-clear, swept-head, asks_none}

pub told-in-billed : (t : State) (v : Invoice) (e : Event) → (told_in t v e).billed ≡ v.billed
told-in-billed t v e = ap (λ w. w.billed) (told-in-rest t v e)

told-payment : (t : State) (v : Invoice) (n : ℕ) → v.state ≡ t → unsettled v ≡ true → (told_in t v (Payment n)).balance ≡ v.balance - n
told-payment Open v n e u = refl
told-payment Short v n e u = refl
told-payment Settled v n e u = let z : ◌≡◌ {A = ℕ} 0 1 = cc in absurd (omega arith)

module _ (party : ℕ) where
  abbrev part : Invoice → ℕ
  part v = cond (eqb v.billed party) v.balance 0

  abbrev asked : Charge → ℕ
  asked c = cond (eqb c.billed party) c.cents 0

  owed-cons : (v : Invoice) (vs : List Invoice) → owed_by (v ∷ vs) party ≡ part v + owed_by vs party
  owed-cons v vs = sum_by-cons part v vs

  -- ---- issuing
  owed-issued : (n due : ℕ) (cs : List Charge) → owed_by (issued_from n due cs) party ≡ charged_to cs party
  owed-issued n due [] = refl
  owed-issued n due (c ∷ cs) = go (ltb 0 c.cents) refl (owed-issued (n + 1) due cs) (owed-issued n due cs) where
    go : (b : Bool) → ltb 0 c.cents ≡ b → owed_by (issued_from (n + 1) due cs) party ≡ charged_to cs party → owed_by (issued_from n due cs) party ≡ charged_to cs party → owed_by (cond b (issued n due c ∷ issued_from (n + 1) due cs) (issued_from n due cs)) party ≡ charged_to (c ∷ cs) party
    go true t one none = omega (arith, owed-cons (issued n due c) (issued_from (n + 1) due cs), one, sum_by-cons asked c cs)
    go false t one none = omega (arith, none, sum_by-cons asked c cs, asks_none (eqb c.billed party) c.cents (omega (arith, ltb-false 0 c.cents t)))

  pub owed_more : (n due : ℕ) (vs : List Invoice) (cs : List Charge) → owed_by (vs ++ issued_from n due cs) party ≡ owed_by vs party + charged_to cs party
  owed_more n due vs cs = sum_by-append part vs (issued_from n due cs) ∙ ap (λ k. owed_by vs party + k) (owed-issued n due cs)

  -- ---- paying
  told_part : (v : Invoice) (n : ℕ) → Standing v → n ≤ v.balance → part (told v (Payment n)) + counts_for party (Some v.billed) n ≡ part v
  told_part v n s enough =
      let b = told-in-billed v.state v (Payment n) in
      let left = told-payment v.state v n refl s.here in
      go (eqb v.billed party) (ap (λ p. eqb p party) b) left where
        go : (t : Bool) → eqb (told v (Payment n)).billed party ≡ t → (told v (Payment n)).balance ≡ v.balance - n → cond (eqb (told v (Payment n)).billed party) (told v (Payment n)).balance 0 + cond t n 0 ≡ cond t v.balance 0
        go true e left = omega (arith, cond-true _ (told v (Payment n)).balance 0 e, left, enough)
        go false e left = omega (arith, cond-false _ (told v (Payment n)).balance 0 e)

  swept-one : (w : Invoice) (ws : List Invoice) → Clear w → owed_by (cond (unsettled w) (w ∷ ws) ws) party ≡ part w + owed_by ws party
  unfolding Clear
  swept-one w ws clear = swept-head w ws part (λ us. owed_by us party) owed-cons (λ u. asks_none _ _ (clear u))

  swept_all : (low high : ℕ) (vs : List Invoice) → Listed low high vs → owed_by (filter unsettled vs) party ≡ owed_by vs party
  swept_all low high [] l = refl
  swept_all low high (v ∷ vs) l = swept-one v (filter unsettled vs) (standing-clear v l.1) ∙ ap (λ k. part v + k) (swept_all (v.number + 1) high vs l.2) ∙ sym (owed-cons v vs)

  pub owed-less : (low high n amount : ℕ) (vs : List Invoice) → Listed low high vs → amount ≤ balance_of vs n → owed_by (filter unsettled (map (paid_on n amount) vs)) party + counts_for party (billed_of vs n) amount ≡ owed_by vs party
  owed-less low high n amount [] l enough = omega arith
  owed-less low high n amount (v ∷ vs) l enough = elim (cases_eq v.number n) [ inl same ↦ here same | inr other ↦ there other (λ most. owed-less (v.number + 1) high n amount vs l.2 most) ] where
    here : v.number ≡ n → owed_by (filter unsettled (map (paid_on n amount) (v ∷ vs))) party + counts_for party (billed_of (v ∷ vs) n) amount ≡ owed_by (v ∷ vs) party
    here same =
        let on : eqb v.number n ≡ true = eq-eqb v.number n same in
        let w : Invoice = told v (Payment amount) in
        let rest = others_same n amount vs (numbers-above (v.number + 1) n high vs (omega (arith, same)) l.2) in
        let list : map (paid_on n amount) (v ∷ vs) ≡ w ∷ vs = ap (λ u. u ∷ map (paid_on n amount) vs) (cond-true _ _ _ on) ∙ ap (λ us. w ∷ us) rest in
        let clear = told-in-clear v.state v (Payment amount) refl (standing-clear v l.1) in
        let owed = ap (λ us. owed_by (filter unsettled us) party) list ∙ swept-one w (filter unsettled vs) clear in
        let whom = ap (λ o. counts_for party o amount) (cond-true (eqb v.number n) (Some v.billed) (billed_of vs n) on) in
        let most : amount ≤ v.balance = omega (arith, enough, cond-true (eqb v.number n) v.balance (balance_of vs n) on) in
        omega (arith, owed, whom, told_part v amount l.1 most, swept_all (v.number + 1) high vs l.2, owed-cons v vs)

    there : (v.number ≡ n → ⊥) → (amount ≤ balance_of vs n → owed_by (filter unsettled (map (paid_on n amount) vs)) party + counts_for party (billed_of vs n) amount ≡ owed_by vs party) → owed_by (filter unsettled (map (paid_on n amount) (v ∷ vs))) party + counts_for party (billed_of (v ∷ vs) n) amount ≡ owed_by (v ∷ vs) party
    there other rests =
        let off : eqb v.number n ≡ false = ne_eqb v.number n other in
        let rest : List Invoice = map (paid_on n amount) vs in
        let list : map (paid_on n amount) (v ∷ vs) ≡ v ∷ rest = ap (λ u. u ∷ rest) (cond-false _ _ _ off) in
        let owed = ap (λ us. owed_by (filter unsettled us) party) list ∙ swept-one v (filter unsettled rest) (standing-clear v l.1) in
        let whom = ap (λ o. counts_for party o amount) (cond-false (eqb v.number n) (Some v.billed) (billed_of vs n) off) in
        let most : amount ≤ balance_of vs n = omega (arith, enough, cond-false (eqb v.number n) v.balance (balance_of vs n) off) in
        omega (arith, owed, whom, rests most, owed-cons v vs)

-- ---- the place of a Counter-Party's security
abbrev pub Placed : List ℕ → List Invoice → Type 0
Placed parties vs = AllByRecursion (λ v. (v.position < length parties) × (get_or parties v.position 0 ≡ v.billed)) vs

-- no number stands twice
abbrev pub Distinct : List ℕ → Type 0
Distinct parties = (i j : ℕ) → i < length parties → j < length parties → get_or parties i 0 ≡ get_or parties j 0 → i ≡ j

-- what is owed at a place is what is owed by the Counter-Party there
pub owed-there : (parties : List ℕ) (k : ℕ) (vs : List Invoice) → Distinct parties → k < length parties → Placed parties vs → owed_at k vs ≡ owed_by vs (get_or parties k 0)
owed-there parties k [] d lt placed = refl
owed-there parties k (v ∷ vs) d lt placed =
    omega (arith, owed-there parties k vs d lt placed.1, owed-cons (get_or parties k 0) v vs, here)
  where
    here : cond (eqb v.position k) v.balance 0 ≡ cond (eqb v.billed (get_or parties k 0)) v.balance 0
    here = elim (cases_eq v.position k) [
      | inl same ↦
          (cond-true (eqb v.position k) v.balance 0 (eq-eqb _ _ same)
          ∙ sym (cond-true (eqb v.billed (get_or parties k 0)) v.balance 0 (eq-eqb _ _ (sym placed.0.1 ∙ ap (λ i. get_or parties i 0) same))))
      | inr other ↦
          (cond-false (eqb v.position k) v.balance 0 (ne_eqb _ _ other)
          ∙ sym (cond-false (eqb v.billed (get_or parties k 0)) v.balance 0 (ne_eqb _ _ (λ e. other (d v.position k placed.0.0 lt (placed.0.1 ∙ e))))))
    ]
