-- What a past-due run leaves is what its law says. Assumes nothing.
use Rattle.std.proofs.Common.{◌≡◌, ℕ, zero, suc, ◌+◌, ◌-◌, ◌<◌, ◌≤◌, min, Bool, true, false, cond, not, eqb, ltb, List, [], ◌∷◌, get_or, set, sum, filter, sym, refl, ap, ◌∙◌, inl, inr, arith}
use Rattle.std.specs.List.{AllByRecursion}
use Rattle.std.proofs.lemmas.List.{get_or-set_other}
use Rattle.std.proofs.lemmas.List.Sums.{sum_by-cons}
use Rattle.std.proofs.lemmas.Bool.{cases_eq, cond-true, cond-false, eq-eqb, ne_eqb, ltb-false}
use Rattle.foundation.proofs.Firsts.{true-false}
use Rattle.foundation.specs.Limits.{due_minute}
use Rattle.calendar.specs.Moments.{When, before}
use Rattle.receivables.specs.declared.invoice.Event.{Event}
use Rattle.receivables.specs.declared.invoice.Event.TheVariants.{Payment, Draw, PastDue}
use Rattle.receivables.specs.declared.invoice.Invoice.{Invoice}
use Rattle.receivables.specs.declared.invoice.State.{State}
use Rattle.receivables.specs.declared.invoice.State.TheVariants.{Open, Short, Settled}
use Rattle.receivables.specs.Invoices.{told, told_in, lowered, is_settled, unsettled, is_past_due}
use Rattle.receivables.specs.Laws.{owed_at, owed_past, RunLaw}
use Rattle.receivables.specs.Payments.{balance_of}
use Rattle.receivables.specs.Run.{paid, held_after, drawn_on, helds, drawn_all, drawn, owed, outcome}
use Rattle.receivables.proofs.Lists.{Standing, Listed, told-fine, told-in-rest, told-number, numbers-above}

-- ---- what an event keeps
pub told-in-position : (t : State) (v : Invoice) (e : Event) → (told_in t v e).position ≡ v.position
told-in-position t v e = ap (λ w. w.position) (told-in-rest t v e)

told-in-due : (t : State) (v : Invoice) (e : Event) → (told_in t v e).due_day ≡ v.due_day
told-in-due t v e = ap (λ w. w.due_day) (told-in-rest t v e)

pub drawn-position : (hs : List ℕ) (v : Invoice) → (drawn_on hs v).position ≡ v.position
drawn-position hs v = told-in-position _ (told v (Draw (paid hs v))) PastDue ∙ told-in-position _ v (Draw (paid hs v))

drawn-number : (hs : List ℕ) (v : Invoice) → (drawn_on hs v).number ≡ v.number
drawn-number hs v = told-number (told v (Draw (paid hs v))) PastDue ∙ told-number v (Draw (paid hs v))

pub drawn-due : (hs : List ℕ) (v : Invoice) → (drawn_on hs v).due_day ≡ v.due_day
drawn-due hs v = told-in-due _ (told v (Draw (paid hs v))) PastDue ∙ told-in-due _ v (Draw (paid hs v))

-- ---- what a draw takes off a balance
told-draw : (t : State) (v : Invoice) (n : ℕ) → v.state ≡ t → unsettled v ≡ true → (told_in t v (Draw n)).balance ≡ v.balance - n
told-draw Open v n q u = refl
told-draw Short v n q u = refl
told-draw Settled v n q u = absurd (true-false (unsettled v) u (ap (λ s. not (is_settled s)) q))

told-past : (t : State) (v : Invoice) → (told_in t v PastDue).balance ≡ v.balance
told-past Open v = refl
told-past Short v = refl
told-past Settled v = refl

drawn-balance : (hs : List ℕ) (v : Invoice) → Standing v → (drawn_on hs v).balance ≡ v.balance - paid hs v
drawn-balance hs v s = told-past _ (told v (Draw (paid hs v))) ∙ told-draw v.state v (paid hs v) refl s.here

-- ---- what was settled by an event asks nothing any more
unfoldable pub Clear : Invoice → Type 0
Clear v = unsettled v ≡ false → v.balance ≡ 0

lowered-clear : (v : Invoice) (n : ℕ) → unsettled v ≡ true → Clear (lowered v n)
unfolding Clear
lowered-clear v n here = go (ltb n v.balance) refl where
  go : (b : Bool) → ltb n v.balance ≡ b → unsettled (lowered v n) ≡ false → (lowered v n).balance ≡ 0
  go true t u = absurd (true-false (unsettled v) here (rw t at u))
  go false t u = omega (arith, ltb-false n v.balance t)

pub told-in-clear : (t : State) (v : Invoice) (e : Event) → v.state ≡ t → Clear v → Clear (told_in t v e)
unfolding Clear
told-in-clear Open v (Payment n) q f = lowered-clear v n (rw q refl)
told-in-clear Open v (Draw n) q f = lowered-clear v n (rw q refl)
told-in-clear Open v PastDue q f = λ u. absurd (true-false true refl u)
told-in-clear Short v (Payment n) q f = lowered-clear v n (rw q refl)
told-in-clear Short v (Draw n) q f = lowered-clear v n (rw q refl)
told-in-clear Short v PastDue q f = λ u. absurd (true-false true refl u)
told-in-clear Settled v e q f = f

pub standing-clear : (v : Invoice) → Standing v → Clear v
unfolding Clear
standing-clear v s u = absurd (true-false (unsettled v) s.here u)

pub drawn-clear : (hs : List ℕ) (v : Invoice) → Standing v → Clear (drawn_on hs v)
drawn-clear hs v s = told-in-clear _ (told v (Draw (paid hs v))) PastDue refl (told-in-clear _ v (Draw (paid hs v)) refl (standing-clear v s))

-- ---- the row
held-here : (hs : List ℕ) (i b : ℕ) → get_or (set hs i (get_or hs i 0 - b)) i 0 ≡ get_or hs i 0 - b
held-here [] i b = omega arith
held-here (h ∷ hs) zero b = refl
held-here (h ∷ hs) (suc i) b = held-here hs i b

sum-after : (hs : List ℕ) (i b : ℕ) → sum (set hs i (get_or hs i 0 - b)) + min b (get_or hs i 0) ≡ sum hs
sum-after [] i b = omega arith
sum-after (h ∷ hs) zero b = omega (arith, sum_by-cons (λ x. x) (h - b) hs, sum_by-cons (λ x. x) h hs)
sum-after (h ∷ hs) (suc i) b = omega (arith, sum_by-cons (λ x. x) h (set hs i (get_or hs i 0 - b)), sum_by-cons (λ x. x) h hs, sum-after hs i b)

module _ (past : Invoice → Bool) where
  -- what a draw moves at a place: held falls by what the balance falls by
  one-draw : (hs : List ℕ) (v : Invoice) (j : ℕ) → Standing v → get_or (held_after hs v) j 0 + cond (eqb v.position j) v.balance 0 ≡ get_or hs j 0 + cond (eqb (drawn_on hs v).position j) (drawn_on hs v).balance 0
  one-draw hs v j s = elim (cases_eq v.position j) [
    | inl same ↦
        (let on : eqb v.position j ≡ true = eq-eqb v.position j same in
        let on' : eqb (drawn_on hs v).position j ≡ true = eq-eqb (drawn_on hs v).position j (drawn-position hs v ∙ same) in
        let h = held-here hs v.position v.balance in
        let at : get_or (held_after hs v) j 0 ≡ get_or hs v.position 0 - v.balance = ap (λ k. get_or (held_after hs v) k 0) (sym same) ∙ h in
        let was : get_or hs j 0 ≡ get_or hs v.position 0 = ap (λ k. get_or hs k 0) (sym same) in
        omega (arith, at, was, cond-true (eqb v.position j) v.balance 0 on, cond-true (eqb (drawn_on hs v).position j) (drawn_on hs v).balance 0 on', drawn-balance hs v s))
    | inr other ↦
        (let off : eqb v.position j ≡ false = ne_eqb v.position j other in
        let off' : eqb (drawn_on hs v).position j ≡ false = ne_eqb (drawn_on hs v).position j (λ e. other (sym (drawn-position hs v) ∙ e)) in
        omega (arith, get_or-set_other hs v.position j (get_or hs v.position 0 - v.balance) 0 (λ e. other (sym e)), cond-false (eqb v.position j) v.balance 0 off, cond-false (eqb (drawn_on hs v).position j) (drawn_on hs v).balance 0 off'))
  ]

  each : (low high : ℕ) (vs : List Invoice) (hs : List ℕ) (j : ℕ) → Listed low high vs → get_or (helds past vs hs) j 0 + owed_at j vs ≡ get_or hs j 0 + owed_at j (drawn_all past vs hs)
  each low high [] hs j l = omega arith
  each low high (v ∷ vs) hs j l =
      let late = each (v.number + 1) high vs (held_after hs v) j l.2 in
      let early = each (v.number + 1) high vs hs j l.2 in
      elim (past v) as (λ b. get_or (helds past vs (cond b (held_after hs v) hs)) j 0 + (cond (eqb v.position j) v.balance 0 + owed_at j vs) ≡ get_or hs j 0 + (cond (eqb (cond b (drawn_on hs v) v).position j) (cond b (drawn_on hs v) v).balance 0 + owed_at j (drawn_all past vs (cond b (held_after hs v) hs))))
      [ true ↦ omega (arith, late, one-draw hs v j l.1) | false ↦ omega (arith, early) ]

  total : (vs : List Invoice) (hs : List ℕ) → sum (helds past vs hs) + drawn past vs hs ≡ sum hs
  total [] hs = omega arith
  total (v ∷ vs) hs =
      let late = total vs (held_after hs v) in
      let early = total vs hs in
      elim (past v) as (λ b. sum (helds past vs (cond b (held_after hs v) hs)) + (cond b (paid hs v) 0 + drawn past vs (cond b (held_after hs v) hs)) ≡ sum hs)
      [ true ↦ omega (arith, late, sum-after hs v.position v.balance) | false ↦ omega (arith, early) ]

  falls : (vs : List Invoice) (hs : List ℕ) (j : ℕ) → get_or (helds past vs hs) j 0 ≤ get_or hs j 0
  falls [] hs j = omega arith
  falls (v ∷ vs) hs j =
      let late = falls vs (held_after hs v) j in
      let early = falls vs hs j in
      let step : get_or (held_after hs v) j 0 ≤ get_or hs j 0 = elim (cases_eq v.position j) [
        | inl same ↦ omega (arith, held-here hs v.position v.balance, ap (λ k. get_or (held_after hs v) k 0) same, ap (λ k. get_or hs k 0) same)
        | inr other ↦ omega (arith, get_or-set_other hs v.position j (get_or hs v.position 0 - v.balance) 0 (λ e. other (sym e)))
      ] in
      elim (past v) as (λ b. get_or (helds past vs (cond b (held_after hs v) hs)) j 0 ≤ get_or hs j 0) [ true ↦ omega (arith, late, step) | false ↦ omega (arith, early) ]

-- ---- the settled ones are out, and asked nothing
pub swept-head : (w : Invoice) (ws : List Invoice) (f : Invoice → ℕ) (g : List Invoice → ℕ) → ((v : Invoice) (vs : List Invoice) → g (v ∷ vs) ≡ f v + g vs) → (unsettled w ≡ false → f w ≡ 0) → g (cond (unsettled w) (w ∷ ws) ws) ≡ f w + g ws
swept-head w ws f g adds none = go (unsettled w) refl where
  go : (b : Bool) → unsettled w ≡ b → g (cond b (w ∷ ws) ws) ≡ f w + g ws
  go true t = adds w ws
  go false t = omega (arith, none t)

pub asks_none : (b : Bool) (n : ℕ) → n ≡ 0 → cond b n 0 ≡ 0
asks_none true n e = e
asks_none false n e = refl

module _ (past : Invoice → Bool) where
  after-clear : (hs : List ℕ) (v : Invoice) → Standing v → Clear (cond (past v) (drawn_on hs v) v)
  after-clear hs v s = elim (past v) as (λ b. Clear (cond b (drawn_on hs v) v)) [ true ↦ drawn-clear hs v s | false ↦ standing-clear v s ]

  swept-owed : (low high : ℕ) (vs : List Invoice) (hs : List ℕ) (j : ℕ) → Listed low high vs → owed_at j (filter unsettled (drawn_all past vs hs)) ≡ owed_at j (drawn_all past vs hs)
  unfolding Clear
  swept-owed low high [] hs j l = refl
  swept-owed low high (v ∷ vs) hs j l =
      let w : Invoice = cond (past v) (drawn_on hs v) v in
      let ks : List ℕ = cond (past v) (held_after hs v) hs in
      swept-head w (filter unsettled (drawn_all past vs ks)) (λ u. cond (eqb u.position j) u.balance 0) (owed_at j) (λ u us. refl) (λ u. asks_none _ _ (after-clear hs v l.1 u))
      ∙ ap (λ n. cond (eqb w.position j) w.balance 0 + n) (swept-owed (v.number + 1) high vs ks j l.2)

  -- an invoice is past due after the run where it was before
  Stays : Type 0
  Stays = (hs : List ℕ) (v : Invoice) → past (drawn_on hs v) ≡ past v

  swept-past : Stays → (low high : ℕ) (vs : List Invoice) (hs : List ℕ) → Listed low high vs → owed_past past (filter unsettled (drawn_all past vs hs)) ≡ owed past vs hs
  unfolding Clear Stays
  swept-past stays low high [] hs l = refl
  swept-past stays low high (v ∷ vs) hs l =
      let w : Invoice = cond (past v) (drawn_on hs v) v in
      let ks : List ℕ = cond (past v) (held_after hs v) hs in
      let here : cond (past w) w.balance 0 ≡ cond (past v) (drawn_on hs v).balance 0 = go (past v) refl in
      swept-head w (filter unsettled (drawn_all past vs ks)) (λ u. cond (past u) u.balance 0) (owed_past past) (λ u us. refl) (λ u. asks_none _ _ (after-clear hs v l.1 u))
      ∙ ap (λ n. cond (past w) w.balance 0 + n) (swept-past stays (v.number + 1) high vs ks l.2)
      ∙ ap (λ n. n + owed past vs ks) here
    where
      go : (b : Bool) → past v ≡ b → cond (past (cond b (drawn_on hs v) v)) (cond b (drawn_on hs v) v).balance 0 ≡ cond b (drawn_on hs v).balance 0
      go true t = cond-true _ _ _ (stays hs v ∙ t)
      go false t = cond-false _ _ _ t

  -- past due and still owed only where nothing is held any more
  empty : (low high : ℕ) (vs : List Invoice) (hs : List ℕ) → Listed low high vs → AllByRecursion (λ w. past w ≡ true → get_or (helds past vs hs) w.position 0 ≡ 0) (filter unsettled (drawn_all past vs hs))
  empty low high [] hs l = tt
  empty low high (v ∷ vs) hs l = go (past v) refl (empty (v.number + 1) high vs (cond (past v) (held_after hs v) hs) l.2) where
    go : (b : Bool) → past v ≡ b → AllByRecursion (λ w. past w ≡ true → get_or (helds past vs (cond b (held_after hs v) hs)) w.position 0 ≡ 0) (filter unsettled (drawn_all past vs (cond b (held_after hs v) hs)))
        → AllByRecursion (λ w. past w ≡ true → get_or (helds past vs (cond b (held_after hs v) hs)) w.position 0 ≡ 0) (cond (unsettled (cond b (drawn_on hs v) v)) (cond b (drawn_on hs v) v ∷ filter unsettled (drawn_all past vs (cond b (held_after hs v) hs))) (filter unsettled (drawn_all past vs (cond b (held_after hs v) hs))))
    go false t later =
        elim (unsettled v) as (λ b. AllByRecursion (λ w. past w ≡ true → get_or (helds past vs hs) w.position 0 ≡ 0) (cond b (v ∷ filter unsettled (drawn_all past vs hs)) (filter unsettled (drawn_all past vs hs))))
        [ true ↦ ((λ u. absurd (true-false (past v) u t)), later) | false ↦ later ]
    go true t later = here (unsettled (drawn_on hs v)) refl where
      here : (b : Bool) → unsettled (drawn_on hs v) ≡ b → AllByRecursion (λ w. past w ≡ true → get_or (helds past vs (held_after hs v)) w.position 0 ≡ 0) (cond b (drawn_on hs v ∷ filter unsettled (drawn_all past vs (held_after hs v))) (filter unsettled (drawn_all past vs (held_after hs v))))
      here false u = later
      here true u =
          let s = told-fine (told v (Draw (paid hs v))) PastDue (told-fine v (Draw (paid hs v)) (λ _. l.1)) u in
          let more : 0 < (drawn_on hs v).balance = s.more in
          let none : get_or (helds past vs (held_after hs v)) v.position 0 ≡ 0 = omega (arith, drawn-balance hs v l.1, falls past vs (held_after hs v) v.position, held-here hs v.position v.balance) in
          ((λ _. ap (λ j. get_or (helds past vs (held_after hs v)) j 0) (drawn-position hs v) ∙ none), later)

  -- an invoice that is not past due keeps its balance
  skip : (w : Invoice) (rest vs : List Invoice) → AllByRecursion (λ u. w.number < u.number) vs → AllByRecursion (λ u. past u ≡ false → balance_of rest u.number ≡ u.balance) vs → AllByRecursion (λ u. past u ≡ false → balance_of (cond (unsettled w) (w ∷ rest) rest) u.number ≡ u.balance) vs
  skip w rest [] above all = tt
  skip w rest (u ∷ vs) above all = (λ off. passed u above.0 ∙ all.0 off, skip w rest vs above.1 all.1) where
    passed : (u : Invoice) → w.number < u.number → balance_of (cond (unsettled w) (w ∷ rest) rest) u.number ≡ balance_of rest u.number
    passed u lt = elim (unsettled w) as (λ b. balance_of (cond b (w ∷ rest) rest) u.number ≡ balance_of rest u.number)
        [ true ↦ cond-false _ _ _ (ne_eqb w.number u.number (λ e. omega arith)) | false ↦ refl ]

  spared : (low high : ℕ) (vs : List Invoice) (hs : List ℕ) → Listed low high vs → AllByRecursion (λ v. past v ≡ false → balance_of (filter unsettled (drawn_all past vs hs)) v.number ≡ v.balance) vs
  spared low high [] hs l = tt
  spared low high (v ∷ vs) hs l =
      let w : Invoice = cond (past v) (drawn_on hs v) v in
      let ks : List ℕ = cond (past v) (held_after hs v) hs in
      let rest : List Invoice = filter unsettled (drawn_all past vs ks) in
      let number : w.number ≡ v.number = elim (past v) as (λ b. (cond b (drawn_on hs v) v).number ≡ v.number) [ true ↦ drawn-number hs v | false ↦ refl ] in
      let above = numbers-above (v.number + 1) w.number high vs (omega (arith, number)) l.2 in
      ((λ off. here off rest), skip w rest vs above (spared (v.number + 1) high vs ks l.2))
    where
      here : past v ≡ false → (rest : List Invoice) → balance_of (cond (unsettled (cond (past v) (drawn_on hs v) v)) (cond (past v) (drawn_on hs v) v ∷ rest) rest) v.number ≡ v.balance
      here off rest =
          ap (λ b. balance_of (cond (unsettled (cond b (drawn_on hs v) v)) (cond b (drawn_on hs v) v ∷ rest) rest) v.number) off
          ∙ ap (λ b. balance_of (cond b (v ∷ rest) rest) v.number) l.1.here
          ∙ cond-true _ _ _ (eq-eqb v.number v.number refl)

pub run-law : (at : When) (low high : ℕ) (vs : List Invoice) (hs : List ℕ) → Listed low high vs → RunLaw (is_past_due at) vs hs (filter unsettled (drawn_all (is_past_due at) vs hs)) (helds (is_past_due at) vs hs) (outcome (is_past_due at) vs hs)
unfolding Stays
run-law at low high vs hs l =
    let past = is_past_due at in
    let stays : (hs : List ℕ) (v : Invoice) → past (drawn_on hs v) ≡ past v = (λ hs v. ap (λ d. before (record { day = d; minute = due_minute }) at) (drawn-due hs v)) in
    record {
      each = λ j. each past low high vs hs j l ∙ ap (λ n. get_or hs j 0 + n) (sym (swept-owed past low high vs hs j l));
      falls = falls past vs hs;
      total = total past vs hs;
      left = sym (swept-past past stays low high vs hs l);
      empty = empty past low high vs hs l;
      spared = spared past low high vs hs l;
    }
