-- The invoices keep their order and stand, whatever events they are told, once the settled ones are out. Assumes nothing.
use Rattle.std.proofs.Common.{◌≡◌, ℕ, suc, ◌+◌, ◌<◌, ◌≤◌, Bool, true, false, cond, not, eqb, ltb, List, [], ◌∷◌, ◌++◌, map, length, filter, refl, ap, ◌∙◌, arith}
use Rattle.std.proofs.lemmas.List.Filters.{length-filter_both}
use Rattle.std.specs.List.{AllByRecursion}
use Rattle.std.proofs.lemmas.Bool.{and_parts, and_from, leb-true, le-leb, ltb-true, lt-ltb}
use Rattle.receivables.specs.declared.invoice.State.{State}
use Rattle.receivables.specs.declared.invoice.State.TheVariants.{Open, Short, Settled}
use Rattle.receivables.specs.declared.invoice.Event.{Event}
use Rattle.receivables.specs.declared.invoice.Event.TheVariants.{Payment, Draw, PastDue}
use Rattle.receivables.specs.declared.invoice.Invoice.{Invoice}
use Rattle.receivables.specs.Invoices.{told, told_in, with_state, lowered, is_settled, unsettled}
use Rattle.receivables.specs.Listed.{standing, listed}
use Rattle.receivables.specs.Payments.{paid_on}
use Rattle.receivables.specs.Run.{drawn_on, drawn_all, held_after, paid}

pub record Standing (v : Invoice) : Type 0 where
  pub more : 0 < v.balance
  pub small : v.balance ≤ 4294967295
  pub here : unsettled v ≡ true

abbrev pub Listed : ℕ → ℕ → List Invoice → Type 0
Listed low high [] = low ≤ high
Listed low high (v ∷ vs) = (low ≤ v.number) × Standing v × Listed (v.number + 1) high vs

stands : (v : Invoice) → standing v ≡ true → Standing v
stands v t =
    let p = and_parts _ _ t in
    let q = and_parts _ _ p.1 in
    record { more = ltb-true 0 v.balance p.0; small = leb-true v.balance 4294967295 q.0; here = q.1 }

stood : (v : Invoice) → Standing v → standing v ≡ true
stood v s = and_from _ _ (lt-ltb 0 v.balance s.more) (and_from _ _ (le-leb v.balance 4294967295 s.small) s.here)

pub lists : (low high : ℕ) (vs : List Invoice) → listed low high vs ≡ true → Listed low high vs
lists low high [] t = leb-true low high t
lists low high (v ∷ vs) t =
    let p = and_parts _ _ t in
    let q = and_parts _ _ p.1 in
    (leb-true low v.number p.0, stands v q.0, lists (v.number + 1) high vs q.1)

pub unlists : (low high : ℕ) (vs : List Invoice) → Listed low high vs → listed low high vs ≡ true
unlists low high [] l = le-leb low high l
unlists low high (v ∷ vs) l = and_from _ _ (le-leb low v.number l.0) (and_from _ _ (stood v l.1) (unlists (v.number + 1) high vs l.2))

pub all_small : (low high : ℕ) (vs : List Invoice) → Listed low high vs → AllByRecursion (λ v. v.balance ≤ 4294967295) vs
all_small low high [] l = tt
all_small low high (v ∷ vs) l = (l.1.small, all_small (v.number + 1) high vs l.2)

pub lower-start : (low low' high : ℕ) (vs : List Invoice) → low' ≤ low → Listed low high vs → Listed low' high vs
lower-start low low' high [] e l = omega arith
lower-start low low' high (v ∷ vs) e l = (omega (arith, l.0), l.1, l.2)

-- one more at the end
pub listed-push : (low high : ℕ) (vs : List Invoice) (w : Invoice) → w.number ≡ high → Standing w → Listed low high vs → Listed low (high + 1) (vs ++ w ∷ [])
listed-push low high [] w n s l = (omega arith, s, omega arith)
listed-push low high (v ∷ vs) w n s l = (l.0, l.1, listed-push (v.number + 1) high vs w n s l.2)

-- it stands, unless it is settled
abbrev pub Fine : Invoice → Type 0
Fine v = unsettled v ≡ true → Standing v

lowered-fine : (v : Invoice) (n : ℕ) → Fine v → Fine (lowered v n)
lowered-fine v n f = go (ltb n v.balance) refl where
  go : (b : Bool) → ltb n v.balance ≡ b → Fine (lowered v n)
  go true t u =
      let h : n < v.balance = ltb-true n v.balance t in
      let same : unsettled v ≡ true = rw t at u in
      let s = f same in
      record { more = omega (arith, s.more); small = omega (arith, s.small); here = u }
  go false t u = let z : not (is_settled (cond false v.state Settled)) ≡ true = rw t at u in let y : false ≡ true = z in let k : ◌≡◌ {A = ℕ} 0 1 = cc in absurd (omega arith)

told-in-fine : (t : State) (v : Invoice) (e : Event) → v.state ≡ t → Fine v → Fine (told_in t v e)
told-in-fine Open v (Payment n) q f = lowered-fine v n f
told-in-fine Open v (Draw n) q f = lowered-fine v n f
told-in-fine Open v PastDue q f = λ u. let s = f (rw q refl) in record { more = s.more; small = s.small; here = refl }
told-in-fine Short v (Payment n) q f = lowered-fine v n f
told-in-fine Short v (Draw n) q f = lowered-fine v n f
told-in-fine Short v PastDue q f = λ u. let s = f (rw q refl) in record { more = s.more; small = s.small; here = refl }
told-in-fine Settled v e q f = f

pub told-fine : (v : Invoice) (e : Event) → Fine v → Fine (told v e)
told-fine v e f = told-in-fine v.state v e refl f

-- an event changes the balance and the state alone
pub told-in-rest : (t : State) (v : Invoice) (e : Event) → told_in t v e ≡ with_state v (told_in t v e).balance (told_in t v e).state
told-in-rest Open v (Payment n) = refl
told-in-rest Open v (Draw n) = refl
told-in-rest Open v PastDue = refl
told-in-rest Short v (Payment n) = refl
told-in-rest Short v (Draw n) = refl
told-in-rest Short v PastDue = refl
told-in-rest Settled v e = refl

pub told-number : (v : Invoice) (e : Event) → (told v e).number ≡ v.number
told-number v e = ap (λ w. w.number) (told-in-rest v.state v e)

-- each invoice of ws is the one of vs at its place, under the same number, and is fine
abbrev pub Kept : List Invoice → List Invoice → Type 0
Kept [] [] = Unit {0}
Kept [] (w ∷ ws) = ⊥
Kept (v ∷ vs) [] = ⊥
Kept (v ∷ vs) (w ∷ ws) = (w.number ≡ v.number) × Fine w × Kept vs ws

pub kept-listed : (low high : ℕ) (vs ws : List Invoice) → Kept vs ws → Listed low high vs → Listed low high (filter unsettled ws)
kept-listed low high [] [] k l = l
kept-listed low high [] (w ∷ ws) k l = elim k [ ]
kept-listed low high (v ∷ vs) [] k l = elim k [ ]
kept-listed low high (v ∷ vs) (w ∷ ws) k l =
    let later : Listed (w.number + 1) high (filter unsettled ws) = rw k.0 (kept-listed (v.number + 1) high vs ws k.2 l.2) in
    let le : low ≤ w.number = omega (arith, k.0, l.0) in
    let le' : low ≤ w.number + 1 = omega arith in
    go (unsettled w) refl later le le' where
      go : (b : Bool) → unsettled w ≡ b → Listed (w.number + 1) high (filter unsettled ws) → low ≤ w.number → low ≤ w.number + 1 → Listed low high (cond b (w ∷ filter unsettled ws) (filter unsettled ws))
      go true t later le le' = (le, k.1 t, later)
      go false t later le le' = lower-start (w.number + 1) low high (filter unsettled ws) le' later

pub run-kept : (past : Invoice → Bool) (low high : ℕ) (vs : List Invoice) (hs : List ℕ) → Listed low high vs → Kept vs (drawn_all past vs hs)
run-kept past low high [] hs l = tt
run-kept past low high (v ∷ vs) hs l =
    let w : Invoice = told v (Draw (paid hs v)) in
    let number : (b : Bool) → (cond b (drawn_on hs v) v).number ≡ v.number = (λ b. elim b as (λ b. (cond b (drawn_on hs v) v).number ≡ v.number) [ true ↦ told-number w PastDue ∙ told-number v (Draw (paid hs v)) | false ↦ refl ]) in
    let fine : (b : Bool) → Fine (cond b (drawn_on hs v) v) = (λ b. elim b as (λ b. Fine (cond b (drawn_on hs v) v)) [ true ↦ told-fine w PastDue (told-fine v (Draw (paid hs v)) (λ _. l.1)) | false ↦ λ _. l.1 ]) in
    (number (past v), fine (past v), run-kept past (v.number + 1) high vs (cond (past v) (held_after hs v) hs) l.2)

pub length-after : (past : Invoice → Bool) (vs : List Invoice) (hs : List ℕ) → length (drawn_all past vs hs) ≡ length vs
length-after past [] hs = refl
length-after past (v ∷ vs) hs = ap suc (length-after past vs (cond (past v) (held_after hs v) hs))

pub length-kept : (p : Invoice → Bool) (vs : List Invoice) → length (filter p vs) ≤ length vs
length-kept p vs = omega (arith, length-filter_both p (λ v. not (p v)) (λ _. refl) vs)

self-kept : (low high : ℕ) (vs : List Invoice) → Listed low high vs → Kept vs vs
self-kept low high [] l = tt
self-kept low high (v ∷ vs) l = (refl, (λ _. l.1), self-kept (v.number + 1) high vs l.2)

-- the one with a number is told of a payment
pub pay-kept : (low high n amount : ℕ) (vs : List Invoice) → Listed low high vs → Kept vs (map (paid_on n amount) vs)
pay-kept low high n amount [] l = tt
pay-kept low high n amount (v ∷ vs) l =
    let number : (b : Bool) → (cond b (told v (Payment amount)) v).number ≡ v.number = (λ b. elim b as (λ b. (cond b (told v (Payment amount)) v).number ≡ v.number) [ true ↦ told-number v (Payment amount) | false ↦ refl ]) in
    let fine : (b : Bool) → Fine (cond b (told v (Payment amount)) v) = (λ b. elim b as (λ b. Fine (cond b (told v (Payment amount)) v)) [ true ↦ told-fine v (Payment amount) (λ _. l.1) | false ↦ λ _. l.1 ]) in
    (number (eqb v.number n), fine (eqb v.number n), pay-kept (v.number + 1) high n amount vs l.2)

-- rising numbers below a limit are few, and none is below the first
pub listed-long : (low high : ℕ) (vs : List Invoice) → Listed low high vs → low + length vs ≤ high
listed-long low high [] l = omega (arith, l)
listed-long low high (v ∷ vs) l = omega (arith, l.0, listed-long (v.number + 1) high vs l.2)

pub numbers-above : (low n high : ℕ) (vs : List Invoice) → n < low → Listed low high vs → AllByRecursion (λ u. n < u.number) vs
numbers-above low n high [] lt l = tt
numbers-above low n high (v ∷ vs) lt l = (omega (arith, l.0), numbers-above (v.number + 1) n high vs (omega (arith, l.0)) l.2)
