-- How far a past-due run has come, in a loop: what is left of the list, from the amounts now held, gives what the whole gives. Assumes nothing.
use Rattle.std.proofs.Common.{◌≡◌, ℕ, ◌+◌, ◌<◌, ◌≤◌, Bool, true, false, cond, List, [], ◌∷◌, ◌++◌, length, get_or, take, drop, set, sym, ap, ◌∙◌, subst, append_assoc, add-zero, add_assoc, arith}
use Rattle.std.proofs.lemmas.List.{take_more_set, drop_more, drop-set-lt, length-set, set-get_or, get_or_default}
use Rattle.std.proofs.lemmas.List.Sums.{sum_by-cons}
use Rattle.std.proofs.ByRecursion.{All-drop}
use Rattle.receivables.specs.declared.invoice.State.{State}
use Rattle.receivables.specs.declared.invoice.State.TheVariants.{Open, Short, Settled}
use Rattle.receivables.specs.declared.invoice.Invoice.{Invoice}
use Rattle.receivables.specs.declared.invoice.Event.{Event}
use Rattle.receivables.specs.declared.invoice.Event.TheVariants.{Payment, Draw, PastDue}
use Rattle.receivables.specs.Invoices.{balances, told, told_in, nothing}
use Rattle.std.specs.List.{AllByRecursion}
use Rattle.receivables.specs.Run.{paid, held_after, drawn_on, helds, drawn_all, drawn, owed}

pub record Going (past : Invoice → Bool) (vs : List Invoice) (hs : List ℕ) (i : ℕ) (ws : List Invoice) (ks : List ℕ) (d o : ℕ) : Type 0 where
  pub list : take i ws ++ drawn_all past (drop i vs) ks ≡ drawn_all past vs hs
  pub rest : drop i ws ≡ drop i vs
  pub long : length ws ≡ length vs
  pub held : helds past (drop i vs) ks ≡ helds past vs hs
  pub paid_so : d + drawn past (drop i vs) ks ≡ drawn past vs hs
  pub owed_so : o + owed past (drop i vs) ks ≡ owed past vs hs

module _ {past : Invoice → Bool} {vs : List Invoice} {hs : List ℕ} where
  module _ {i : ℕ} {ws : List Invoice} {ks : List ℕ} {d o : ℕ} (s : Going past vs hs i ws ks d o) where
    -- the invoice at i is as the list had it
    pub next-is : (v : Invoice) → i < length ws → v ≡ get_or ws i v → drop i vs ≡ v ∷ drop (i + 1) vs
    next-is v l e =
        let le : i < length vs = omega (arith, s.long) in
        let a : drop i ws ≡ get_or ws i v ∷ drop (i + 1) ws = drop_more ws i v l in
        let b : drop i vs ≡ get_or vs i v ∷ drop (i + 1) vs = drop_more vs i v le in
        let r = s.rest in
        let same : get_or vs i v ≡ v = cc in
        b ∙ ap (λ x. x ∷ drop (i + 1) vs) same

    pub going_more : (v : Invoice) → i < length ws → v ≡ get_or ws i v
        → Going past vs hs (i + 1) (set ws i (cond (past v) (drawn_on ks v) v)) (cond (past v) (held_after ks v) ks) (d + cond (past v) (paid ks v) 0) (o + cond (past v) (drawn_on ks v).balance 0)
    going_more v l e =
        let n : drop i vs ≡ v ∷ drop (i + 1) vs = next-is v l e in
        let w : Invoice = cond (past v) (drawn_on ks v) v in
        let qs : List ℕ = cond (past v) (held_after ks v) ks in
        let a : drop i ws ≡ get_or ws i v ∷ drop (i + 1) ws = drop_more ws i v l in
        let r = s.rest in
        let tails : drop (i + 1) ws ≡ drop (i + 1) vs = cc in
        let lt : i < i + 1 = omega arith in
        record {
          list = ap (λ xs. xs ++ drawn_all past (drop (i + 1) vs) qs) (take_more_set ws i w l) ∙ append_assoc (take i ws) (w ∷ []) (drawn_all past (drop (i + 1) vs) qs) ∙ sym (ap (λ xs. take i ws ++ drawn_all past xs ks) n) ∙ s.list;
          rest = drop-set-lt (i + 1) ws i w lt ∙ tails;
          long = length-set ws i w ∙ s.long;
          held = sym (ap (λ xs. helds past xs ks) n) ∙ s.held;
          paid_so = add_assoc d _ _ ∙ sym (ap (λ xs. d + drawn past xs ks) n) ∙ s.paid_so;
          owed_so = add_assoc o _ _ ∙ sym (ap (λ xs. o + owed past xs ks) n) ∙ s.owed_so;
        }

    pub going-late : (v : Invoice) → i < length ws → v ≡ get_or ws i v → past v ≡ true
        → Going past vs hs (i + 1) (set ws i (drawn_on ks v)) (held_after ks v) (d + paid ks v) (o + (drawn_on ks v).balance)
    going-late v l e p =
        let P : Bool → Type 0 = λ b. Going past vs hs (i + 1) (set ws i (cond b (drawn_on ks v) v)) (cond b (held_after ks v) ks) (d + cond b (paid ks v) 0) (o + cond b (drawn_on ks v).balance 0) in
        subst P p (going_more v l e)

    pub going-early : (v : Invoice) → i < length ws → v ≡ get_or ws i v → past v ≡ false
        → Going past vs hs (i + 1) ws ks d o
    going-early v l e p =
        let P : Bool → Type 0 = λ b. Going past vs hs (i + 1) (set ws i (cond b (drawn_on ks v) v)) (cond b (held_after ks v) ks) (d + cond b (paid ks v) 0) (o + cond b (drawn_on ks v).balance 0) in
        let g : Going past vs hs (i + 1) (set ws i v) ks (d + 0) (o + 0) = subst P p (going_more v l e) in
        let same : set ws i v ≡ ws = ap (set ws i) e ∙ set-get_or ws i v in
        rw same at (rw (add-zero d) at (rw (add-zero o) at g))

module _ {past : Invoice → Bool} {vs : List Invoice} {hs : List ℕ} {i : ℕ} {ws : List Invoice} {ks : List ℕ} {d o : ℕ} (s : Going past vs hs i ws ks d o) (l : i < length ws) where
  -- the turn of a past-due invoice, by what the code holds of it
  pub late-turn : past (get_or ws i nothing) ≡ true → (w : Invoice) (qs : List ℕ) (p : ℕ) → w ≡ drawn_on ks (get_or ws i nothing) → qs ≡ held_after ks (get_or ws i nothing) → p ≡ paid ks (get_or ws i nothing)
      → Going past vs hs (i + 1) (set ws i w) qs (d + p) (o + w.balance)
  late-turn t w qs p a b c = rw (a, b, c) (going-late s (get_or ws i nothing) l (get_or_default ws i nothing _ l) t)

  -- the turn of another, which is lent and comes back as it was
  pub early-turn : past (get_or ws i nothing) ≡ false → Going past vs hs (i + 1) (set ws i (get_or ws i nothing)) ks d o
  early-turn t = rw (set-get_or ws i nothing) (going-early s (get_or ws i nothing) l (get_or_default ws i nothing _ l) t)

  pub next-all : (P : Invoice → Type 0) → AllByRecursion P vs → P (get_or ws i nothing)
  next-all P a =
      let n : drop i vs ≡ get_or ws i nothing ∷ drop (i + 1) vs = next-is s (get_or ws i nothing) l (get_or_default ws i nothing _ l) in
      (subst (AllByRecursion P) n (All-drop P i vs a)).0

-- no event raises a balance
pub told-in-less : (t : State) (v : Invoice) (e : Event) → (told_in t v e).balance ≤ v.balance
told-in-less Open v (Payment n) = omega arith
told-in-less Open v (Draw n) = omega arith
told-in-less Open v PastDue = omega arith
told-in-less Short v (Payment n) = omega arith
told-in-less Short v (Draw n) = omega arith
told-in-less Short v PastDue = omega arith
told-in-less Settled v e = omega arith

pub drawn-on-less : (hs : List ℕ) (v : Invoice) → (drawn_on hs v).balance ≤ v.balance
drawn-on-less hs v =
    let w : Invoice = told v (Draw (paid hs v)) in
    omega (arith, told-in-less v.state v (Draw (paid hs v)), told-in-less w.state w PastDue)

module _ (past : Invoice → Bool) where
  drawn-le : (vs : List Invoice) (hs : List ℕ) → drawn past vs hs ≤ balances vs
  drawn-le [] hs = omega arith
  drawn-le (v ∷ vs) hs =
      let here : cond (past v) (paid hs v) 0 ≤ v.balance = (elim (past v) as (λ b. cond b (paid hs v) 0 ≤ v.balance) [ true ↦ omega arith | false ↦ omega arith ]) in
      omega (arith, drawn-le vs (cond (past v) (held_after hs v) hs), sum_by-cons (λ u. u.balance) v vs)

  owed-le : (vs : List Invoice) (hs : List ℕ) → owed past vs hs ≤ balances vs
  owed-le [] hs = omega arith
  owed-le (v ∷ vs) hs =
      let here : cond (past v) (drawn_on hs v).balance 0 ≤ v.balance = (elim (past v) as (λ b. cond b (drawn_on hs v).balance 0 ≤ v.balance) [ true ↦ drawn-on-less hs v | false ↦ omega arith ]) in
      omega (arith, owed-le vs (cond (past v) (held_after hs v) hs), sum_by-cons (λ u. u.balance) v vs)

-- neither what was drawn so far nor what is owed so far is above all balances
module _ {past : Invoice → Bool} {vs : List Invoice} {hs : List ℕ} {i : ℕ} {ws : List Invoice} {ks : List ℕ} {d o : ℕ} (s : Going past vs hs i ws ks d o) where
  pub drawn-within : d ≤ balances vs
  drawn-within = omega (arith, drawn-le past vs hs, s.paid_so)

  pub owed-within : o ≤ balances vs
  owed-within = omega (arith, owed-le past vs hs, s.owed_so)
