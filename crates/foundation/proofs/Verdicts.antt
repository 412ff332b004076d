-- Questions in two lists, one after the other.
use Rattle.std.proofs.Common.{◌≡◌, ℕ, Bool, true, false, cond, List, [], ◌∷◌, ◌++◌, Ok, Err, sym, refl, ◌∙◌, arith}
use Rattle.std.proofs.lemmas.Bool.{cond-true}
use Rattle.std.specs.List.{AllByRecursion}
use Rattle.foundation.specs.Questions.{Question, verdict}

-- a refusal of the first questions is the refusal of all
pub verdict-stops : {F X Y : Type 0} (ps qs : List (Question F)) (u : X) (v : Y) (e : F) → verdict ps u ≡ Err e → verdict (ps ++ qs) v ≡ Err e
verdict-stops [] qs u v e h = let z : ◌≡◌ {A = ℕ} 0 1 = cc in absurd (omega arith)
verdict-stops (p ∷ ps) qs u v e h = go p.holds (λ k. verdict-stops ps qs u v e k) h where
  go : (b : Bool) → (verdict ps u ≡ Err e → verdict (ps ++ qs) v ≡ Err e) → cond b (verdict ps u) (Err p.refusal) ≡ Err e → cond b (verdict (ps ++ qs) v) (Err p.refusal) ≡ Err e
  go true rest k = rest k
  go false rest k = cc

-- where the first hold, the others decide
pub verdict-goes : {F X Y : Type 0} (ps qs : List (Question F)) (u x : X) (v : Y) → verdict ps u ≡ Ok x → verdict (ps ++ qs) v ≡ verdict qs v
verdict-goes [] qs u x v h = refl
verdict-goes (p ∷ ps) qs u x v h = go p.holds (λ k. verdict-goes ps qs u x v k) h where
  go : (b : Bool) → (verdict ps u ≡ Ok x → verdict (ps ++ qs) v ≡ verdict qs v) → cond b (verdict ps u) (Err p.refusal) ≡ Ok x → cond b (verdict (ps ++ qs) v) (Err p.refusal) ≡ verdict qs v
  go true rest k = rest k
  go false rest k = let z : ◌≡◌ {A = ℕ} 0 1 = cc in absurd (omega arith)

-- an accepted call's questions all hold
pub all_hold : {F X : Type 0} (qs : List (Question F)) (u x : X) → verdict qs u ≡ Ok x → AllByRecursion (λ q. q.holds ≡ true) qs
all_hold [] u x h = tt
all_hold (q ∷ qs) u x h = go q.holds refl (λ k. all_hold qs u x k) h where
  go : (b : Bool) → q.holds ≡ b → (verdict qs u ≡ Ok x → AllByRecursion (λ p. p.holds ≡ true) qs) → cond b (verdict qs u) (Err q.refusal) ≡ Ok x → AllByRecursion (λ p. p.holds ≡ true) (q ∷ qs)
  go true e rest k = (e, rest k)
  go false e rest k = let z : ◌≡◌ {A = ℕ} 0 1 = cc in absurd (omega arith)

-- where all hold, the answer is the value
pub all-ok : {F X : Type 0} (qs : List (Question F)) (v : X) → AllByRecursion (λ q. q.holds ≡ true) qs → verdict qs v ≡ Ok v
all-ok [] v h = refl
all-ok (q ∷ qs) v h = cond-true q.holds (verdict qs v) (Err q.refusal) h.0 ∙ all-ok qs v h.1

-- and an answer is that value
pub the_value : {F X : Type 0} (qs : List (Question F)) (u x : X) → Ok x ≡ verdict qs u → x ≡ u
the_value qs u x h = let e = h ∙ all-ok qs u (all_hold qs u x (sym h)) in cc
