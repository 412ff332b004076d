-- The first place that passes. Assumes nothing.
use Rattle.std.proofs.Common.{◌≡◌, ℕ, zero, suc, ◌+◌, ◌<◌, Bool, true, false, cond, Some, None, Option, sym, refl, ap, ◌∙◌, subst, inl, inr, add-one, arith}
use Rattle.std.proofs.lemmas.Bool.{cases_lt}
use Rattle.foundation.specs.Counting.{one_if, or_else, first}

pub true-false : (b : Bool) → b ≡ true → b ≡ false → ⊥
true-false b t f = let z : ◌≡◌ {A = ℕ} 0 1 = ap one_if (sym f ∙ t) in omega arith

module _ (p : ℕ → Bool) where
  -- what the first of n places is
  abbrev pub First : ℕ → Option ℕ → Type 0
  First n (Some k) = (k < n) × (p k ≡ true) × ((e : ℕ) → e < k → p e ≡ false)
  First n None = (e : ℕ) → e < n → p e ≡ false

  step : (n : ℕ) (o : Option ℕ) → First n o → (b : Bool) → p n ≡ b → First (suc n) (or_else o (cond b (Some n) None))
  step n (Some k) h b e = (omega (arith, h.0), h.1, h.2)
  step n None h true e = (omega arith, e, h)
  step n None h false e = λ d lt. elim (cases_lt d n) [ inl k ↦ h d k | inr k ↦ (let s : d ≡ n = omega arith in rw s e) ]

  pub first-is : (n : ℕ) → First n (first p n)
  first-is zero = λ e lt. absurd (omega arith)
  first-is (suc n) = step n (first p n) (first-is n) (p n) refl

  only : (n : ℕ) (o : Option ℕ) → First n o → (k : ℕ) → First n (Some k) → o ≡ Some k
  only n None h k f = absurd (true-false (p k) f.1 (h k f.0))
  only n (Some j) h k f =
      elim (cases_lt j k) [
        | inl lt ↦ absurd (true-false (p j) h.1 (f.2 j lt))
        | inr le ↦ elim (cases_lt k j) [
          | inl lt ↦ absurd (true-false (p k) f.1 (h.2 k lt))
          | inr ge ↦ (let s : j ≡ k = omega arith in ap Some s)
        ]
      ]

  pub first_found : (n k : ℕ) → First n (Some k) → first p n ≡ Some k
  first_found n k f = only n (first p n) (first-is n) k f

  pub first-none : (n : ℕ) → First n None → first p n ≡ None
  first-none n h = go (first p n) (first-is n)
    where
      go : (o : Option ℕ) → First n o → o ≡ None
      go None f = refl
      go (Some k) f = absurd (true-false (p k) f.1 (h k f.0))

  -- an answer that is the first is the one that the rule computes
  pub first-answer : (n : ℕ) (o : Option ℕ) → First n o → o ≡ first p n
  first-answer n None h = sym (first-none n h)
  first-answer n (Some k) h = sym (first_found n k h)

  -- one turn of a loop
  pub first_on : (k : ℕ) → first p k ≡ None → p k ≡ false → first p (k + 1) ≡ None
  first_on k none off = rw add-one (ap (λ o. or_else o (cond (p k) (Some k) None)) none ∙ ap (λ b. cond b (Some k) None) off)

  pub first-hit : (k n : ℕ) → k < n → first p k ≡ None → p k ≡ true → first p n ≡ Some k
  first-hit k n lt none on = first_found n k (lt, on, subst (First k) none (first-is k))
