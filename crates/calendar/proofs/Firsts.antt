-- The first day that passes, and how many do. Assumes nothing.
use Rattle.std.proofs.Common.{◌≡◌, ℕ, zero, suc, ◌+◌, ◌-◌, ◌<◌, ◌≤◌, Bool, true, false, Some, None, Option, refl, ap, inl, inr, arith}
use Rattle.std.proofs.lemmas.Bool.{cases_lt}
use Rattle.std.specs.Option.{option_map}
use Rattle.foundation.specs.Counting.{one_if, count, first}
use Rattle.foundation.proofs.Firsts as days
use Rattle.foundation.proofs.Firsts.{First, true-false, first_on, first-hit}
use Rattle.calendar.specs.Due.{first_after}

-- how many of the n days after a day pass
abbrev pub days_after : (ℕ → Bool) → ℕ → ℕ → ℕ
days_after p day n = count (λ k. p (day + suc k)) n

module _ (p : ℕ → Bool) (day : ℕ) where
  -- where more than k pass, some day is the one after k
  pub days-reach : (k n : ℕ) → k < days_after p day n → (j : ℕ) × (j < n) × (p (day + suc j) ≡ true) × (days_after p day (suc j) ≡ suc k)
  days-reach k zero h = absurd (omega arith)
  days-reach k (suc n) h =
      elim (cases_lt k (days_after p day n)) [
        | inl lt ↦ (let r = days-reach k n lt in (r.0, omega (arith, r.1), r.2, r.3))
        | inr ge ↦ (let on = last k n h ge (p (day + suc n)) refl in (n, omega arith, on.0, on.1))
      ]
    where
      last : (k n : ℕ) → k < days_after p day (suc n) → days_after p day n ≤ k → (b : Bool) → p (day + suc n) ≡ b → (p (day + suc n) ≡ true) × (days_after p day (suc n) ≡ suc k)
      last k n h ge true e = (e, omega (arith, ap one_if e))
      last k n h ge false e = absurd (omega (arith, ap one_if e))

  -- what the first of n days is
  abbrev pub Firsts : ℕ → Option ℕ → Type 0
  Firsts n (Some d) = (day < d) × (d ≤ day + n) × (p d ≡ true) × ((e : ℕ) → day < e → e < d → p e ≡ false)
  Firsts n None = (e : ℕ) → day < e → e ≤ day + n → p e ≡ false

  to-days : (n : ℕ) (o : Option ℕ) → First (λ k. p (day + suc k)) n o → Firsts n (option_map (λ k. day + suc k) o)
  to-days n (Some k) f = (omega arith, omega (arith, f.0), f.1, λ e lo hi. let s : e ≡ day + suc (e - day - 1) = omega arith in rw s (f.2 (e - day - 1) (omega arith)))
  to-days n None f = λ e lo hi. let s : e ≡ day + suc (e - day - 1) = omega arith in rw s (f (e - day - 1) (omega arith))

  pub first-is : (n : ℕ) → Firsts n (first_after p day n)
  first-is n = to-days n (first (λ k. p (day + suc k)) n) (days.first-is (λ k. p (day + suc k)) n)

  found : (n : ℕ) (o : Option ℕ) → Firsts n o → (d : ℕ) → day < d → d ≤ day + n → p d ≡ true → ((e : ℕ) → day < e → e < d → p e ≡ false) → o ≡ Some d
  found n None h d lo hi on before = absurd (true-false (p d) on (h d lo hi))
  found n (Some e) h d lo hi on before =
      elim (cases_lt e d) [
        | inl k ↦ absurd (true-false (p e) h.2 (before e h.0 k))
        | inr k ↦ elim (cases_lt d e) [
          | inl m ↦ absurd (true-false (p d) on (h.3 d lo m))
          | inr m ↦ (let s : e ≡ d = omega arith in ap Some s)
        ]
      ]

  pub first_found : (n d : ℕ) → day < d → d ≤ day + n → p d ≡ true → ((e : ℕ) → day < e → e < d → p e ≡ false) → first_after p day n ≡ Some d
  first_found n = found n (first_after p day n) (first-is n)

  -- one turn of a loop
  none_of : (o : Option ℕ) → option_map (λ k. day + suc k) o ≡ None → o ≡ None
  none_of None e = refl
  none_of (Some k) e = cc

  pub turn_on : (k : ℕ) → first_after p day k ≡ None → p (day + suc k) ≡ false → first_after p day (k + 1) ≡ None
  turn_on k none off = ap (option_map (λ k. day + suc k)) (first_on (λ k. p (day + suc k)) k (none_of _ none) off)

  pub turn-hit : (k n : ℕ) → k < n → first_after p day k ≡ None → p (day + suc k) ≡ true → first_after p day n ≡ Some (day + suc k)
  turn-hit k n lt none on = ap (option_map (λ k. day + suc k)) (first-hit (λ k. p (day + suc k)) k n lt (none_of _ none) on)
