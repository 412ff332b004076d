-- A charge against any other whole number of cents, and then all of them. Assumes nothing.
use Rattle.std.proofs.Common.{◌≡◌, ℕ, zero, suc, ◌+◌, ◌-◌, ◌*◌, ◌<◌, ◌≤◌, Bool, true, false, List, [], ◌∷◌, length, get_or, ℤ, pos, negsuc, ◌-ℤ◌, ◌*ℤ◌, nat_abs, refl, ap, inl, inr, mul-le-mul_right, arith}
use borrow.Author.Differences.{up, down}
use Rattle.std.proofs.lemmas.Int.{ints}
use Rattle.std.proofs.lemmas.Bool.{cases_lt}
use Rattle.foundation.specs.Counting.{total, one_if}
use Rattle.split.specs.Laws.{sumℤ}

gap : (a b : ℕ) → nat_abs (pos a -ℤ pos b) ≡ (a - b) + (b - a)
gap a b = omega (arith, ints)

far : (m n b : ℕ) → nat_abs (pos m *ℤ negsuc n -ℤ pos b) ≡ m * suc n + b
far m n b = omega (arith, ints)

-- s is twice the remainder t at which the leftover ends: M - s is a common slope
module _ (m t w r : ℕ) (h : r < m) (k : t ≤ m) where
  abbrev Near : ℕ → ℤ → Type 0
  Near c d = nat_abs (pos m *ℤ pos c -ℤ pos (m * w + r)) + m * up d + (2 * t) * c + (2 * t) * down d ≤ nat_abs (pos m *ℤ d -ℤ pos (m * w + r)) + m * c + (2 * t) * up d + m * down d

  -- a cent more than the whole part
  more : t ≤ r → (d : ℤ) → Near (w + 1) d
  more l (negsuc n) = omega (arith, far m n (m * w + r), gap (m * (w + 1)) (m * w + r), mul-le-mul_right w k, mul-le-mul_right n k)
  more l (pos n) =
      elim (cases_lt n (w + 1)) [
        | inl low ↦
            let e = w - n in
            let is : w ≡ n + e = omega arith in
            omega (arith, gap (m * n) (m * w + r), gap (m * (w + 1)) (m * w + r), mul-le-mul_right e k, ap (λ z. m * z) is, ap (λ z. t * z) is)
        | inr high ↦
            let e = n - (w + 1) in
            let is : n ≡ w + 1 + e = omega arith in
            omega (arith, gap (m * n) (m * w + r), gap (m * (w + 1)) (m * w + r), ap (λ z. m * z) is, ap (λ z. t * z) is)
      ]

  less : r ≤ t → (d : ℤ) → Near w d
  less l (negsuc n) = omega (arith, far m n (m * w + r), gap (m * w) (m * w + r), mul-le-mul_right w k, mul-le-mul_right n k)
  less l (pos n) =
      elim (cases_lt w n) [
        | inl high ↦
            let e = n - suc w in
            let is : n ≡ suc w + e = omega arith in
            omega (arith, gap (m * n) (m * w + r), gap (m * w) (m * w + r), ap (λ z. m * z) is, ap (λ z. t * z) is)
        | inr low ↦
            let e = w - n in
            let is : w ≡ n + e = omega arith in
            omega (arith, gap (m * n) (m * w + r), gap (m * w) (m * w + r), mul-le-mul_right e k, ap (λ z. m * z) is, ap (λ z. t * z) is)
      ]

  pub near : (b : Bool) (c x : ℕ) → c ≡ w + one_if b → m * w + r ≡ x → (b ≡ true → t ≤ r) → (b ≡ false → r ≤ t) → (d : ℤ) → nat_abs (pos m *ℤ pos c -ℤ pos x) + m * up d + (2 * t) * c + (2 * t) * down d ≤ nat_abs (pos m *ℤ d -ℤ pos x) + m * c + (2 * t) * up d + m * down d
  near true c x e f on off d = rw (e, ← f) (more (on refl) d)
  near false c x e f on off d = let same : c ≡ w = omega arith in rw (same, ← f) (less (off refl) d)

pub all_near : (m s : ℕ) (a b c u v : ℕ → ℕ) (n : ℕ) → ((i : ℕ) → i < n → a i + m * u i + s * c i + s * v i ≤ b i + m * c i + s * u i + m * v i) → total a n + m * total u n + s * total c n + s * total v n ≤ total b n + m * total c n + s * total u n + m * total v n
all_near m s a b c u v zero h = omega arith
all_near m s a b c u v (suc n) h = omega (arith, all_near m s a b c u v n (λ i l. h i (omega arith)), h n (omega arith))

-- ---- sums of integers
total_first : (f : ℕ → ℕ) (n : ℕ) → total f (suc n) ≡ f 0 + total (λ i. f (suc i)) n
total_first f zero = omega arith
total_first f (suc n) = omega (arith, total_first f n)

pub sum-parts : (ds : List ℤ) (k : ℕ) → sumℤ ds ≡ pos k → total (λ i. up (get_or ds i (pos 0))) (length ds) ≡ k + total (λ i. down (get_or ds i (pos 0))) (length ds)
sum-parts ds k e = omega (arith, go ds, ap up e, ap down e)
  where
    go : (ds : List ℤ) → total (λ i. up (get_or ds i (pos 0))) (length ds) + down (sumℤ ds) ≡ up (sumℤ ds) + total (λ i. down (get_or ds i (pos 0))) (length ds)
    go [] = refl
    go (d ∷ ds) =
        omega (arith, ints, go ds, total_first (λ i. up (get_or (d ∷ ds) i (pos 0))) (length ds), total_first (λ i. down (get_or (d ∷ ds) i (pos 0))) (length ds))
