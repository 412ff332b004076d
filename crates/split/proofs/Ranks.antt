-- Where the places stand in a queue, k of them have fewer than k before them. Assumes nothing.
use Rattle.std.proofs.Common.{◌≡◌, ℕ, zero, suc, ◌+◌, ◌<◌, ◌≤◌, Bool, true, false, ltb, refl, ap, inl, inr, arith}
use Rattle.std.proofs.lemmas.Bool.{cases_lt, lt-ltb, le-ltb}
use Rattle.std.proofs.lemmas.Bool.Decides.{nat_tests}
use Rattle.foundation.specs.Counting.{count, one_if}
use Rattle.split.specs.Split.{comes_first}
use Rattle.foundation.proofs.Totals.{total-same, count-le, count-few, count-lt}

-- a queue: of two places one comes before the other
pub record Queue (b : ℕ → ℕ → Bool) : Type 0 where
  pub not_self : (i : ℕ) → b i i ≡ false
  pub through : (i j k : ℕ) → b i j ≡ true → b j k ≡ true → b i k ≡ true
  pub either : (i j : ℕ) → b j i ≡ false → i < j → b i j ≡ true

module _ (b : ℕ → ℕ → Bool) (q : Queue b) where
  abbrev rank : ℕ → ℕ → ℕ
  rank n i = count (λ j. b j i) n

  pub rank_lt : (n i j : ℕ) → i < n → b i j ≡ true → rank n i < rank n j
  rank_lt n i j l h = count-lt (λ k. b k i) (λ k. b k j) n i l (q.not_self i) h (λ k _ m. q.through k i j m h)

  -- the last place is among the first suc m: it takes one of them
  taken : (n m i : ℕ) → i < n → rank n n ≤ m → (t : Bool) → b n i ≡ t → one_if (ltb (rank n i + one_if t) (suc m)) ≡ one_if (ltb (rank n i) m)
  taken n m i l h true e = grind (arith, nat_tests)
  taken n m i l h false e = let k = rank_lt n i n l (q.either i n e l) in grind (arith, nat_tests)

  passed : (n m i : ℕ) → i < n → m ≤ rank n n → (t : Bool) → b n i ≡ t → one_if (ltb (rank n i + one_if t) m) ≡ one_if (ltb (rank n i) m)
  passed n m i l h true e = let k = count-le (λ j. b j n) (λ j. b j i) n (λ j _ x. q.through j n i x e) in grind (arith, nat_tests)
  passed n m i l h false e = grind (arith, nat_tests)

  own-rank : (n : ℕ) → rank (suc n) n ≡ rank n n
  own-rank n = rw (q.not_self n) (omega arith)

  last-in : (n m : ℕ) → rank n n ≤ m → count (λ i. ltb (rank n i) m) n ≡ m → count (λ i. ltb (rank (suc n) i) (suc m)) (suc n) ≡ suc m
  last-in n m h ih =
      omega (arith, total-same (λ i. one_if (ltb (rank (suc n) i) (suc m))) (λ i. one_if (ltb (rank n i) m)) n (λ i l. taken n m i l h (b n i) refl), ap one_if (lt-ltb (rank (suc n) n) (suc m) (omega (arith, own-rank n))))

  last_out : (n m : ℕ) → m ≤ rank n n → count (λ i. ltb (rank n i) m) n ≡ m → count (λ i. ltb (rank (suc n) i) m) (suc n) ≡ m
  last_out n m h ih =
      omega (arith, total-same (λ i. one_if (ltb (rank (suc n) i) m)) (λ i. one_if (ltb (rank n i) m)) n (λ i l. passed n m i l h (b n i) refl), ap one_if (le-ltb (rank (suc n) n) m (omega (arith, own-rank n))))

  pub firsts : (n m : ℕ) → m ≤ n → count (λ i. ltb (rank n i) m) n ≡ m
  firsts zero m h = omega arith
  firsts (suc n) zero h = last_out n zero (omega arith) (firsts n zero (omega arith))
  firsts (suc n) (suc m) h =
      elim (cases_lt (rank n n) (suc m)) [
        | inl k ↦ last-in n m (omega arith) (firsts n m (omega arith))
        | inr k ↦ last_out n (suc m) k (firsts n (suc m) (omega (arith, count-few (λ j. b j n) n)))
      ]

-- larger values first, and of equal ones the earlier place
pub queue : (r : ℕ → ℕ) → Queue (λ j i. comes_first (r j) j (r i) i)
queue r = record {
  not_self = λ i. grind (arith, nat_tests);
  through = λ i j k x y. grind (arith, nat_tests);
  either = λ i j x l. grind (arith, nat_tests);
}
