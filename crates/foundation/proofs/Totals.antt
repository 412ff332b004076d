-- Sums over the places below n. Assumes nothing.
use Rattle.std.proofs.Common.{◌≡◌, ℕ, zero, suc, ◌+◌, ◌*◌, ◌<◌, ◌≤◌, Bool, true, false, List, map, length, get_or, take, sum, sym, refl, ap, ◌∙◌, inl, inr, add-one, arith}
use Rattle.std.specs.List.{range_with_len}
use Rattle.std.proofs.lemmas.List.{take_all}
use Rattle.std.proofs.lemmas.List.Sums.{sum_by_more}
use Rattle.std.proofs.lemmas.List.FromFn.{sum_by-map-range_with_len_more}
use Rattle.std.proofs.lemmas.Bool.{cases_lt}
use Rattle.foundation.specs.Counting.{total, count, one_if}

pub total-more : (f : ℕ → ℕ) (i : ℕ) → total f (i + 1) ≡ total f i + f i
total-more f i = rw add-one

pub total_mono : (f : ℕ → ℕ) (i n : ℕ) → i ≤ n → total f i ≤ total f n
total_mono f i zero h = let e : i ≡ 0 = omega arith in rw e (omega arith)
total_mono f i (suc n) h =
    elim (cases_lt i (suc n)) [ inl k ↦ omega (arith, total_mono f i n (omega arith)) | inr k ↦ let e : i ≡ suc n = omega arith in rw e (omega arith) ]

pub total-le : (f g : ℕ → ℕ) (n : ℕ) → ((i : ℕ) → i < n → f i ≤ g i) → total f n ≤ total g n
total-le f g zero h = omega arith
total-le f g (suc n) h = omega (arith, total-le f g n (λ i k. h i (omega arith)), h n (omega arith))

pub total-same : (f g : ℕ → ℕ) (n : ℕ) → ((i : ℕ) → i < n → f i ≡ g i) → total f n ≡ total g n
total-same f g zero h = refl
total-same f g (suc n) h = omega (arith, total-same f g n (λ i k. h i (omega arith)), h n (omega arith))

pub total-sum : (f g : ℕ → ℕ) (n : ℕ) → total (λ i. f i + g i) n ≡ total f n + total g n
total-sum f g zero = refl
total-sum f g (suc n) = omega (arith, total-sum f g n)

pub total-times : (k : ℕ) (f : ℕ → ℕ) (n : ℕ) → total (λ i. k * f i) n ≡ k * total f n
total-times k f zero = omega arith
total-times k f (suc n) = omega (arith, total-times k f n)

sum-front : (xs : List ℕ) (n : ℕ) → n ≤ length xs → sum (take n xs) ≡ total (λ i. get_or xs i 0) n
sum-front xs zero h = refl
sum-front xs (suc n) h =
    ap (λ k. sum (take k xs)) (sym (add-one n)) ∙ sum_by_more (λ x. x) xs n 0 (omega arith) ∙ ap (λ s. s + get_or xs n 0) (sum-front xs n (omega arith))

pub sum-total : (xs : List ℕ) → sum xs ≡ total (λ i. get_or xs i 0) (length xs)
sum-total xs = ap sum (sym (take_all (length xs) xs (omega arith))) ∙ sum-front xs (length xs) (omega arith)

pub sum-counting : (f : ℕ → ℕ) (n : ℕ) → sum (map f (range_with_len 0 n)) ≡ total f n
sum-counting f zero = refl
sum-counting f (suc n) =
    ap (λ k. sum (map f (range_with_len 0 k))) (sym (add-one n)) ∙ sum_by-map-range_with_len_more (λ x. x) f 0 n n (omega arith) ∙ ap (λ s. s + f n) (sum-counting f n)

-- ---- counts
pub count-more : (p : ℕ → Bool) (i : ℕ) → count p (i + 1) ≡ count p i + one_if (p i)
count-more p i = total-more (λ k. one_if (p k)) i

pub one_if-le : (a b : Bool) → (a ≡ true → b ≡ true) → one_if a ≤ one_if b
one_if-le true b h = rw (h refl) (omega arith)
one_if-le false b h = omega arith

pub count-le : (p q : ℕ → Bool) (n : ℕ) → ((i : ℕ) → i < n → p i ≡ true → q i ≡ true) → count p n ≤ count q n
count-le p q n h = total-le _ _ n (λ i k. one_if-le (p i) (q i) (h i k))

pub count-few : (p : ℕ → Bool) (n : ℕ) → count p n ≤ n
count-few p zero = omega arith
count-few p (suc n) = omega (arith, count-few p n, one_if-le (p n) true (λ _. refl))

-- one of the places passes q and not p
pub count-lt : (p q : ℕ → Bool) (n j : ℕ) → j < n → p j ≡ false → q j ≡ true → ((i : ℕ) → i < n → p i ≡ true → q i ≡ true) → count p n < count q n
count-lt p q zero j l off on h = absurd (omega arith)
count-lt p q (suc n) j l off on h =
    elim (cases_lt j n) [
      | inl k ↦ omega (arith, count-lt p q n j k off on (λ i m. h i (omega arith)), one_if-le (p n) (q n) (h n (omega arith)))
      | inr k ↦
          let e : n ≡ j = omega arith in
          let none : one_if (p n) ≡ 0 = rw (e, off) in
          let one : one_if (q n) ≡ 1 = rw (e, on) in
          omega (arith, count-le p q n (λ i m. h i (omega arith)))
    ]
