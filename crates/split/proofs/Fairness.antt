-- The charges of the rule are a fair split. Assumes nothing.
use Rattle.std.proofs.Common.{◌≡◌, ℕ, zero, suc, ◌+◌, ◌*◌, ◌<◌, ◌≤◌, max, Bool, true, false, ltb, List, map, length, get_or, ℤ, pos, sum, refl, ap, ◌∙◌, inl, inr, arith}
use borrow.Author.Differences.{up, down}
use Rattle.std.proofs.lemmas.List.FromFn.{get_or-map-range_with_len, length-map-range_with_len}
use Rattle.std.proofs.lemmas.List.{get_or-map}
use Rattle.std.proofs.lemmas.Bool.{cases_lt, ltb-true, ltb-false}
use Rattle.std.proofs.lemmas.Bool.Decides.{nat_tests}
use Rattle.foundation.specs.Counting.{total, count, one_if}
use Rattle.split.specs.Split.{Shareable, comes_first, whole_part, remainder, leftover, ahead, charge, charges}
use Rattle.split.specs.Laws.{Division, FairSplit, distance, distances}
use Rattle.foundation.proofs.Totals.{total-same, total-sum, count-few, sum-counting}
use Rattle.split.proofs.Ranks.{rank_lt, firsts, queue}
use Rattle.split.proofs.Shares.{exact, remainder-lt, leftover-wholes, leftover-few}
use Rattle.split.proofs.Near.{near, all_near, sum-parts}

-- place i is among the leftover
abbrev extra : ℕ → List ℕ → ℕ → Bool
extra amount xs i = ltb (ahead amount xs i) (leftover amount xs)

pub charge-is : (amount : ℕ) (xs : List ℕ) (i : ℕ) → charge amount xs i ≡ whole_part amount xs i + one_if (extra amount xs i)
unfolding charge
charge-is amount xs i = refl

pub charges-at : (amount : ℕ) (xs : List ℕ) (i : ℕ) → i < length xs → get_or (charges amount xs) i 0 ≡ charge amount xs i
unfolding charges
charges-at amount xs i h = get_or-map-range_with_len (charge amount xs) 0 (length xs) i i 0 h (omega arith)

pub charges-long : (amount : ℕ) (xs : List ℕ) → length (charges amount xs) ≡ length xs
unfolding charges
charges-long amount xs = length-map-range_with_len (charge amount xs) 0 (length xs)

ahead-lt : (amount : ℕ) (xs : List ℕ) (i j : ℕ) → i < length xs → comes_first (remainder amount xs i) i (remainder amount xs j) j ≡ true → ahead amount xs i < ahead amount xs j
unfolding ahead
ahead-lt amount xs i j l h = rank_lt (λ k l. comes_first (remainder amount xs k) k (remainder amount xs l) l) (queue (remainder amount xs)) (length xs) i j l h

extras : (amount : ℕ) (xs : List ℕ) → leftover amount xs ≤ length xs → count (extra amount xs) (length xs) ≡ leftover amount xs
unfolding ahead
extras amount xs h = firsts (λ k l. comes_first (remainder amount xs k) k (remainder amount xs l) l) (queue (remainder amount xs)) (length xs) (leftover amount xs) h

total-charge : (amount : ℕ) (xs : List ℕ) → 0 < sum xs → total (charge amount xs) (length xs) ≡ amount
total-charge amount xs some =
    total-same _ _ (length xs) (λ i _. charge-is amount xs i)
    ∙ total-sum (whole_part amount xs) (λ i. one_if (extra amount xs i)) (length xs)
    ∙ omega (arith, extras amount xs (omega (arith, leftover-few amount xs some, count-few (λ i. ltb 0 (remainder amount xs i)) (length xs))), leftover-wholes amount xs some)

adds_up : (amount : ℕ) (xs : List ℕ) → 0 < sum xs → sum (charges amount xs) ≡ amount
unfolding charges
adds_up amount xs some = sum-counting (charge amount xs) (length xs) ∙ total-charge amount xs some

-- ---- the remainder at which the leftover ends: the largest of those that get no cent
module _ (p : ℕ → Bool) (r : ℕ → ℕ) where
  worth : Bool → ℕ → ℕ
  worth true x = 0
  worth false x = x

  largest : ℕ → ℕ
  largest zero = 0
  largest (suc n) = max (largest n) (worth (p n) (r n))

  largest-le : (n x : ℕ) → ((i : ℕ) → i < n → p i ≡ false → r i ≤ x) → largest n ≤ x
  unfolding largest worth
  largest-le zero x h = omega arith
  largest-le (suc n) x h = omega (arith, largest-le n x (λ i l. h i (omega arith)), one (p n) refl)
    where
      one : (b : Bool) → p n ≡ b → worth b (r n) ≤ x
      one true e = omega arith
      one false e = h n (omega arith) e

  le-largest : (n i : ℕ) → i < n → p i ≡ false → r i ≤ largest n
  unfolding largest worth
  le-largest zero i l e = absurd (omega arith)
  le-largest (suc n) i l e =
      elim (cases_lt i n) [ inl k ↦ omega (arith, le-largest n i k e) | inr k ↦ let s : n ≡ i = omega arith in let z : worth (p n) (r n) ≡ r i = rw (s, e) in omega arith ]

module _ (amount : ℕ) (xs : List ℕ) (some : 0 < sum xs) where
  bound : ℕ
  bound = largest (extra amount xs) (remainder amount xs) (length xs)

  bound-fits : bound ≤ sum xs
  unfolding bound
  bound-fits = largest-le _ _ (length xs) (sum xs) (λ i _ _. omega (arith, remainder-lt amount xs some i))

  -- who gets a cent has a remainder no smaller than who gets none
  ordered : (i j : ℕ) → j < length xs → extra amount xs i ≡ true → extra amount xs j ≡ false → remainder amount xs j ≤ remainder amount xs i
  ordered i j l on off =
      elim (cases_lt (remainder amount xs i) (remainder amount xs j)) [
        | inl k ↦ absurd (omega (arith, ahead-lt amount xs j i l (grind (arith, nat_tests)), ltb-true _ _ on, ltb-false _ _ off))
        | inr k ↦ k
      ]

  over : (i : ℕ) → extra amount xs i ≡ true → bound ≤ remainder amount xs i
  unfolding bound
  over i on = largest-le _ _ (length xs) (remainder amount xs i) (λ j l off. ordered i j l on off)

  under : (i : ℕ) → i < length xs → extra amount xs i ≡ false → remainder amount xs i ≤ bound
  unfolding bound
  under i l off = le-largest _ _ (length xs) i l off

  charge-near : (i : ℕ) → i < length xs → (d : ℤ) → distance amount xs i (pos (charge amount xs i)) + sum xs * up d + (2 * bound) * charge amount xs i + (2 * bound) * down d ≤ distance amount xs i d + sum xs * charge amount xs i + (2 * bound) * up d + sum xs * down d
  unfolding distance
  charge-near i l d =
      near (sum xs) bound (whole_part amount xs i) (remainder amount xs i) (remainder-lt amount xs some i) bound-fits (extra amount xs i) (charge amount xs i) (amount * get_or xs i 0) (charge-is amount xs i) (exact amount xs i) (over i) (under i l) d

  -- as a list of integers, the charges are the charges
  charge-at : (i : ℕ) → i < length xs → get_or (map pos (charges amount xs)) i (pos 0) ≡ pos (charge amount xs i)
  charge-at i l = get_or-map pos (charges amount xs) i 0 (pos 0) (omega (arith, charges-long amount xs)) ∙ ap pos (charges-at amount xs i l)

  closest-by : (ds : List ℤ) → Division amount xs ds → distances amount xs (map pos (charges amount xs)) ≤ distances amount xs ds
  unfolding distances
  closest-by ds div =
      let n = length xs in
      let u : ℕ → ℕ = λ i. up (get_or ds i (pos 0)) in
      let v : ℕ → ℕ = λ i. down (get_or ds i (pos 0)) in
      let c : ℕ → ℕ = charge amount xs in
      let own : ℕ → ℕ = λ i. distance amount xs i (pos (c i)) in
      let same : total (λ i. distance amount xs i (get_or (map pos (charges amount xs)) i (pos 0))) n ≡ total own n = total-same _ _ n (λ i l. ap (distance amount xs i) (charge-at i l)) in
      let all = all_near (sum xs) (2 * bound) own (λ i. distance amount xs i (get_or ds i (pos 0))) c u v n (λ i l. charge-near i l (get_or ds i (pos 0))) in
      let adds : total u n ≡ amount + total v n = rw div.each at (sum-parts ds amount div.adds) in
      let whole : total c n ≡ amount = total-charge amount xs some in
      omega (arith, same, all, ap (λ z. sum xs * z) adds, ap (λ z. (2 * bound) * z) adds, ap (λ z. sum xs * z) whole, ap (λ z. (2 * bound) * z) whole)

pub fair : (amount : ℕ) (xs : List ℕ) → Shareable amount xs → FairSplit amount xs (charges amount xs)
fair amount xs ok = record {
  each = charges-long amount xs;
  adds_up = adds_up amount xs ok.sum_some;
  closest = closest-by amount xs ok.sum_some;
}
