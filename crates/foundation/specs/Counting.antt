-- Sums, counts and firsts over the places 0, 1, 2 … Assumes nothing.
use Rattle.std.specs.Prelude.{ℕ, zero, suc, ◌+◌, Bool, true, false, cond, Some, None, Option}

-- f 0 + f 1 + … + f (n - 1)
abbrev pub total : (ℕ → ℕ) → ℕ → ℕ
total f zero = 0
total f (suc n) = total f n + f n

-- 1 where a test passes, else 0
abbrev pub one_if : Bool → ℕ
one_if true = 1
one_if false = 0

-- how many of the places 0 … n - 1 pass
abbrev pub count : (ℕ → Bool) → ℕ → ℕ
count p n = total (λ k. one_if (p k)) n

abbrev pub or_else : {X : Type 0} → Option X → Option X → Option X
or_else (Some x) other = Some x
or_else None other = other

-- the first of the places 0 … n - 1 that passes
abbrev pub first : (ℕ → Bool) → ℕ → Option ℕ
first p zero = None
first p (suc n) = or_else (first p n) (cond (p n) (Some n) None)
