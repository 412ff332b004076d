-- The position of a number. Assumes nothing.
use Rattle.std.proofs.Common.{◌≡◌, ℕ, ◌<◌, Bool, true, false, cond, eqb, ltb, List, length, get_or, Some, None, Option, sym, refl, subst, arith, eqb-true}
use Rattle.std.specs.List.{position, position_or_len}
use Rattle.std.proofs.lemmas.Bool.{ltb-false}
use Rattle.std.proofs.lemmas.List.Quantifiers.{position-Some}
use Rattle.std.proofs.lemmas.List.Sums.{fails_before_first}
use Rattle.foundation.proofs.Firsts.{First, first-is, first-answer}
use Rattle.ledger.specs.Registries.{place_of}

place-first : (xs : List ℕ) (n : ℕ) (o : Option ℕ) → o ≡ place_of xs n → First (λ k. eqb (get_or xs k 0) n) (length xs) o
unfolding place_of
place-first xs n o e = subst (First (λ k. eqb (get_or xs k 0) n) (length xs)) (sym e) (first-is (λ k. eqb (get_or xs k 0) n) (length xs))

pub place-within : (xs : List ℕ) (n k : ℕ) → Some k ≡ place_of xs n → k < length xs
place-within xs n k e = (place-first xs n (Some k) e).0

pub place-number : (xs : List ℕ) (n k : ℕ) → Some k ≡ place_of xs n → get_or xs k 0 ≡ n
place-number xs n k e = eqb-true (get_or xs k 0) n (place-first xs n (Some k) e).1

-- a search through the list finds the position
module _ (xs : List ℕ) (n : ℕ) where
  abbrev is_here : ℕ → Bool
  is_here x = eqb x n

  missing : (b : Bool) → ltb (position_or_len is_here xs) (length xs) ≡ b → cond b (Some (position_or_len is_here xs)) None ≡ None → (k : ℕ) → k < length xs → is_here (get_or xs k 0) ≡ false
  missing true more e k lt = absurd (let z : ◌≡◌ {A = ℕ} 0 1 = cc in omega arith)
  missing false less e k lt = fails_before_first is_here xs k 0 (omega (arith, ltb-false _ _ less))

  found : (o : Option ℕ) → position is_here xs ≡ o → First (λ k. is_here (get_or xs k 0)) (length xs) o
  found None e = λ k lt. missing (ltb (position_or_len is_here xs) (length xs)) refl e k lt
  found (Some k) e = position-Some is_here xs k 0 e

  pub place-found : position is_here xs ≡ place_of xs n
  unfolding place_of
  place-found = first-answer (λ k. is_here (get_or xs k 0)) (length xs) (position is_here xs) (found (position is_here xs) refl)
