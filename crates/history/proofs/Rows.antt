-- What holds of a row of instruments holds of their meanings. Assumes nothing.
use Rattle.std.proofs.Common.{◌≡◌, ℕ, zero, suc, ◌≤◌, List, [], ◌∷◌, map, length, get_or, refl, ap, arith}
use Rattle.security.specs.declared.means.Means.{Means}
use Rattle.ledger.specs.Secure.{security_of, row_of, no_security}
use Rattle.history.specs.Steps.{helds_of}

module _ {I : Type 0} (held : I → ℕ) (room : I → Means → ℕ) where
  pub helds-of : (row : List I) → helds_of (row_of held room row) ≡ map held row
  helds-of [] = refl
  helds-of (x ∷ xs) = ap (λ l. held x ∷ l) (helds-of xs)

  -- places that stand
  pub same-places : (P : ℕ → Type 0) (later row : List I) → length later ≡ length row → ((j : ℕ) (d : I) → P j → get_or later j d ≡ get_or row j d)
      → (j : ℕ) → P j → get_or (row_of held room later) j no_security ≡ get_or (row_of held room row) j no_security
  same-places P [] [] long same j is = refl
  same-places P [] (y ∷ ys) long same j is = absurd (omega (arith, long))
  same-places P (x ∷ xs) [] long same j is = absurd (omega (arith, long))
  same-places P (x ∷ xs) (y ∷ ys) long same zero is = ap (security_of held room) (same zero x is)
  same-places P (x ∷ xs) (y ∷ ys) long same (suc j) is = same-places (λ k. P (suc k)) xs ys (omega (arith, long)) (λ k d p. same (suc k) d p) j is

  -- rooms that do not rise from a row to another
  pub fewer-rooms : (row later : List I) → length later ≡ length row → ((j : ℕ) (d : I) (m : Means) → room (get_or later j d) m ≤ room (get_or row j d) m)
      → (j : ℕ) (m : Means) → (get_or (row_of held room later) j no_security).room m ≤ (get_or (row_of held room row) j no_security).room m
  fewer-rooms [] [] long less j m = omega arith
  fewer-rooms [] (x ∷ xs) long less j m = absurd (omega (arith, long))
  fewer-rooms (x ∷ xs) [] long less j m = absurd (omega (arith, long))
  fewer-rooms (x ∷ xs) (y ∷ ys) long less zero m = less zero x m
  fewer-rooms (x ∷ xs) (y ∷ ys) long less (suc j) m = fewer-rooms xs ys (omega (arith, long)) (λ k d n. less (suc k) d n) j m
