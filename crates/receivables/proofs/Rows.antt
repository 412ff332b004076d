-- One place of a row is written. Assumes nothing.
use Rattle.std.proofs.Common.{◌≡◌, ℕ, zero, suc, List, [], ◌∷◌, get_or, set, subst}

pub set-related : {X : Type 0} (R : X → X → Type 0) → ((x : X) → R x x) → (xs : List X) (i : ℕ) (x y : X) → x ≡ get_or xs i x → R x y → (j : ℕ) (d : X) → R (get_or xs j d) (get_or (set xs i y) j d)
set-related R same [] i x y e r j d = same d
set-related R same (z ∷ zs) zero x y e r zero d = subst (λ w. R w y) e r
set-related R same (z ∷ zs) zero x y e r (suc j) d = same (get_or zs j d)
set-related R same (z ∷ zs) (suc i) x y e r zero d = same z
set-related R same (z ∷ zs) (suc i) x y e r (suc j) d = set-related R same zs i x y e r j d
