-- A day that is among the first of a list. Assumes nothing.
use Rattle.std.proofs.Common.{◌≡◌, ℕ, zero, suc, ◌+◌, ◌<◌, Bool, true, false, ◌||◌, eqb, List, [], ◌∷◌, length, get_or, take, refl, add-one, arith, eq-eqb, ne_eqb}
use Rattle.calendar.specs.Calendars.{is_listed}

or_right : (a b : Bool) → b ≡ true → (a || b) ≡ true
or_right true b h = refl
or_right false b h = h

pub listed_in : (xs : List ℕ) (i n day : ℕ) → i < n → i < length xs → get_or xs i 0 ≡ day → is_listed (take n xs) day ≡ true
listed_in [] i n day lt within e = absurd (omega arith)
listed_in (x ∷ xs) i zero day lt within e = absurd (omega arith)
listed_in (x ∷ xs) zero (suc n) day lt within e = rw (eq-eqb x day e)
listed_in (x ∷ xs) (suc i) (suc n) day lt within e = or_right (eqb x day) _ (listed_in xs i n day (omega arith) (omega arith) e)

miss : (xs : List ℕ) (i day : ℕ) → i < length xs → is_listed (take i xs) day ≡ false → (get_or xs i 0 ≡ day → ⊥) → is_listed (take (suc i) xs) day ≡ false
miss [] i day within off ne = absurd (omega arith)
miss (x ∷ xs) zero day within off ne = rw (ne_eqb x day ne)
miss (x ∷ xs) (suc i) day within off ne =
    elim (eqb x day) as (λ b. (b || is_listed (take i xs) day) ≡ false → (b || is_listed (take (suc i) xs) day) ≡ false) [ true ↦ λ h. h | false ↦ λ h. miss xs i day (omega arith) h ne ] off

pub listed-miss : (xs : List ℕ) (i day : ℕ) → i < length xs → is_listed (take i xs) day ≡ false → (get_or xs i 0 ≡ day → ⊥) → is_listed (take (i + 1) xs) day ≡ false
listed-miss xs i day within off ne = rw add-one (miss xs i day within off ne)
