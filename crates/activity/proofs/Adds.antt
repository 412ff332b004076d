-- What a record adds to a row. Assumes nothing.
use Rattle.std.proofs.Common.{◌≡◌, ℕ, zero, suc, ◌-◌, ◌<◌, Bool, true, false, cond, ◌||◌, List, [], ◌∷◌, map, length, get_or, set, ℤ, pos, negsuc, ◌+ℤ◌, Ok, Err, sym, refl, ap, ◌∙◌}
use lib.Signed.{non_neg}
use Rattle.std.proofs.lemmas.List.{get_or-map}
use Rattle.foundation.specs.Questions.{asks, verdict}
use Rattle.foundation.proofs.Verdicts.{the_value}
use Rattle.records.specs.declared.determinant.Determinant.{Determinant}
use Rattle.records.specs.declared.determinant.Determinant.TheVariants.{Rtmg, Rtdcimp, Rtamlexsecm, Mebl, Rtqqes, Rtqqep, Daes, Daep, Rtobl, Rtobllo, Opt, Daobl, Opts, Obls, Optp, Oblp}
use Rattle.records.specs.declared.fault.Fault.{Fault}
use Rattle.records.specs.declared.fault.Fault.TheVariants as fault
use Rattle.activity.specs.declared.row.place.Place.{Place}
use Rattle.activity.specs.declared.row.place.Place.TheVariants.{Energy, Interval}
use Rattle.records.specs.Determinants.{facts}
use Rattle.records.specs.Ruled.{sign_allowed}
use Rattle.activity.specs.Rows.{place, Kept, kept_at, in_order}
use Rattle.activity.specs.Signs.{energy_signed}
use Rattle.activity.specs.Sums.{sum_of, added, add_answer}
use Rattle.activity.specs.Units.{within, sum_answer}
use Rattle.activity.specs.declared.units.Sum.{Sum}
use Rattle.activity.proofs.Order.{put, order-sum, order-put}

-- a sum as the row keeps it
pub kept-read : {n : ℕ} (xs : List (Sum n)) (k : ℕ) (x : Sum n) → k < length xs → (get_or xs k x).sum ≡ get_or (map (λ e. e.sum) xs) k (pos 0)
kept-read xs k x h = sym (get_or-map (λ e. e.sum) xs k x (pos 0) h)

-- two answers to the question whether a sum stays within its limit
pub refused-too : {X Y : Type 0} (w : Bool) (x : X) (y : Y) (f : Fault) → Err f ≡ cond w (Ok x) (Err fault.Sum) → Err f ≡ cond w (Ok y) (Err fault.Sum)
refused-too true x y f h = cc
refused-too false x y f h = cc

pub taken-too : {X Y : Type 0} (w : Bool) (r x : X) (y : Y) → Ok r ≡ cond w (Ok x) (Err fault.Sum) → Ok y ≡ cond w (Ok y) (Err fault.Sum)
taken-too true r x y h = refl
taken-too false r x y h = cc

raised : (z q y : ℤ) → Ok y ≡ sum_answer z q → y ≡ z +ℤ q
raised z q y h = the_value (asks (within (z +ℤ q)) fault.Sum ∷ []) (z +ℤ q) y h

module _ (s : Kept) (p : Place) (d : Determinant) (z q : ℤ) (here : p ≡ place d) (read : z ≡ kept_at s p) where
  same_sum : sum_of (in_order s) d ≡ z
  same_sum = order-sum s d ∙ ap (kept_at s) (sym here) ∙ sym read

  same-answer : cond (within (z +ℤ q)) (Ok tt) (Err fault.Sum) ≡ add_answer (in_order s) d q
  same-answer = ap (λ x. verdict (asks (within (x +ℤ q)) fault.Sum ∷ []) tt) (sym same_sum)

  pub refused : (f : Fault) → Err f ≡ sum_answer z q → Err f ≡ add_answer (in_order s) d q
  refused f h = refused-too (within (z +ℤ q)) (z +ℤ q) tt f h ∙ same-answer

  pub taken : (y : ℤ) → Ok y ≡ sum_answer z q → Ok tt ≡ add_answer (in_order s) d q
  taken y h = taken-too (within (z +ℤ q)) y (z +ℤ q) tt h ∙ same-answer

  pub kept-added : length s.energy ≡ 13 → length s.intervals ≡ 3 → (y : ℤ) → Ok y ≡ sum_answer z q → in_order (put s p y) ≡ added (in_order s) d q
  kept-added thirteen three y h =
      ap (λ x. in_order (put s x y)) here ∙ order-put s thirteen three d y ∙ ap (set (in_order s) ((facts d).number - 1)) (raised z q y h ∙ ap (λ x. x +ℤ q) (sym same_sum))

-- ---- signs
plus-non_neg : (a b : ℤ) → non_neg a ≡ true → non_neg b ≡ true → non_neg (a +ℤ b) ≡ true
plus-non_neg (pos a) (pos b) p q = refl
plus-non_neg (pos a) (negsuc b) p q = cc
plus-non_neg (negsuc a) b p q = cc

plainly : (b : Bool) → (b || (false || false)) ≡ true → b ≡ true
plainly true e = refl
plainly false e = e

abbrev pub signed_at : Place → Bool
signed_at (Energy k) = energy_signed k
signed_at (Interval k) = false

-- a quantity that the sign question lets through is not below 0 where the sum must not be
sign-ok : (d : Determinant) (q : ℤ) → sign_allowed (facts d).number q ≡ true → signed_at (place d) ≡ false → non_neg q ≡ true
sign-ok Rtmg q h e = plainly _ h
sign-ok Rtdcimp q h e = plainly _ h
sign-ok Rtamlexsecm q h e = cc
sign-ok Mebl q h e = cc
sign-ok Rtqqes q h e = plainly _ h
sign-ok Rtqqep q h e = plainly _ h
sign-ok Daes q h e = plainly _ h
sign-ok Daep q h e = plainly _ h
sign-ok Rtobl q h e = plainly _ h
sign-ok Rtobllo q h e = plainly _ h
sign-ok Opt q h e = plainly _ h
sign-ok Daobl q h e = plainly _ h
sign-ok Opts q h e = plainly _ h
sign-ok Obls q h e = plainly _ h
sign-ok Optp q h e = plainly _ h
sign-ok Oblp q h e = plainly _ h

pub sign_kept : (p : Place) (d : Determinant) (z q y : ℤ) → p ≡ place d → sign_allowed (facts d).number q ≡ true → Ok y ≡ sum_answer z q → (signed_at p ≡ false → non_neg z ≡ true) → signed_at p ≡ false → non_neg y ≡ true
sign_kept p d z q y here allowed h was off =
    ap non_neg (raised z q y h) ∙ plus-non_neg z q (was off) (sign-ok d q allowed (ap signed_at (sym here) ∙ off))

-- what holds of the number at each place holds after a write
pub set-each : {X : Type 0} (f : X → ℤ) (P : ℕ → ℤ → Type 0) (xs : List X) (j : ℕ) (y : X)
    → ((k : ℕ) → P k (get_or (map f xs) k (pos 0))) → P j (f y) → (k : ℕ) → P k (get_or (map f (set xs j y)) k (pos 0))
set-each f P [] j y all here k = all k
set-each f P (x ∷ xs) zero y all here zero = here
set-each f P (x ∷ xs) zero y all here (suc k) = all (suc k)
set-each f P (x ∷ xs) (suc j) y all here zero = all zero
set-each f P (x ∷ xs) (suc j) y all here (suc k) = set-each f (λ n. P (suc n)) xs j y (λ n. all (suc n)) here k
