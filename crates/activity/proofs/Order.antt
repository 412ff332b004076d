-- The sixteen sums of a row, by determinant. Assumes nothing.
use Rattle.std.proofs.Common.{◌≡◌, ◌-◌, List, [], ◌∷◌, length, set, ℤ, sym, refl, subst, arith}
use Rattle.records.specs.declared.determinant.Determinant.{Determinant}
use Rattle.records.specs.declared.determinant.Determinant.TheVariants.{Rtmg, Rtdcimp, Rtamlexsecm, Mebl, Rtqqes, Rtqqep, Daes, Daep, Rtobl, Rtobllo, Opt, Daobl, Opts, Obls, Optp, Oblp}
use Rattle.activity.specs.declared.row.place.Place.{Place}
use Rattle.activity.specs.declared.row.place.Place.TheVariants.{Energy, Interval}
use Rattle.records.specs.Determinants.{facts}
use Rattle.activity.specs.Rows.{place, Kept, kept_at, in_order}
use Rattle.activity.specs.Sums.{sum_of}

-- a list of thirteen elements, element by element
pub record Thirteen {X : Type 0} (xs : List X) : Type 0 where
  pub x0 : X
  pub x1 : X
  pub x2 : X
  pub x3 : X
  pub x4 : X
  pub x5 : X
  pub x6 : X
  pub x7 : X
  pub x8 : X
  pub x9 : X
  pub x10 : X
  pub x11 : X
  pub x12 : X
  pub is : xs ≡ x0 ∷ x1 ∷ x2 ∷ x3 ∷ x4 ∷ x5 ∷ x6 ∷ x7 ∷ x8 ∷ x9 ∷ x10 ∷ x11 ∷ x12 ∷ []

pub thirteen : {X : Type 0} (xs : List X) → length xs ≡ 13 → Thirteen xs
thirteen [] e = absurd (omega arith)
thirteen (x0 ∷ []) e = absurd (omega arith)
thirteen (x0 ∷ x1 ∷ []) e = absurd (omega arith)
thirteen (x0 ∷ x1 ∷ x2 ∷ []) e = absurd (omega arith)
thirteen (x0 ∷ x1 ∷ x2 ∷ x3 ∷ []) e = absurd (omega arith)
thirteen (x0 ∷ x1 ∷ x2 ∷ x3 ∷ x4 ∷ []) e = absurd (omega arith)
thirteen (x0 ∷ x1 ∷ x2 ∷ x3 ∷ x4 ∷ x5 ∷ []) e = absurd (omega arith)
thirteen (x0 ∷ x1 ∷ x2 ∷ x3 ∷ x4 ∷ x5 ∷ x6 ∷ []) e = absurd (omega arith)
thirteen (x0 ∷ x1 ∷ x2 ∷ x3 ∷ x4 ∷ x5 ∷ x6 ∷ x7 ∷ []) e = absurd (omega arith)
thirteen (x0 ∷ x1 ∷ x2 ∷ x3 ∷ x4 ∷ x5 ∷ x6 ∷ x7 ∷ x8 ∷ []) e = absurd (omega arith)
thirteen (x0 ∷ x1 ∷ x2 ∷ x3 ∷ x4 ∷ x5 ∷ x6 ∷ x7 ∷ x8 ∷ x9 ∷ []) e = absurd (omega arith)
thirteen (x0 ∷ x1 ∷ x2 ∷ x3 ∷ x4 ∷ x5 ∷ x6 ∷ x7 ∷ x8 ∷ x9 ∷ x10 ∷ []) e = absurd (omega arith)
thirteen (x0 ∷ x1 ∷ x2 ∷ x3 ∷ x4 ∷ x5 ∷ x6 ∷ x7 ∷ x8 ∷ x9 ∷ x10 ∷ x11 ∷ []) e = absurd (omega arith)
thirteen (x0 ∷ x1 ∷ x2 ∷ x3 ∷ x4 ∷ x5 ∷ x6 ∷ x7 ∷ x8 ∷ x9 ∷ x10 ∷ x11 ∷ x12 ∷ []) e = record { x0 = x0; x1 = x1; x2 = x2; x3 = x3; x4 = x4; x5 = x5; x6 = x6; x7 = x7; x8 = x8; x9 = x9; x10 = x10; x11 = x11; x12 = x12; is = refl }
thirteen (x0 ∷ x1 ∷ x2 ∷ x3 ∷ x4 ∷ x5 ∷ x6 ∷ x7 ∷ x8 ∷ x9 ∷ x10 ∷ x11 ∷ x12 ∷ x13 ∷ xs) e = absurd (omega arith)

-- a list of three elements, element by element
pub record Three {X : Type 0} (xs : List X) : Type 0 where
  pub x0 : X
  pub x1 : X
  pub x2 : X
  pub is : xs ≡ x0 ∷ x1 ∷ x2 ∷ []

pub three : {X : Type 0} (xs : List X) → length xs ≡ 3 → Three xs
three [] e = absurd (omega arith)
three (x0 ∷ []) e = absurd (omega arith)
three (x0 ∷ x1 ∷ []) e = absurd (omega arith)
three (x0 ∷ x1 ∷ x2 ∷ []) e = record { x0 = x0; x1 = x1; x2 = x2; is = refl }
three (x0 ∷ x1 ∷ x2 ∷ x3 ∷ xs) e = absurd (omega arith)

abbrev pub put : Kept → Place → ℤ → Kept
put s (Energy k) z = record { energy = set s.energy k z; intervals = s.intervals }
put s (Interval k) z = record { energy = s.energy; intervals = set s.intervals k z }

pub order-sum : (s : Kept) (d : Determinant) → sum_of (in_order s) d ≡ kept_at s (place d)
unfolding in_order
order-sum s Rtmg = refl
order-sum s Rtdcimp = refl
order-sum s Rtamlexsecm = refl
order-sum s Mebl = refl
order-sum s Rtqqes = refl
order-sum s Rtqqep = refl
order-sum s Daes = refl
order-sum s Daep = refl
order-sum s Rtobl = refl
order-sum s Rtobllo = refl
order-sum s Opt = refl
order-sum s Daobl = refl
order-sum s Opts = refl
order-sum s Obls = refl
order-sum s Optp = refl
order-sum s Oblp = refl

abbrev listed : (e0 e1 e2 e3 e4 e5 e6 e7 e8 e9 e10 e11 e12 i0 i1 i2 : ℤ) → Kept
listed e0 e1 e2 e3 e4 e5 e6 e7 e8 e9 e10 e11 e12 i0 i1 i2 = record { energy = e0 ∷ e1 ∷ e2 ∷ e3 ∷ e4 ∷ e5 ∷ e6 ∷ e7 ∷ e8 ∷ e9 ∷ e10 ∷ e11 ∷ e12 ∷ []; intervals = i0 ∷ i1 ∷ i2 ∷ [] }

put-listed : (e0 e1 e2 e3 e4 e5 e6 e7 e8 e9 e10 e11 e12 i0 i1 i2 z : ℤ) (d : Determinant) → in_order (put (listed e0 e1 e2 e3 e4 e5 e6 e7 e8 e9 e10 e11 e12 i0 i1 i2) (place d) z) ≡ set (in_order (listed e0 e1 e2 e3 e4 e5 e6 e7 e8 e9 e10 e11 e12 i0 i1 i2)) ((facts d).number - 1) z
unfolding in_order
put-listed e0 e1 e2 e3 e4 e5 e6 e7 e8 e9 e10 e11 e12 i0 i1 i2 z Rtmg = refl
put-listed e0 e1 e2 e3 e4 e5 e6 e7 e8 e9 e10 e11 e12 i0 i1 i2 z Rtdcimp = refl
put-listed e0 e1 e2 e3 e4 e5 e6 e7 e8 e9 e10 e11 e12 i0 i1 i2 z Rtamlexsecm = refl
put-listed e0 e1 e2 e3 e4 e5 e6 e7 e8 e9 e10 e11 e12 i0 i1 i2 z Mebl = refl
put-listed e0 e1 e2 e3 e4 e5 e6 e7 e8 e9 e10 e11 e12 i0 i1 i2 z Rtqqes = refl
put-listed e0 e1 e2 e3 e4 e5 e6 e7 e8 e9 e10 e11 e12 i0 i1 i2 z Rtqqep = refl
put-listed e0 e1 e2 e3 e4 e5 e6 e7 e8 e9 e10 e11 e12 i0 i1 i2 z Daes = refl
put-listed e0 e1 e2 e3 e4 e5 e6 e7 e8 e9 e10 e11 e12 i0 i1 i2 z Daep = refl
put-listed e0 e1 e2 e3 e4 e5 e6 e7 e8 e9 e10 e11 e12 i0 i1 i2 z Rtobl = refl
put-listed e0 e1 e2 e3 e4 e5 e6 e7 e8 e9 e10 e11 e12 i0 i1 i2 z Rtobllo = refl
put-listed e0 e1 e2 e3 e4 e5 e6 e7 e8 e9 e10 e11 e12 i0 i1 i2 z Opt = refl
put-listed e0 e1 e2 e3 e4 e5 e6 e7 e8 e9 e10 e11 e12 i0 i1 i2 z Daobl = refl
put-listed e0 e1 e2 e3 e4 e5 e6 e7 e8 e9 e10 e11 e12 i0 i1 i2 z Opts = refl
put-listed e0 e1 e2 e3 e4 e5 e6 e7 e8 e9 e10 e11 e12 i0 i1 i2 z Obls = refl
put-listed e0 e1 e2 e3 e4 e5 e6 e7 e8 e9 e10 e11 e12 i0 i1 i2 z Optp = refl
put-listed e0 e1 e2 e3 e4 e5 e6 e7 e8 e9 e10 e11 e12 i0 i1 i2 z Oblp = refl

kept_same : (e f i j : List ℤ) → e ≡ f → i ≡ j → ◌≡◌ {A = Kept} (record { energy = e; intervals = i }) (record { energy = f; intervals = j })
kept_same e f i j p q = rw (p, q)

pub order-put : (s : Kept) → length s.energy ≡ 13 → length s.intervals ≡ 3 → (d : Determinant) (z : ℤ) → in_order (put s (place d) z) ≡ set (in_order s) ((facts d).number - 1) z
order-put s thirteen-long three-long d z =
    let v = thirteen s.energy thirteen-long in
    let w = three s.intervals three-long in
    let P : Kept → Type 0 = λ t. in_order (put t (place d) z) ≡ set (in_order t) ((facts d).number - 1) z in
    let is : s ≡ listed v.x0 v.x1 v.x2 v.x3 v.x4 v.x5 v.x6 v.x7 v.x8 v.x9 v.x10 v.x11 v.x12 w.x0 w.x1 w.x2 = kept_same _ _ _ _ v.is w.is in
    subst P (sym is) (put-listed v.x0 v.x1 v.x2 v.x3 v.x4 v.x5 v.x6 v.x7 v.x8 v.x9 v.x10 v.x11 v.x12 w.x0 w.x1 w.x2 z d)
