-- What a row counts. Assumes nothing.
use Rattle.std.proofs.Common.{◌≡◌, ℕ, ◌+◌, ◌≤◌, true, false, eqb, ℤ, pos, negsuc, ◌+ℤ◌, ◌*ℤ◌, nat_abs, ◌≤ℤ◌, sym, refl, ap, ◌∙◌, arith}
use lib.Signed.{non_neg}
use Rattle.std.specs.Int.{int_max}
use Rattle.std.proofs.Math.IntN.{+ℤ_idr}
use Rattle.std.proofs.lemmas.Int.{ints, clamps}
use Rattle.records.specs.declared.determinant.Determinant.{Determinant}
use Rattle.records.specs.declared.determinant.Determinant.TheVariants.{Rtmg, Rtdcimp, Rtamlexsecm, Mebl, Rtqqes, Rtqqep, Daes, Daep, Rtobl, Rtobllo, Opt, Daobl, Opts, Obls, Optp, Oblp}
use Rattle.records.specs.declared.determinant.Group.{Group}
use Rattle.records.specs.declared.determinant.Group.TheVariants.{Generation, Load, Sales, Purchases, DayAheadSales, DayAheadPurchases, RealTimeObligations, CongestionRights, CongestionRightPurchases}
use Rattle.activity.specs.declared.row.place.Place.{Place}
use Rattle.activity.specs.declared.row.place.Place.TheVariants.{Energy, Interval}
use Rattle.activity.specs.Activity.{counted, row_value}
use Rattle.activity.specs.Counts.{Counts}
use Rattle.records.specs.Determinants.{facts, Entry, plain, entered, quarters}
use Rattle.activity.specs.Rows.{place, Kept, kept_at, in_order}
use Rattle.activity.specs.Signs.{energy_signed}
use Rattle.activity.specs.Sums.{Sums}
use Rattle.activity.proofs.Order.{order-sum}
use Rattle.activity.proofs.Adds.{signed_at}

-- ---- one determinant
abbrev pub quarters_at : Place → ℤ → ℤ
quarters_at (Energy k) z = pos 4 *ℤ z
quarters_at (Interval k) z = pos 1 *ℤ z

once : (z : ℤ) → pos 1 *ℤ z ≡ z
once z = omega (arith, ints)

unit-at : (d : Determinant) (z : ℤ) → quarters_at (place d) z ≡ quarters (facts d).unit z
unit-at Rtmg z = refl
unit-at Rtdcimp z = once z
unit-at Rtamlexsecm z = refl
unit-at Mebl z = refl
unit-at Rtqqes z = once z
unit-at Rtqqep z = once z
unit-at Daes z = refl
unit-at Daep z = refl
unit-at Rtobl z = refl
unit-at Rtobllo z = refl
unit-at Opt z = refl
unit-at Daobl z = refl
unit-at Opts z = refl
unit-at Obls z = refl
unit-at Optp z = refl
unit-at Oblp z = refl

pub counted_is : (s : Kept) (d : Determinant) (p : Place) (e : Entry) (y : ℤ) → p ≡ place d → (facts d).entry ≡ e → y ≡ entered e (kept_at s p) → quarters_at p y ≡ counted (in_order s) d
unfolding counted
counted_is s d p e y here enters h =
    ap (λ x. quarters_at x y) here ∙ unit-at d y
    ∙ ap (quarters (facts d).unit) (h ∙ ap (λ x. entered x (kept_at s p)) (sym enters) ∙ ap (λ x. entered (facts d).entry (kept_at s x)) here ∙ ap (entered (facts d).entry) (sym (order-sum s d)))

-- the sums in kW over 15 minutes enter as they are
pub interval-plain : (d : Determinant) (k : ℕ) → Interval k ≡ place d → (facts d).entry ≡ plain
interval-plain Rtmg k e = refl
interval-plain Rtdcimp k e = refl
interval-plain Rtamlexsecm k e = cc
interval-plain Mebl k e = cc
interval-plain Rtqqes k e = refl
interval-plain Rtqqep k e = refl
interval-plain Daes k e = refl
interval-plain Daep k e = refl
interval-plain Rtobl k e = refl
interval-plain Rtobllo k e = refl
interval-plain Opt k e = refl
interval-plain Daobl k e = refl
interval-plain Opts k e = refl
interval-plain Obls k e = refl
interval-plain Optp k e = refl
interval-plain Oblp k e = refl

-- so do those of all determinants but two, which may not be below 0
pub rest_plain : (d : Determinant) (k : ℕ) → Energy k ≡ place d → ¬ (d ≡ Rtamlexsecm) → ¬ (d ≡ Mebl) → ((facts d).entry ≡ plain) × (energy_signed k ≡ false)
rest_plain Rtmg k e a b = (refl, ap signed_at e)
rest_plain Rtdcimp k e a b = (refl, ap signed_at e)
rest_plain Rtamlexsecm k e a b = absurd (a refl)
rest_plain Mebl k e a b = absurd (b refl)
rest_plain Rtqqes k e a b = (refl, ap signed_at e)
rest_plain Rtqqep k e a b = (refl, ap signed_at e)
rest_plain Daes k e a b = (refl, ap signed_at e)
rest_plain Daep k e a b = (refl, ap signed_at e)
rest_plain Rtobl k e a b = (refl, ap signed_at e)
rest_plain Rtobllo k e a b = (refl, ap signed_at e)
rest_plain Opt k e a b = (refl, ap signed_at e)
rest_plain Daobl k e a b = (refl, ap signed_at e)
rest_plain Opts k e a b = (refl, ap signed_at e)
rest_plain Obls k e a b = (refl, ap signed_at e)
rest_plain Optp k e a b = (refl, ap signed_at e)
rest_plain Oblp k e a b = (refl, ap signed_at e)

pub non_neg-le : (z : ℤ) → non_neg z ≡ true → pos 0 ≤ℤ z
non_neg-le (pos n) e = omega (arith, ints)
non_neg-le (negsuc n) e = let x : ◌≡◌ {A = ℕ} 0 1 = cc in absurd (omega arith)

small-at : (p : Place) (y r : ℤ) → r ≡ quarters_at p y → nat_abs y ≤ 2000000000 → nat_abs r ≤ 8000000000
small-at (Energy k) y r e h = omega (arith, ints)
small-at (Interval k) y r e h = omega (arith, ints)

natural-at : (p : Place) (y r : ℤ) → r ≡ quarters_at p y → pos 0 ≤ℤ y → pos 0 ≤ℤ r
natural-at (Energy k) y r e h = omega (arith, ints)
natural-at (Interval k) y r e h = omega (arith, ints)

-- a sum that enters as y
pub sum-counts : {Natural : Type 0} (s : Kept) (p : Place) (d : Determinant) (e : Entry) (y r : ℤ) → p ≡ place d → (facts d).entry ≡ e → nat_abs y ≤ 2000000000
    → y ≡ entered e (kept_at s p) → r ≡ quarters_at p y → (Natural → pos 0 ≤ℤ y) → Counts (counted (in_order s) d) 8000000000 Natural r
sum-counts s p d e y r here enters small h told natural = record { is = told ∙ counted_is s d p e y here enters h; small = small-at p y r told small; natural = λ n. natural-at p y r told (natural n) }

pub clipped-natural : (z y : ℤ) → y ≡ int_max (pos 0) z → pos 0 ≤ℤ y
clipped-natural z y e = omega (arith, ints, clamps)

-- ---- several determinants
two : (a b : ℤ) → a +ℤ (b +ℤ pos 0) ≡ a +ℤ b
two a b = omega (arith, ints)

four : (a b c d : ℤ) → a +ℤ (b +ℤ (c +ℤ (d +ℤ pos 0))) ≡ (a +ℤ b) +ℤ (c +ℤ d)
four a b c d = omega (arith, ints)

small-sum : (n : ℕ) (a b r : ℤ) → r ≡ a +ℤ b → nat_abs a ≤ n → nat_abs b ≤ n → nat_abs r ≤ n + n
small-sum n a b r e h k = omega (arith, ints)

pub natural-sum : (a b r : ℤ) → r ≡ a +ℤ b → pos 0 ≤ℤ a → pos 0 ≤ℤ b → pos 0 ≤ℤ r
natural-sum a b r e h k = omega (arith, ints)

both : {x y a b r : ℤ} {P Q : Type 0} (n : ℕ) → Counts x n P a → Counts y n Q b → r ≡ a +ℤ b → Counts (x +ℤ y) (n + n) (P × Q) r
both {x} {y} {a} {b} {r} n f g told = record {
  is = told ∙ ap (λ z. z +ℤ b) f.is ∙ ap (λ z. x +ℤ z) g.is;
  small = small-sum n a b r told f.small g.small;
  natural = λ h. natural-sum a b r told (f.natural h.0) (g.natural h.1);
}

-- of a determinant by its number: it is not MEBL
pub apart : (d : Determinant) → eqb (facts d).number 4 ≡ false → d ≡ Mebl → ⊥
apart d off h = let t : true ≡ false = sym (ap (λ x. eqb (facts x).number 4) h) ∙ off in let z : ◌≡◌ {A = ℕ} 0 1 = cc in omega arith

-- what one, two or four determinants count, as the value of their group
module _ (group g : Group) (s : Sums) (here : group ≡ g) where
  abbrev Value : ℤ → Type 0
  Value r = Counts (row_value group s) 32000000000 (group ≡ Load → ⊥) r

  abbrev Counted : Determinant → ℤ → Type 0
  Counted d a = Counts (counted s d) 8000000000 (d ≡ Mebl → ⊥) a

  named : {v r : ℤ} {P : Type 0} (n : ℕ) → n ≤ 32000000000 → row_value g s ≡ v → ((group ≡ Load → ⊥) → P) → Counts v n P r → Value r
  named n le e p h = record { is = h.is ∙ sym e ∙ ap (λ x. row_value x s) (sym here); small = omega (arith, h.small); natural = λ x. h.natural (p x) }

  pub single : (d : Determinant) (r : ℤ) → row_value g s ≡ counted s d → Counted d r → (d ≡ Mebl → ⊥) → Value r
  single d r e f p = named 8000000000 (omega arith) e (λ _. p) f

  pub pair : (d e : Determinant) (a b r : ℤ) → row_value g s ≡ counted s d +ℤ counted s e → Counted d a → Counted e b → r ≡ a +ℤ b → ((group ≡ Load → ⊥) → (d ≡ Mebl → ⊥) × (e ≡ Mebl → ⊥)) → Value r
  pair d e a b r is f h told p = named 16000000000 (omega arith) is p (both 8000000000 f h told)

  pub quadruple : (d₁ d₂ d₃ d₄ : Determinant) (a₁ a₂ a₃ a₄ x y r : ℤ) → row_value g s ≡ (counted s d₁ +ℤ counted s d₂) +ℤ (counted s d₃ +ℤ counted s d₄) → Counted d₁ a₁ → Counted d₂ a₂ → Counted d₃ a₃ → Counted d₄ a₄
      → x ≡ a₁ +ℤ a₂ → y ≡ a₃ +ℤ a₄ → r ≡ x +ℤ y → ((group ≡ Load → ⊥) → ((d₁ ≡ Mebl → ⊥) × (d₂ ≡ Mebl → ⊥)) × ((d₃ ≡ Mebl → ⊥) × (d₄ ≡ Mebl → ⊥))) → Value r
  quadruple d₁ d₂ d₃ d₄ a₁ a₂ a₃ a₄ x y r is f₁ f₂ f₃ f₄ e₁ e₂ told p = named 32000000000 (omega arith) is p (both 16000000000 (both 8000000000 f₁ f₂ e₁) (both 8000000000 f₃ f₄ e₂) told)

pub generation : (s : Sums) → row_value Generation s ≡ counted s Rtmg +ℤ counted s Rtdcimp
unfolding row_value
generation s = two (counted s Rtmg) (counted s Rtdcimp)

pub load : (s : Sums) → row_value Load s ≡ counted s Rtamlexsecm +ℤ counted s Mebl
unfolding row_value
load s = two (counted s Rtamlexsecm) (counted s Mebl)

pub sales : (s : Sums) → row_value Sales s ≡ counted s Rtqqes
unfolding row_value
sales s = +ℤ_idr (counted s Rtqqes)

pub purchases : (s : Sums) → row_value Purchases s ≡ counted s Rtqqep
unfolding row_value
purchases s = +ℤ_idr (counted s Rtqqep)

pub day-ahead-sales : (s : Sums) → row_value DayAheadSales s ≡ counted s Daes
unfolding row_value
day-ahead-sales s = +ℤ_idr (counted s Daes)

pub day-ahead-purchases : (s : Sums) → row_value DayAheadPurchases s ≡ counted s Daep
unfolding row_value
day-ahead-purchases s = +ℤ_idr (counted s Daep)

pub obligations : (s : Sums) → row_value RealTimeObligations s ≡ counted s Rtobl +ℤ counted s Rtobllo
unfolding row_value
obligations s = two (counted s Rtobl) (counted s Rtobllo)

pub rights : (s : Sums) → row_value CongestionRights s ≡ (counted s Opt +ℤ counted s Daobl) +ℤ (counted s Opts +ℤ counted s Obls)
unfolding row_value
rights s = four (counted s Opt) (counted s Daobl) (counted s Opts) (counted s Obls)

pub right-purchases : (s : Sums) → row_value CongestionRightPurchases s ≡ counted s Optp +ℤ counted s Oblp
unfolding row_value
right-purchases s = two (counted s Optp) (counted s Oblp)
