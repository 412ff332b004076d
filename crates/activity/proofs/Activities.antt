-- The sums over participants and the largest group value, one at a time. Assumes nothing.
use Rattle.std.proofs.Common.{◌≡◌, ℕ, ◌+◌, ◌*◌, ◌≤◌, Bool, true, false, cond, Less, Equal, Greater, List, [], ◌∷◌, ◌++◌, map, get_or, ℤ, pos, ◌+ℤ◌, nat_abs, int_lt, ◌≤ℤ◌, fold, sym, refl, ap, ◌∙◌, subst, add-one, arith}
use Rattle.std.specs.Int.{int_max}
use Rattle.std.proofs.Math.IntN.{+ℤ_idr}
use Rattle.std.proofs.lemmas.Int.{ints, clamps}
use Rattle.std.proofs.lemmas.List.Sums.{fold_push}
use Rattle.std.proofs.lemmas.Bool.{cond-true, cond-false}
use Rattle.std.proofs.lemmas.List.{map-append}
use Rattle.std.specs.Ordering.{is_lt, int_cmp, ord_max}
use Rattle.records.specs.declared.determinant.Group.{Group}
use Rattle.records.specs.declared.determinant.Group.TheVariants.{Generation, Load}
use Rattle.records.specs.Determinants.{group_number}
use Rattle.activity.specs.declared.units.Quarters.{Quarters}
use Rattle.activity.specs.Activity.{total_to, is_under, share, row_value, largest}
use Rattle.activity.specs.Counts.{Counts}
use Rattle.activity.specs.Sums.{Sums, no_sums}
use Rattle.activity.proofs.Values.{natural-sum}

total-more : (f : ℕ → ℤ) (n : ℕ) → total_to f (n + 1) ≡ total_to f n +ℤ f n
total-more f n = ap (total_to f) (add-one n)

small-more : (k : ℕ) (a b r : ℤ) → r ≡ a +ℤ b → nat_abs a ≤ 32000000000 * k → nat_abs b ≤ 32000000000 → nat_abs r ≤ 32000000000 * (k + 1)
small-more k a b r e h j = omega (arith, ints)

-- the participants before k
module _ (rows : List Sums) (parties : List ℕ) (party : ℕ) (g : Group) (Natural : Type 0) where
  abbrev pub SoFar : ℕ → ℤ → Type 0
  SoFar k z = Counts (total_to (share rows parties party g) k) (32000000000 * k) Natural z

  pub turn-yes : (k : ℕ) (a b r : ℤ) → SoFar k a → is_under parties party k ≡ true → Counts (row_value g (get_or rows k no_sums)) 32000000000 Natural b → r ≡ a +ℤ b → SoFar (k + 1) r
  turn-yes k a b r s on h told = record {
    is = told ∙ ap (λ x. x +ℤ b) s.is ∙ ap (λ x. total_to (share rows parties party g) k +ℤ x) (h.is ∙ sym (cond-true _ _ _ on)) ∙ sym (total-more (share rows parties party g) k);
    small = small-more k a b r told s.small h.small;
    natural = λ n. natural-sum a b r told (s.natural n) (h.natural n);
  }

  pub turn-no : (k : ℕ) (a : ℤ) → SoFar k a → is_under parties party k ≡ false → SoFar (k + 1) a
  turn-no k a s off = record {
    is = s.is ∙ sym (+ℤ_idr _) ∙ ap (λ x. total_to (share rows parties party g) k +ℤ x) (sym (cond-false _ _ _ off)) ∙ sym (total-more (share rows parties party g) k);
    small = omega (arith, s.small);
    natural = s.natural;
  }

-- the larger by count has the larger count
larger-by : (less greater : Bool) (a b : Quarters) → (cond (is_lt (cond less Less (cond greater Greater Equal))) a b).count ≡ cond less a.count b.count
larger-by true c a b = refl
larger-by false true a b = refl
larger-by false false a b = refl

larger : (a b : Quarters) → (ord_max (λ x y. int_cmp x.count y.count) a b).count ≡ int_max a.count b.count
larger a b = larger-by (int_lt b.count a.count) (int_lt a.count b.count) a b

not-load : Generation ≡ Load → ⊥
not-load e = omega (arith, ap group_number e)

-- the largest of 0 and the values of some groups, of which the first cannot be below 0
module _ (v : Group → ℤ) where
  pub record Top (gs : List Group) (top : Quarters) : Type 0 where
    pub is : top.count ≡ fold int_max (pos 0) (map v gs)
    pub first : get_or gs 0 Load ≡ Generation → pos 0 ≤ℤ v Generation

  first-more : (gs : List Group) (g : Group) → (get_or gs 0 Load ≡ Generation → pos 0 ≤ℤ v Generation) → (¬ (g ≡ Load) → pos 0 ≤ℤ v g) → get_or (gs ++ g ∷ []) 0 Load ≡ Generation → pos 0 ≤ℤ v Generation
  first-more [] g was here e = subst (λ x. pos 0 ≤ℤ v x) e (here (λ l. not-load (sym e ∙ l)))
  first-more (h ∷ gs) g was here e = was e

  pub top_more : (gs : List Group) (g : Group) (top z new : Quarters) (n : ℕ) → Top gs top → Counts (v g) n (¬ (g ≡ Load)) z.count → new ≡ ord_max (λ x y. int_cmp x.count y.count) top z → Top (gs ++ g ∷ []) new
  top_more gs g top z new n t h told = record {
    is = ap (λ x. x.count) told ∙ larger top z ∙ ap (λ x. int_max x z.count) t.is ∙ ap (int_max (fold int_max (pos 0) (map v gs))) h.is
        ∙ sym (fold_push int_max (pos 0) (map v gs) (v g)) ∙ ap (fold int_max (pos 0)) (sym (map-append v gs (g ∷ [])));
    first = first-more gs g t.first (λ n. subst (λ x. pos 0 ≤ℤ x) h.is (h.natural n));
  }

fold-natural : (a : ℤ) (zs : List ℤ) → pos 0 ≤ℤ a → pos 0 ≤ℤ fold int_max a zs
fold-natural a [] h = h
fold-natural a (z ∷ zs) h = fold-natural (int_max a z) zs (omega (arith, ints, clamps))

max-natural : (z : ℤ) → pos 0 ≤ℤ z → int_max (pos 0) z ≡ z
max-natural z h = omega (arith, ints, clamps)

pub top-natural : (v : Group → ℤ) (gs : List Group) (top : Quarters) → Top v gs top → pos 0 ≤ℤ top.count
top-natural v gs top t = subst (λ x. pos 0 ≤ℤ x) (sym t.is) (fold-natural (pos 0) (map v gs) (omega (arith, ints)))

pub top-largest : (v : Group → ℤ) (gs : List Group) (top : Quarters) → Top v (Generation ∷ gs) top → top.count ≡ largest (map v (Generation ∷ gs))
top-largest v gs top t = t.is ∙ ap (λ z. fold int_max z (map v gs)) (max-natural (v Generation) (t.first refl))

pub pos-abs : (t l : ℤ) → t ≡ l → pos 0 ≤ℤ t → pos (nat_abs t) ≡ l
pos-abs t l e h = omega (arith, ints)
