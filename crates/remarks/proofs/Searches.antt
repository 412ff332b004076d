-- The first place where a number is marked. Assumes nothing.
use Rattle.std.proofs.Common.{◌≡◌, ℕ, ◌+◌, ◌-◌, ◌<◌, ◌≤◌, Bool, true, false, cond, eqb, leb, List, length, get_or, take, drop, Some, None, Option, sym, refl, ap, ◌∙◌, subst, inl, inr, arith, length-drop, take_all, le-leb, leb-true}
use borrow.Author.Tests.{lt-leb}
use Rattle.std.proofs.lemmas.List.{get_or_past}
use Rattle.std.proofs.lemmas.Bool.{cond-true, cond-false, cases_lt}
use Rattle.std.specs.Int.Digits.{number_from_digits}
use Rattle.std.specs.Option.{MatchOption}
use Rattle.foundation.specs.Counting.{first}
use Rattle.foundation.proofs.Firsts.{First, true-false, first-is, first_found}
use Rattle.remarks.specs.Remarks.{is_digit, is_mark, is_marked, digits, read_at, named, Names, NamedAnswer}
use Rattle.remarks.proofs.Readings.{and_right}

-- ---- a mark has four bytes
pub marked-long : (text : List ℕ) → is_mark text ≡ true → 3 < length text
marked-long text h =
    let digit : is_digit (get_or text 3 0) ≡ true = and_right (eqb (get_or text 2 0) 86) _ (and_right (eqb (get_or text 1 0) 78) _ (and_right (eqb (get_or text 0 0) 73) _ h)) in
    elim (cases_lt 3 (length text)) [ inl k ↦ k | inr k ↦ absurd (true-false (is_digit (get_or text 3 0)) digit (ap is_digit (get_or_past text 3 0 k))) ]

pub whole-rest : (xs : List ℕ) (k : ℕ) → take (length xs - k) (drop k xs) ≡ drop k xs
whole-rest xs k = take_all (length xs - k) (drop k xs) (simp length-drop (omega arith))

pub marked-within : (xs : List ℕ) (k : ℕ) → is_marked xs k ≡ true → k + 3 < length xs
marked-within xs k h = let l = marked-long (drop k xs) h in omega (arith, length-drop k xs)

-- the first place, as a search over the places finds it
pub first-place : (p : ℕ → Bool) (n : ℕ) (o : Option ℕ) → MatchOption o ((k : ℕ) → 0 ≤ k → k < n → p k ≡ false) (λ i. (0 ≤ i) × (i < n) × (p i ≡ true) × ((k : ℕ) → 0 ≤ k → k < i → p k ≡ false)) → First p n o
first-place p n None h = λ e lt. h e (omega arith) lt
first-place p n (Some i) h = (h.1, h.2, λ e lt. h.3 e (omega arith) lt)

-- ---- the law
if_some : (b : Bool) (v n : ℕ) → cond b (Some v) None ≡ Some n → (b ≡ true) × (n ≡ v)
if_some true v n e = (refl, cc)
if_some false v n e = absurd (let z : ◌≡◌ {A = ℕ} 0 1 = cc in omega arith)

if-found : (b : Bool) (o : Option ℕ) (n : ℕ) → cond b o None ≡ Some n → (b ≡ true) × (o ≡ Some n)
if-found true o n e = (refl, e)
if-found false o n e = absurd (let z : ◌≡◌ {A = ℕ} 0 1 = cc in omega arith)

module _ (most : ℕ) (remark : List ℕ) where
  names : length remark ≤ 64 → (o : Option ℕ) → First (is_marked remark) (length remark) o → (n : ℕ) → read_at most remark o ≡ Some n → Names most remark n
  names short None f n e = absurd (let z : ◌≡◌ {A = ℕ} 0 1 = cc in omega arith)
  names short (Some place) f n e =
      let ds = digits (drop 3 (drop place remark)) in
      let v = if_some (leb (length ds) most) (number_from_digits 10 ds) n e in
      record { short = short; place = place; marked = f.1; first = f.2; few = leb-true (length ds) most v.0; value = v.1 }

  named-law : NamedAnswer most remark (named most remark)
  unfolding named
  named-law = record {
    sound = λ n e.
        let s = if-found (leb (length remark) 64) (read_at most remark (first (is_marked remark) (length remark))) n e in
        names (leb-true (length remark) 64 s.0) (first (is_marked remark) (length remark)) (first-is (is_marked remark) (length remark)) n s.1;
    complete = λ n h.
        let ds = digits (drop 3 (drop h.place remark)) in
        let found = first_found (is_marked remark) (length remark) h.place (omega (arith, marked-within remark h.place h.marked), h.marked, h.first) in
        cond-true (leb (length remark) 64) _ _ (le-leb (length remark) 64 h.short) ∙ ap (read_at most remark) found
        ∙ cond-true (leb (length ds) most) _ _ (le-leb (length ds) most h.few) ∙ ap Some (sym h.value);
  }

  pub law-of : (r : Option ℕ) → r ≡ named most remark → NamedAnswer most remark r
  law-of r e = subst (NamedAnswer most remark) (sym e) named-law

  -- ---- what the first marked place gives
  pub too_long : 64 < length remark → None ≡ named most remark
  unfolding named
  too_long h = sym (cond-false (leb (length remark) 64) _ _ (lt-leb (length remark) 64 h))

  pub read_from : length remark ≤ 64 → (o : Option ℕ) → o ≡ first (is_marked remark) (length remark) → read_at most remark o ≡ named most remark
  unfolding named
  read_from short o e = sym (cond-true (leb (length remark) 64) _ _ (le-leb (length remark) 64 short) ∙ ap (read_at most remark) (sym e))

pub place-within : (remark : List ℕ) (k : ℕ) → Some k ≡ first (is_marked remark) (length remark) → k + 3 < length remark
place-within remark k e = marked-within remark k (subst (First (is_marked remark) (length remark)) (sym e) (first-is (is_marked remark) (length remark))).1
