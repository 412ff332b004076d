-- The invoice that a payment names. Assumes nothing.
use Rattle.std.proofs.Common.{◌≡◌, ℕ, zero, suc, ◌+◌, ◌-◌, ◌<◌, ◌≤◌, Bool, true, false, ◌&&◌, eqb, ltb, leb, cond, List, [], ◌∷◌, map, length, get_or, set, position, Some, None, Ok, Err, sym, refl, ap, ◌∙◌, arith, eqb-true}
use Rattle.std.specs.List.{AllByRecursion}
use Rattle.std.proofs.lemmas.Bool.{cond-true, cond-false, ne_eqb, eq-eqb, ltb-false}
use Rattle.std.specs.List.{position_or_len}
use Rattle.std.proofs.lemmas.List.Quantifiers.{position-Some}
use Rattle.std.proofs.lemmas.List.Recursion.{found_at, or_at, or_from_places}
use Rattle.std.proofs.lemmas.List.Sums.{fails_before_first}
use Rattle.receivables.specs.declared.fault.Fault.TheVariants as fault
use Rattle.receivables.specs.declared.invoice.Event.TheVariants.{Payment}
use Rattle.receivables.specs.declared.invoice.Invoice.{Invoice}
use Rattle.receivables.specs.Books.{Book}
use Rattle.receivables.specs.Invoices.{told, nothing}
use Rattle.receivables.specs.Payments.{has_number, balance_of, pay_answer, paid_on}
use Rattle.receivables.proofs.Lists.{Listed, numbers-above}

abbrev pub has_this : ℕ → Invoice → Bool
has_this n v = eqb v.number n

-- ---- what is found
pub record Found (vs : List Invoice) (n k : ℕ) : Type 0 where
  pub within : k < length vs
  pub number : (get_or vs k nothing).number ≡ n
  pub has : has_number vs n ≡ true
  pub balance : balance_of vs n ≡ (get_or vs k nothing).balance

pub found : (vs : List Invoice) (n k : ℕ) → position (has_this n) vs ≡ Some k → Found vs n k
found vs n k e =
    let p = position-Some (has_this n) vs k nothing e in
    record {
      within = p.0;
      number = eqb-true _ _ p.1;
      has = or_at (λ ws. has_number ws n) (has_this n) refl (λ w ws. refl) vs k nothing p.0 p.1;
      balance = found_at (λ ws. balance_of ws n) (has_this n) (λ w. w.balance) 0 refl (λ w ws. refl) vs k nothing p.0 p.2 p.1;
    }

pub not_found : (vs : List Invoice) (n : ℕ) → position (has_this n) vs ≡ None → has_number vs n ≡ false
not_found vs n e = or_from_places (λ ws. has_number ws n) (has_this n) refl (λ w ws. refl) vs nothing (λ k lt. fails_before_first (has_this n) vs k nothing (go (ltb (position_or_len (has_this n) vs) (length vs)) refl e lt)) where
  go : {k : ℕ} (b : Bool) → ltb (position_or_len (has_this n) vs) (length vs) ≡ b → cond b (Some (position_or_len (has_this n) vs)) None ≡ None → k < length vs → k < position_or_len (has_this n) vs
  go true t some lt = cc
  go false t none lt = omega (arith, ltb-false _ _ t)

-- ---- the answers
module _ (b : Book) (n account amount : ℕ) where
  pub no_number : has_number b.invoices n ≡ false → Err fault.Number ≡ pay_answer b n account amount
  no_number off = sym (cond-false _ _ _ off)

  module _ (has : has_number b.invoices n ≡ true) where
    pub other-account : (account ≡ b.account → ⊥) → Err fault.Account ≡ pay_answer b n account amount
    other-account off = sym (cond-true _ _ _ has ∙ cond-false _ _ _ (ne_eqb account b.account off))

    module _ (same : account ≡ b.account) where
      pub other-amount : (leb 1 amount && leb amount (balance_of b.invoices n)) ≡ false → Err fault.Amount ≡ pay_answer b n account amount
      other-amount off = sym (cond-true _ _ _ has ∙ cond-true _ _ _ (eq-eqb account b.account same) ∙ cond-false _ _ _ off)

      pub taken : (leb 1 amount && leb amount (balance_of b.invoices n)) ≡ true → Ok (balance_of b.invoices n - amount) ≡ pay_answer b n account amount
      taken on = sym (cond-true _ _ _ has ∙ cond-true _ _ _ (eq-eqb account b.account same) ∙ cond-true _ _ _ on)

-- ---- just one invoice has the number
pub others_same : (n amount : ℕ) (vs : List Invoice) → AllByRecursion (λ u. n < u.number) vs → map (paid_on n amount) vs ≡ vs
others_same n amount [] above = refl
others_same n amount (v ∷ vs) above =
    ap (λ w. w ∷ map (paid_on n amount) vs) (cond-false _ _ _ (ne_eqb v.number n (λ e. omega (arith, above.0)))) ∙ ap (λ ws. v ∷ ws) (others_same n amount vs above.1)

number_at : (low high : ℕ) (vs : List Invoice) (k : ℕ) → Listed low high vs → k < length vs → low ≤ (get_or vs k nothing).number
number_at low high [] k l lt = absurd (omega arith)
number_at low high (v ∷ vs) zero l lt = l.0
number_at low high (v ∷ vs) (suc k) l lt = omega (arith, l.0, number_at (v.number + 1) high vs k l.2 (omega arith))

pub paid-is : (low high n amount : ℕ) (vs : List Invoice) (k : ℕ) → Listed low high vs → k < length vs → (get_or vs k nothing).number ≡ n → set vs k (told (get_or vs k nothing) (Payment amount)) ≡ map (paid_on n amount) vs
paid-is low high n amount [] k l lt e = absurd (omega arith)
paid-is low high n amount (v ∷ vs) zero l lt e =
    ap (λ ws. told v (Payment amount) ∷ ws) (sym (others_same n amount vs (numbers-above (v.number + 1) n high vs (omega (arith, e)) l.2)))
    ∙ ap (λ w. w ∷ map (paid_on n amount) vs) (sym (cond-true _ _ _ (eq-eqb v.number n e)))
paid-is low high n amount (v ∷ vs) (suc k) l lt e =
    let later = number_at (v.number + 1) high vs k l.2 (omega arith) in
    let off : eqb v.number n ≡ false = ne_eqb v.number n (λ s. omega (arith, later)) in
    ap (λ ws. v ∷ ws) (paid-is (v.number + 1) high n amount vs k l.2 (omega arith) e) ∙ ap (λ w. w ∷ map (paid_on n amount) vs) (sym (cond-false _ _ _ off))
