-- What a past-due run is worth, in the words of the subject. Assumes nothing.
use Rattle.std.specs.Prelude.{◌≡◌, ℕ, ◌+◌, ◌≤◌, Bool, true, false, cond, List, [], ◌∷◌, sum, ◌==◌, ◌≢◌, slice_index}
use Rattle.std.specs.List.{AllByRecursion}
use Rattle.receivables.specs.declared.draws.Outcome.{Outcome}
use Rattle.receivables.specs.declared.invoice.Invoice.{Invoice}
use Rattle.receivables.specs.Payments.{balance_of}

-- what is owed by the party whose security stands at a place of the row
abbrev pub owed_at : ℕ → List Invoice → ℕ
owed_at j [] = 0
owed_at j (v ∷ vs) = cond (v.position == j) v.balance 0 + owed_at j vs

-- what is owed on past-due invoices
abbrev pub owed_past : (Invoice → Bool) → List Invoice → ℕ
owed_past past [] = 0
owed_past past (v ∷ vs) = cond (past v) v.balance 0 + owed_past past vs

-- no past-due invoice draws on the place j
abbrev pub Untouched : (Invoice → Bool) → ℕ → List Invoice → Type 0
Untouched past j vs = AllByRecursion (λ v. past v ≡ true → j ≢ v.position) vs

-- a run over invoices vs and cents held hs that left ws and ks, and answered o
pub record RunLaw (past : Invoice → Bool) (vs : List Invoice) (hs : List ℕ) (ws : List Invoice) (ks : List ℕ) (o : Outcome) : Type 0 where
  -- at each place, held fell by what its balances fell by
  pub each : (j : ℕ) → slice_index ks j + owed_at j vs ≡ slice_index hs j + owed_at j ws
  pub falls : (j : ℕ) → slice_index ks j ≤ slice_index hs j
  -- the cents drawn are what all held fell by
  pub total : sum ks + o.drawn ≡ sum hs
  pub left : o.owed ≡ owed_past past ws
  -- past due and still owed only where that party's security is empty
  pub empty : AllByRecursion (λ w. past w ≡ true → slice_index ks w.position ≡ 0) ws
  -- not past due: the balance is left
  pub spared : AllByRecursion (λ v. past v ≡ false → balance_of ws v.number ≡ v.balance) vs
