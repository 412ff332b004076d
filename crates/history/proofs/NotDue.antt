-- A run leaves what is owed on invoices that are not past due. Assumes nothing.
use Rattle.std.proofs.Common.{◌≡◌, ℕ, ◌+◌, Bool, true, false, cond, eqb, List, [], ◌∷◌, sum_by, filter, refl, ap, ◌∙◌, arith}
use Rattle.std.proofs.lemmas.List.Sums.{sum_by-cons}
use Rattle.std.proofs.lemmas.Bool.{cond-true}
use Rattle.foundation.specs.Limits.{due_minute}
use Rattle.calendar.specs.Moments.{When, before}
use Rattle.receivables.specs.declared.invoice.Invoice.{Invoice}
use Rattle.receivables.specs.Invoices.{is_past_due, owed_by, unsettled}
use Rattle.receivables.specs.Run.{drawn_on, drawn_all, held_after}
use Rattle.receivables.proofs.Lists.{Listed}
use Rattle.receivables.proofs.RunLaws.{drawn-due, swept-head}
use Rattle.history.specs.PastDue.{past_due_by}

-- what the Counter-Party p owes on one invoice
abbrev mine : ℕ → Invoice → ℕ
mine p v = cond (eqb v.billed p) v.balance 0

abbrev later : (Invoice → Bool) → ℕ → Invoice → ℕ
later past p v = cond (past v) 0 (mine p v)

abbrev pub not_due_by : (Invoice → Bool) → List Invoice → ℕ → ℕ
not_due_by past vs p = sum_by (later past p) vs

pub owed-parts : (past : Invoice → Bool) (p : ℕ) (vs : List Invoice) → owed_by vs p ≡ past_due_by past vs p + not_due_by past vs p
owed-parts past p [] = refl
owed-parts past p (v ∷ vs) =
    let here : mine p v ≡ cond (past v) (mine p v) 0 + later past p v = elim (past v) as (λ b. mine p v ≡ cond b (mine p v) 0 + cond b 0 (mine p v)) [ true ↦ omega arith | false ↦ omega arith ] in
    omega (arith, here, owed-parts past p vs, sum_by-cons (mine p) v vs, sum_by-cons (λ u. cond (past u) (mine p u) 0) v vs, sum_by-cons (later past p) v vs)

module _ (at : When) (p : ℕ) where
  stays : (hs : List ℕ) (v : Invoice) → is_past_due at (drawn_on hs v) ≡ is_past_due at v
  stays hs v = ap (λ d. before (record { day = d; minute = due_minute }) at) (drawn-due hs v)

  pub not-due-stays : (low high : ℕ) (vs : List Invoice) (hs : List ℕ) → Listed low high vs → not_due_by (is_past_due at) (filter unsettled (drawn_all (is_past_due at) vs hs)) p ≡ not_due_by (is_past_due at) vs p
  not-due-stays low high [] hs l = refl
  not-due-stays low high (v ∷ vs) hs l = go (is_past_due at v) refl (λ ks. not-due-stays (v.number + 1) high vs ks l.2) where
    go : (b : Bool) → is_past_due at v ≡ b → ((ks : List ℕ) → not_due_by (is_past_due at) (filter unsettled (drawn_all (is_past_due at) vs ks)) p ≡ not_due_by (is_past_due at) vs p)
        → not_due_by (is_past_due at) (cond (unsettled (cond b (drawn_on hs v) v)) (cond b (drawn_on hs v) v ∷ filter unsettled (drawn_all (is_past_due at) vs (cond b (held_after hs v) hs))) (filter unsettled (drawn_all (is_past_due at) vs (cond b (held_after hs v) hs)))) p ≡ not_due_by (is_past_due at) (v ∷ vs) p
    go true t rests =
        let w = drawn_on hs v in
        let none : later (is_past_due at) p w ≡ 0 = cond-true (is_past_due at w) 0 (mine p w) (stays hs v ∙ t) in
        let rest = filter unsettled (drawn_all (is_past_due at) vs (held_after hs v)) in
        omega (
          arith,
          swept-head w rest (later (is_past_due at) p) (λ us. not_due_by (is_past_due at) us p) (λ u us. sum_by-cons (later (is_past_due at) p) u us) (λ _. none),
          none,
          cond-true (is_past_due at v) 0 (mine p v) t,
          rests (held_after hs v),
          sum_by-cons (later (is_past_due at) p) v vs,
        )
    go false t rests =
        let rest = filter unsettled (drawn_all (is_past_due at) vs hs) in
        ap (λ b. not_due_by (is_past_due at) (cond b (v ∷ rest) rest) p) l.1.here
        ∙ omega (arith, sum_by-cons (later (is_past_due at) p) v rest, sum_by-cons (later (is_past_due at) p) v vs, rests hs)
