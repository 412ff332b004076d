-- Issuing invoices, one at a time. Assumes nothing.
use Rattle.std.proofs.Common.{◌≡◌, ℕ, ◌+◌, ◌<◌, ◌≤◌, true, false, cond, ltb, List, [], ◌∷◌, ◌++◌, length, get_or, drop, sym, refl, ap, ◌∙◌, arith, length-append}
use Rattle.std.proofs.lemmas.List.{at_drop_more, append_assoc}
use Rattle.std.specs.List.{count_by}
use Rattle.std.proofs.lemmas.List.Recursion.{is_count_by}
use Rattle.std.proofs.lemmas.Bool.{cond-true, cond-false, lt-ltb, le-ltb}
use Rattle.receivables.specs.declared.charge.Charge.{Charge}
use Rattle.receivables.specs.declared.invoice.Invoice.{Invoice}
use Rattle.receivables.specs.Books.{Book}
use Rattle.receivables.specs.Issued.{issued, positive, issued_from, after_issue}

book-same : (vs ws : List Invoice) (n m a : ℕ) → vs ≡ ws → n ≡ m → ◌≡◌ {A = Book} (record { invoices = vs; next = n; account = a }) (record { invoices = ws; next = m; account = a })
book-same vs ws n m a p q = rw (p, q)

unfoldable pub no-charge : Charge
no-charge = record { billed = 0; position = 0; cents = 0 }

module _ (cs : List Charge) (i : ℕ) (c : Charge) (here : c ≡ get_or cs i c) (lt : i < length cs) where
  pub positive-yes : 0 < c.cents → positive (drop i cs) ≡ 1 + positive (drop (i + 1) cs)
  positive-yes h = at_drop_more positive cs i c lt ∙ ap (λ x. positive (x ∷ drop (i + 1) cs)) (sym here) ∙ cond-true _ _ _ (lt-ltb 0 c.cents h)

  pub positive-no : c.cents ≤ 0 → positive (drop i cs) ≡ positive (drop (i + 1) cs)
  positive-no h = at_drop_more positive cs i c lt ∙ ap (λ x. positive (x ∷ drop (i + 1) cs)) (sym here) ∙ cond-false _ _ _ (le-ltb 0 c.cents h)

  issued-yes : (n due : ℕ) → 0 < c.cents → issued_from n due (drop i cs) ≡ issued n due c ∷ issued_from (n + 1) due (drop (i + 1) cs)
  issued-yes n due h = at_drop_more (issued_from n due) cs i c lt ∙ ap (λ x. issued_from n due (x ∷ drop (i + 1) cs)) (sym here) ∙ cond-true _ _ _ (lt-ltb 0 c.cents h)

  issued-no : (n due : ℕ) → c.cents ≤ 0 → issued_from n due (drop i cs) ≡ issued_from n due (drop (i + 1) cs)
  issued-no n due h = at_drop_more (issued_from n due) cs i c lt ∙ ap (λ x. issued_from n due (x ∷ drop (i + 1) cs)) (sym here) ∙ cond-false _ _ _ (le-ltb 0 c.cents h)

  -- what has been issued, and what the charges that are left will give, is what all give
  pub issuing-yes : (b b' : Book) (due : ℕ) (whole : Book) → 0 < c.cents → after_issue b due (drop i cs) ≡ whole → b' ≡ after_issue b due (c ∷ []) → after_issue b' due (drop (i + 1) cs) ≡ whole
  issuing-yes b b' due whole h so step =
      let one : positive (c ∷ []) ≡ 1 = cond-true _ _ _ (lt-ltb 0 c.cents h) in
      let new : issued_from b.next due (c ∷ []) ≡ issued b.next due c ∷ [] = cond-true _ _ _ (lt-ltb 0 c.cents h) in
      let numbers : b.next + 1 + positive (drop (i + 1) cs) ≡ b.next + positive (drop i cs) = omega (arith, positive-yes h) in
      let list : (b.invoices ++ issued b.next due c ∷ []) ++ issued_from (b.next + 1) due (drop (i + 1) cs) ≡ b.invoices ++ issued_from b.next due (drop i cs) =
      append_assoc b.invoices _ _ ∙ ap (λ x. b.invoices ++ x) (sym (issued-yes b.next due h)) in
      ap (λ x. after_issue x due (drop (i + 1) cs)) step
      ∙ book-same _ _ _ _ _ (ap (λ x. (b.invoices ++ x) ++ issued_from (b.next + positive (c ∷ [])) due (drop (i + 1) cs)) new ∙ ap (λ x. (b.invoices ++ issued b.next due c ∷ []) ++ issued_from (b.next + x) due (drop (i + 1) cs)) one ∙ list) (ap (λ x. b.next + x + positive (drop (i + 1) cs)) one ∙ numbers)
      ∙ so

  pub issuing-no : (b : Book) (due : ℕ) (whole : Book) → c.cents ≤ 0 → after_issue b due (drop i cs) ≡ whole → after_issue b due (drop (i + 1) cs) ≡ whole
  issuing-no b due whole h so =
      rw (sym (positive-no h), sym (issued-no b.next due h)) so

pub positive-count : (cs : List Charge) → count_by (λ c. ltb 0 c.cents) cs ≡ positive cs
positive-count cs = sym (is_count_by positive (λ c. ltb 0 c.cents) refl (λ c ds. refl) cs)

pub issued-length : (n due : ℕ) (cs : List Charge) → length (issued_from n due cs) ≡ positive cs
issued-length n due [] = refl
issued-length n due (c ∷ cs) =
    let yes-too = issued-length (n + 1) due cs in
    let no-too = issued-length n due cs in
    elim (ltb 0 c.cents) as (λ b. length (cond b (issued n due c ∷ issued_from (n + 1) due cs) (issued_from n due cs)) ≡ cond b (1 + positive cs) (positive cs)) [ true ↦ omega (arith, yes-too) | false ↦ no-too ]

-- as many places are taken in the end as are taken now and wanted by the charges that are left
pub issuing-room : (b whole : Book) (due : ℕ) (cs : List Charge) → after_issue b due cs ≡ whole → (length whole.invoices ≡ length b.invoices + positive cs) × (whole.next ≡ b.next + positive cs)
issuing-room b whole due cs so = (
  ap (λ x. length x.invoices) (sym so) ∙ length-append b.invoices (issued_from b.next due cs) ∙ ap (λ n. length b.invoices + n) (issued-length b.next due cs),
  ap (λ x. x.next) (sym so),
)
