use Rattle.std.proofs.Common.{◌≡◌, ℕ, ◌-◌, ◌<◌, ◌≤◌, true, false, ◌&&◌, leb, List, map, length, get_or, set, position, None, Some, Err, Ok, Option, Result, vec_items, filter, sym, ap, ◌∙◌, inl, inr, arith, le-leb}
use borrow.Author.Tests.{lt-leb}
use Rattle.std.proofs.lemmas.List.{get_or_default, length-map}
use Rattle.std.proofs.lemmas.Bool.{and_from}
use Rattle.std.specs.Option.{ok_or}
use Rattle.std.proofs.lemmas.Result.{err_from_is_err_and}
use Rattle.receivables.specs.declared.fault.Fault.{Fault}
use Rattle.receivables.specs.declared.fault.Fault.TheVariants.{Number}
use Rattle.receivables.specs.declared.invoice.Event.TheVariants.{Payment}
use Rattle.receivables.specs.declared.invoice.Invoice.{Invoice}
use Rattle.receivables.specs.Books.{book_of, with_invoices}
use Rattle.receivables.specs.Invoices.{told, unsettled, nothing}
use Rattle.receivables.specs.Listed.{listed}
use Rattle.receivables.specs.Payments.{has_number, balance_of, paid_on}
use Rattle.receivables.proofs.Lists.{lists, unlists, kept-listed, pay-kept, length-kept}
use Rattle.receivables.proofs.Payments.{has_this, Found, found, not_found, no_number, other-account, other-amount, taken, paid-is}
use Rattle.receivables.proofs.book.Receivables.pay.Goals as goal

-- what the search answered: a place, or the fault that none has the number
looked : (vs : List Invoice) (n k : ℕ) {xs : List Invoice} {o : Option ℕ} {r : Result ℕ Fault} → r ≡ ok_or o Number → r ≡ Ok k → o ≡ position (has_this n) xs → xs ≡ vs → Found vs n k
looked vs n k {o = None} made was is same = let z : ◌≡◌ {A = ℕ} 0 1 = cc in absurd (omega arith)
looked vs n k {o = Some j} made was is same = found vs n k cc

missed : (vs : List Invoice) (n : ℕ) {xs : List Invoice} {o : Option ℕ} {f : Fault} {r : Result ℕ Fault} → r ≡ ok_or o Number → r ≡ Err f → o ≡ position (has_this n) xs → xs ≡ vs → (has_number vs n ≡ false) × (f ≡ Number)
missed vs n {o = None} made was is same = (not_found vs n cc, cc)
missed vs n {o = Some j} made was is same = let z : ◌≡◌ {A = ℕ} 0 1 = cc in absurd (omega arith)

pub returns-in_err-k-clause-answer : goal.returns-in_err-k-clause-answer
returns-in_err-k-clause-answer g c =
    let book = book_of c.args.self.now in
    let p = err_from_is_err_and c.from_residual.result c.from_residual.ensures.1 in
    let m = missed book.invoices c.args.number c.ok_or.ensures.value c.in_err-k.was c.place_of.ensures c.as_slice.ensures.value in
    rw (p.1, p.2, m.1) (no_number book c.args.number c.args.account c.args.amount m.0)

pub returns-then-account-self-clause-answer : goal.returns-then-account-self-clause-answer
returns-then-account-self-clause-answer g c =
    let book = book_of c.args.self.now in
    let f = looked book.invoices c.args.number c.in_ok-k.k c.ok_or.ensures.value c.in_ok-k.was c.place_of.ensures c.as_slice.ensures.value in
    other-account book c.args.number c.args.account c.args.amount f.has c.if-account-self.true

-- the balance that was read is that of the invoice with the number
read : (vs : List Invoice) (n k : ℕ) (v : Invoice) → Found vs n k → v ≡ get_or vs k v → v.balance ≡ balance_of vs n
read vs n k v f e = ap (λ u. u.balance) (e ∙ get_or_default vs k v nothing f.within) ∙ sym f.balance

pub returns-then-amount-lt1-clause-answer : goal.returns-then-amount-lt1-clause-answer
returns-then-amount-lt1-clause-answer g c =
    let book = book_of c.args.self.now in
    let n = c.args.number in
    let amount = c.args.amount in
    let f = looked book.invoices n c.in_ok-k.k c.ok_or.ensures.value c.in_ok-k.was c.place_of.ensures c.as_slice.ensures.value in
    let is = read book.invoices n c.in_ok-k.k _ f c.index.ensures in
    let off : (leb 1 amount && leb amount (balance_of book.invoices n)) ≡ false = elim c.then-amount-lt1.either [
      | inl low ↦ ap (λ b. b && leb amount (balance_of book.invoices n)) (lt-leb 1 amount low)
      | inr high ↦ (let much : balance_of book.invoices n < amount = omega (arith, is, high.1) in let some : 1 ≤ amount = omega (arith, high.0) in ap (λ b. b && leb amount (balance_of book.invoices n)) (le-leb 1 amount some) ∙ lt-leb amount (balance_of book.invoices n) much)
    ] in
    other-amount book n c.args.account amount f.has c.if-account-self.false off

-- the invoices after the payment, with the settled ones out
module _ (vs ws : List Invoice) (n amount k next : ℕ) (v w : Invoice) (f : Found vs n k) (sound : listed 1 next vs ≡ true) where
  after-sweep : v ≡ get_or vs k v → w ≡ told v (Payment amount) → ws ≡ filter unsettled (set vs k w) → ws ≡ filter unsettled (map (paid_on n amount) vs)
  after-sweep e told_is swept =
      swept ∙ ap (λ x. filter unsettled (set vs k x)) (told_is ∙ ap (λ u. told u (Payment amount)) (e ∙ get_or_default vs k v nothing f.within))
      ∙ ap (filter unsettled) (paid-is 1 next n amount vs k (lists 1 next vs sound) f.within f.number)

pub invariant_of-self-clause-few : goal.invariant_of-self-clause-few
invariant_of-self-clause-few g c =
    let r = c.args.self.now in
    let vs = vec_items r.list in
    let f = looked vs c.args.number c.in_ok-k.k c.ok_or.ensures.value c.in_ok-k.was c.place_of.ensures c.as_slice.ensures.value in
    let out = after-sweep vs _ c.args.number c.args.amount c.in_ok-k.k r.next _ _ f r.sound c.index_mut.ensures.value c.tell.ensures c.sweep.ensures.items in
    omega (arith, c.sweep.new.list.ok.0, ap length out, length-kept unsettled (map (paid_on c.args.number c.args.amount) vs), length-map vs (paid_on c.args.number c.args.amount), r.list.ok.0, r.few)

pub invariant_of-self-clause-sound : goal.invariant_of-self-clause-sound
invariant_of-self-clause-sound g c =
    let r = c.args.self.now in
    let vs = vec_items r.list in
    let f = looked vs c.args.number c.in_ok-k.k c.ok_or.ensures.value c.in_ok-k.was c.place_of.ensures c.as_slice.ensures.value in
    let out = after-sweep vs _ c.args.number c.args.amount c.in_ok-k.k r.next _ _ f r.sound c.index_mut.ensures.value c.tell.ensures c.sweep.ensures.items in
    let l = lists 1 r.next vs r.sound in
    ap (listed 1 r.next) out ∙ unlists 1 r.next _ (kept-listed 1 r.next vs _ (pay-kept 1 r.next c.args.number c.args.amount vs l) l)

pub returns-clause-answer : goal.returns-clause-answer
returns-clause-answer g c =
    let book = book_of c.args.self.now in
    let vs = book.invoices in
    let n = c.args.number in
    let amount = c.args.amount in
    let f = looked vs n c.in_ok-k.k c.ok_or.ensures.value c.in_ok-k.was c.place_of.ensures c.as_slice.ensures.value in
    let is = read vs n c.in_ok-k.k _ f c.index.ensures in
    let some : 1 ≤ amount = omega (arith, c.if-amount-lt1.false) in
    let much : amount ≤ balance_of vs n = omega (arith, is, c.if-amount-balance.false) in
    ap (λ x. Ok (x - amount)) is ∙ taken book n c.args.account amount f.has c.if-account-self.false (and_from _ _ (le-leb 1 amount some) (le-leb amount (balance_of vs n) much))

pub returns-clause-book : goal.returns-clause-book
returns-clause-book g c =
    let r = c.args.self.now in
    let vs = vec_items r.list in
    let f = looked vs c.args.number c.in_ok-k.k c.ok_or.ensures.value c.in_ok-k.was c.place_of.ensures c.as_slice.ensures.value in
    ap (with_invoices (book_of r)) (after-sweep vs _ c.args.number c.args.amount c.in_ok-k.k r.next _ _ f r.sound c.index_mut.ensures.value c.tell.ensures c.sweep.ensures.items)
