use Rattle.std.proofs.Common.{◌≡◌, ◌+◌, get_or, drop, sym, refl, subst, arith}
use Rattle.std.proofs.lemmas.List.{get_or_default}
use Rattle.receivables.specs.declared.book.Receivables.{Receivables}
use Rattle.receivables.specs.Books.{book_of}
use Rattle.receivables.specs.Issued.{after_issue}
use Rattle.receivables.proofs.Issues.{no-charge, positive-yes, issuing-yes, issuing-no, issuing-room}
use Rattle.receivables.proofs.book.Receivables.issue.Goals as goal
use Rattle.receivables.proofs.book.Receivables.issue.Goals.{then-charge-gt0, else-charge-gt0}

pub add-requires : goal.add-requires
unfolding no-charge
add-requires g c =
    let cs = c.args.charges.now in
    let i = c.loop-charge.charge-index in
    let lt = c.loop-charge-test.true in
    let here = get_or_default cs i no-charge (get_or cs i no-charge) lt in
    let p = positive-yes cs i (get_or cs i no-charge) here lt c.if-charge-gt0.true in
    let so = issuing-room (book_of c.loop-charge.self) _ c.args.due_day (drop i cs) c.loop-charge.invariant in
    let whole = issuing-room (book_of c.args.self.now) _ c.args.due_day cs refl in
    let book = c.args.self.now in
    (omega arith, (c.if-charge-gt0.true, (omega (arith, p, so.0, whole.0, book.list.ok.0, book.few, c.positive_in-count.ensures.value), omega (arith, p, so.1, whole.1, c.positive_in-count.ensures.value))))

pub loop-charge-preserved : goal.loop-charge-preserved
unfolding no-charge
loop-charge-preserved g c =
    let cs = c.args.charges.now in
    let i = c.loop-charge.charge-index in
    let due = c.args.due_day in
    let lt = c.loop-charge-test.true in
    let here = get_or_default cs i no-charge (get_or cs i no-charge) lt in
    let whole = after_issue (book_of c.args.self.now) due cs in
    let Step : Receivables g.row.PLACES → Type 0 = λ r. after_issue (book_of r) due (drop (i + 1) cs) ≡ whole in
    elim c.if-charge-gt0.branch [
      | then-charge-gt0 w ↦ subst Step (sym w.self-is) (issuing-yes cs i (get_or cs i no-charge) here lt (book_of c.loop-charge.self) _ due whole w.if-charge-gt0.true c.loop-charge.invariant w.add.ensures)
      | else-charge-gt0 w ↦ subst Step (sym w.self-is) (issuing-no cs i (get_or cs i no-charge) here lt (book_of c.loop-charge.self) due whole w.if-charge-gt0.false c.loop-charge.invariant)
    ]
