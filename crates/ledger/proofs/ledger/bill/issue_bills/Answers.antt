use Rattle.std.proofs.Common.{ap, arith}
use Rattle.std.proofs.lemmas.Result.{err_from_is_err_and}
use Rattle.receivables.specs.Books.{book_of}
use Rattle.ledger.proofs.Bills.{no-places, placed, issued-book}
use Rattle.ledger.proofs.ledger.bill.issue_bills.Goals as goal

pub returns-in_err-issue : goal.returns-in_err-issue
returns-in_err-issue c =
    let b = book_of c.args.receivables.now in
    let e = c.in_err-issue.ensures in
    let p = err_from_is_err_and c.from_residual.result c.from_residual.ensures.1 in
    rw (p.1, p.2) (record { answer = no-places b c.args.parties.now c.args.charges.now.cents _ c.requires.few c.requires.numbers c.write_bills.ensures _ e.answer; book = e.book; next = omega (arith, ap (λ x. x.next) e.book) })

pub returns : goal.returns
returns c =
    let b = book_of c.args.receivables.now in
    let e = c.in_ok-issue.ensures in
    let i = issued-book b c.args.parties.now c.args.charges.now.cents _ c.requires.few c.requires.numbers c.write_bills.ensures _ c.args.due_day e.book in
    record { answer = placed b c.args.parties.now c.args.charges.now.cents _ c.requires.few c.requires.numbers c.write_bills.ensures _ e.answer; book = i.0; next = i.1 }
