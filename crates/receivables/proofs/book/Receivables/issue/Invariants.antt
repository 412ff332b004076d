use Rattle.std.proofs.Common.{◌≡◌, drop}
use Rattle.receivables.specs.Books.{book_of}
use Rattle.receivables.specs.Issued.{after_issue}
use Rattle.receivables.proofs.book.Receivables.issue.Given as goal

abbrev pub invariant-loop-charge : goal.invariant-loop-charge
invariant-loop-charge g l = after_issue (book_of l.self) l.due_day (drop l.charge-index l.charges) ≡ after_issue (book_of l.initial.self) l.due_day l.charges
