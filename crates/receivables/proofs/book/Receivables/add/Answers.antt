use Rattle.std.proofs.Common.{◌+◌, vec_items, refl, ap, ◌∙◌, arith}
use Rattle.receivables.specs.Issued.{issued}
use Rattle.receivables.specs.Listed.{listed}
use Rattle.receivables.proofs.Lists.{Standing, lists, unlists, listed-push}
use Rattle.receivables.proofs.book.Receivables.add.Goals as goal

pub invariant_of-self-clause-sound : goal.invariant_of-self-clause-sound
invariant_of-self-clause-sound g c =
    let book = c.args.self.now in
    let e = c.push_reserved.ensures in
    let v = issued book.next c.args.due_day c.args.charge in
    let stands : Standing v = record { more = c.requires.some; small = omega arith; here = refl } in
    let items = rw c.from.ensures at e.items in
    ap (listed 1 (book.next + 1)) items ∙ unlists 1 (book.next + 1) _ (listed-push 1 book.next (vec_items book.list) v refl stands (lists 1 book.next (vec_items book.list) book.sound))
