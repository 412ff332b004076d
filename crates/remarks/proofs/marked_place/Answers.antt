use Rattle.std.proofs.Common.{rules, ◌≡◌, true, false, length}
use borrow.Author.Tests.{tests}
use Rattle.std.proofs.lemmas.Iterator.{first_from_Range}
use Rattle.foundation.proofs.Firsts.{first-answer}
use Rattle.remarks.specs.Remarks.{is_marked}
use Rattle.remarks.proofs.Searches.{first-place, whole-rest}
use Rattle.remarks.proofs.marked_place.Goals as goal

pub returns : goal.returns
returns c =
    let p = is_marked c.args.remark.now in
    let n = length c.args.remark.now in
    first-answer p n c.find.result (first-place p n c.find.result (first_from_Range _ _ _ c.find.result (λ x. p x ≡ true) (λ x. p x ≡ false) c.find.ensures.ran (λ x q k. search (rules, tests, whole-rest)) (λ x q k. search (rules, tests, whole-rest))))
