use Rattle.std.proofs.Common.{◌≡◌, length, sym, ap, ◌∙◌, arith}
use Rattle.foundation.specs.Counting.{count, one_if}
use Rattle.foundation.proofs.Totals.{count-more, count-few}
use Rattle.split.specs.Split.{ahead, comes_first, remainder}
use Rattle.split.proofs.Summed.{rest_at}
use Rattle.split.proofs.share.Sharing.ahead_of.Goals as goal
use Rattle.split.proofs.share.Sharing.ahead_of.Goals.{then-comes_first, else-comes_first}

pub overflow_add-before : goal.overflow_add-before
overflow_add-before c =
    let r = remainder c.args.self.now.amount c.args.self.now.activities.now in
    omega (arith, count-few (λ j. comes_first (r j) j (r c.args.i) c.args.i) c.loop-j.j)

pub loop-j-preserved : goal.loop-j-preserved
loop-j-preserved c =
    let s = c.args.self.now in
    let xs = s.activities.now in
    let r = remainder s.amount xs in
    let theirs = rest_at s.amount xs s.all c.loop-j.j _ s.summed c.exact_share-theirs.ensures.rest in
    let mine = rest_at s.amount xs s.all c.args.i _ s.summed c.exact_share-mine.ensures.rest in
    let test : c.comes_first.result ≡ comes_first (r c.loop-j.j) c.loop-j.j (r c.args.i) c.args.i =
    c.comes_first.ensures ∙ ap (λ z. comes_first z c.loop-j.j c.exact_share-mine.result.1 c.args.i) theirs ∙ ap (λ z. comes_first (r c.loop-j.j) c.loop-j.j z c.args.i) mine in
    let more = count-more (λ j. comes_first (r j) j (r c.args.i) c.args.i) c.loop-j.j in
    elim c.if-comes_first.branch [
      | then-comes_first w ↦ omega (arith, w.before-is, more, ap one_if (sym test ∙ w.if-comes_first.true))
      | else-comes_first w ↦ omega (arith, w.before-is, more, ap one_if (sym test ∙ w.if-comes_first.false))
    ]

pub returns : goal.returns
unfolding ahead
returns c =
    let xs = c.args.self.now.activities.now in
    let r = remainder c.args.self.now.amount xs in
    let e : c.loop-j.j ≡ length xs = omega arith in
    c.loop-j.invariant ∙ ap (count (λ j. comes_first (r j) j (r c.args.i) c.args.i)) e
