use Rattle.std.proofs.Common.{◌≡◌, length, ap, arith}
use Rattle.foundation.specs.Counting.{total}
use Rattle.foundation.proofs.Totals.{total-more}
use Rattle.split.specs.Split.{leftover, whole_part}
use Rattle.split.proofs.Shares.{front-more}
use Rattle.split.proofs.Summed.{whole-at}
use Rattle.split.proofs.share.Sharing.leftover.Goals as goal

pub overflow_sub-left : goal.overflow_sub-left
overflow_sub-left c =
    let s = c.args.self.now in
    let xs = s.activities.now in
    let here = whole-at s.amount xs s.all c.loop-a.a-index _ s.summed c.exact_share-whole.ensures.whole in
    omega (arith, here, total-more (whole_part s.amount xs) c.loop-a.a-index, front-more s.amount xs (omega (arith, s.active, s.summed)) c.loop-a.a-index (omega arith))

pub loop-a-preserved : goal.loop-a-preserved
loop-a-preserved c =
    let s = c.args.self.now in
    let xs = s.activities.now in
    let here = whole-at s.amount xs s.all c.loop-a.a-index _ s.summed c.exact_share-whole.ensures.whole in
    omega (arith, here, total-more (whole_part s.amount xs) c.loop-a.a-index, front-more s.amount xs (omega (arith, s.active, s.summed)) c.loop-a.a-index (omega arith))

pub returns : goal.returns
unfolding leftover
returns c =
    let s = c.args.self.now in
    let e : c.loop-a.a-index ≡ length s.activities.now = omega arith in
    omega (arith, ap (total (whole_part s.amount s.activities.now)) e)
