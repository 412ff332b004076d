use Rattle.std.proofs.Common.{◌≡◌, ◌+◌}
use Rattle.foundation.specs.Counting.{total}
use Rattle.split.specs.Split.{whole_part}
use Rattle.split.proofs.share.Sharing.leftover.Given as goal

abbrev pub invariant-loop-a : goal.invariant-loop-a
invariant-loop-a l = l.left + total (whole_part l.self.amount l.self.activities.now) l.a-index ≡ l.self.amount
