use Rattle.std.proofs.Common.{◌≡◌}
use Rattle.foundation.specs.Counting.{count}
use Rattle.split.specs.Split.{comes_first, remainder}
use Rattle.split.proofs.share.Sharing.ahead_of.Given as goal

abbrev pub invariant-loop-j : goal.invariant-loop-j
invariant-loop-j l =
    let r = remainder l.self.amount l.self.activities.now in
    l.before ≡ count (λ j. comes_first (r j) j (r l.i) l.i) l.j
