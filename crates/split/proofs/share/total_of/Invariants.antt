use Rattle.std.proofs.Common.{◌≡◌, ◌+◌, ◌≤◌, drop, sum}
use Rattle.split.proofs.share.total_of.Given as goal

abbrev pub invariant-loop-a : goal.invariant-loop-a
invariant-loop-a l = (l.all + sum (drop l.a-index l.activities) ≡ sum l.activities) × (l.all ≤ 8000000000)
