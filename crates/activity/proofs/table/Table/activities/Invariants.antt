use Rattle.std.proofs.Common.{◌≡◌, ℕ, ◌<◌, get_or}
use Rattle.activity.specs.Activity.{activity}
use Rattle.activity.specs.Tables.{meaning}
use Rattle.activity.proofs.table.Table.activities.Given as goal

abbrev pub invariant-loop-i : goal.invariant-loop-i
invariant-loop-i l = (k : ℕ) → k < l.i → get_or l.out k 0 ≡ activity (meaning l.self).rows l.parties k
