use Rattle.std.proofs.Common.{◌≡◌}
use Rattle.records.specs.declared.determinant.Group.TheVariants.{Load}
use Rattle.activity.specs.Tables.{meaning}
use Rattle.activity.proofs.Activities.{SoFar}
use Rattle.activity.proofs.table.Table.group_value.Given as goal

abbrev pub invariant-loop-k : goal.invariant-loop-k
invariant-loop-k l = SoFar (meaning l.self).rows l.parties l.party l.group (l.group ≡ Load → ⊥) l.k l.sum.count
