use Rattle.std.proofs.Common.{take}
use Rattle.records.specs.Determinants.{groups}
use Rattle.activity.specs.Activity.{group_value}
use Rattle.activity.specs.Tables.{meaning}
use Rattle.activity.proofs.Activities.{Top}
use Rattle.activity.proofs.table.Table.activity.Given as goal

abbrev pub invariant-loop-group : goal.invariant-loop-group
invariant-loop-group l = Top (group_value (meaning l.self).rows l.parties l.party) (take l.group-index groups) l.top
