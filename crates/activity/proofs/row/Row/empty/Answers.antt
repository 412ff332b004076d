use Rattle.activity.specs.Rows.{in_order}
use Rattle.activity.proofs.row.Row.empty.Goals as goal

pub returns : goal.returns
unfolding in_order
returns c = cc
