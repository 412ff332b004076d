use Rattle.std.proofs.Common.{length, sym, arith}
use Rattle.std.proofs.lemmas.List.FromFn.{fill_by_all}
use Rattle.std.proofs.lemmas.Bool.{cond-true}
use Rattle.activity.specs.Activity.{activity}
use Rattle.activity.specs.Tables.{meaning}
use Rattle.activity.proofs.table.Table.activities.Goals as goal

pub returns : goal.returns
returns c = record {
  answer = sym (cond-true _ _ _ (sym c.if-not-carries.ensures));
  activities = fill_by_all (activity (meaning c.args.self.now).rows c.args.parties.now) c.loop-i.out (length c.args.out.now) 0 (omega arith) (λ k h. c.loop-i.invariant k (omega arith));
}
