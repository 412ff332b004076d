use Rattle.std.proofs.Common.{sym, ap, arith}
use Rattle.std.proofs.lemmas.List.{get_or_past}
use Rattle.std.proofs.lemmas.Bool.{lt-ltb, le-ltb}
use Rattle.foundation.specs.Counting.{one_if}
use Rattle.split.specs.Split.{ahead, leftover, charges}
use Rattle.split.proofs.Fairness.{charges-at, charges-long, charge-is}
use Rattle.split.proofs.Summed.{whole-at}
use Rattle.split.proofs.share.Sharing.charge_at.Goals as goal

pub returns-then-i-self : goal.returns-then-i-self
returns-then-i-self c =
    let s = c.args.self.now in
    sym (get_or_past (charges s.amount s.activities.now) c.args.i 0 (omega (arith, charges-long s.amount s.activities.now)))

pub returns-then-ahead_of-left : goal.returns-then-ahead_of-left
returns-then-ahead_of-left c =
    let s = c.args.self.now in
    let xs = s.activities.now in
    let i = c.args.i in
    let here = whole-at s.amount xs s.all i _ s.summed c.exact_share-whole.ensures.whole in
    omega (arith, here, charges-at s.amount xs i (omega arith), charge-is s.amount xs i, ap one_if (lt-ltb (ahead s.amount xs i) (leftover s.amount xs) (omega (arith, c.requires))))

pub returns-else-ahead_of-left : goal.returns-else-ahead_of-left
returns-else-ahead_of-left c =
    let s = c.args.self.now in
    let xs = s.activities.now in
    let i = c.args.i in
    let here = whole-at s.amount xs s.all i _ s.summed c.exact_share-whole.ensures.whole in
    omega (arith, here, charges-at s.amount xs i (omega arith), charge-is s.amount xs i, ap one_if (le-ltb (ahead s.amount xs i) (leftover s.amount xs) (omega (arith, c.requires))))
