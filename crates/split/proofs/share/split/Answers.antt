use Rattle.std.proofs.Common.{length, get_or, ap, ◌∙◌, arith}
use Rattle.std.proofs.lemmas.List.FromFn.{fill_by_all}
use Rattle.split.specs.Split.{charges, laid_out}
use Rattle.split.proofs.Fairness.{fair}
use Rattle.split.proofs.Summed.{accepted}
use Rattle.split.proofs.share.split.Goals as goal

pub returns-clause-charged : goal.returns-clause-charged
unfolding laid_out
returns-clause-charged c =
    let xs = c.args.activities.now in
    fill_by_all (λ k. get_or (charges c.cents-amount.result xs) k 0) c.loop-i.out (length c.args.out.now) 0 (omega arith) (λ k h. c.loop-i.invariant k (omega arith))
    ∙ ap (λ n. laid_out (charges n xs) (length c.args.out.now)) c.cents-amount.ensures

pub returns-clause-fair : goal.returns-clause-fair
returns-clause-fair c =
    let a = c.args.amount in
    fair a.cents c.args.activities.now (accepted a.cents c.args.activities.now c.in_ok-all.all a.some a.fits c.in_ok-all.ensures).1
