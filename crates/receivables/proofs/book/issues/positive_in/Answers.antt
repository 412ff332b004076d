use Rattle.std.proofs.Common.{rules, ◌≡◌, ◌^◌, ◌-◌, ◌≤◌, length, ltb, arith, ◌∙◌}
use borrow.Author.Tests.{tests}
use Rattle.std.specs.List.{count_by}
use Rattle.std.proofs.iter.runs.Made.{chains}
use Rattle.std.proofs.lemmas.Iterator.{YieldsList-from_slice}
use Rattle.std.proofs.lemmas.Iterator.Adapters.{fits_from_length, at_most_from_yields_List}
use Rattle.std.proofs.lemmas.List.Sums.{count_by-le-length}
use Rattle.receivables.proofs.Issues.{positive-count}
use Rattle.receivables.proofs.book.issues.positive_in.Goals as goal

-- fewer charges than numbers, each counted once at most
pub sum-requires-clause-fits : goal.sum-requires-clause-fits
sum-requires-clause-fits c =
    let few : length c.args.charges.now ≤ 2 ^ 64 - 1 = omega arith in
    fits_from_length _ _ (2 ^ 64 - 1) (2 ^ 64) (at_most_from_yields_List (YieldsList-from_slice c.args.charges.now cc) few) c.map.ensures.closure (omega arith) (λ x r q k. search (rules, tests))

pub returns : goal.returns
returns c =
    let counted : c.sum.result ≡ count_by (λ charge. ltb 0 charge.cents) c.args.charges.now = search (rules, chains) in
    record {
      value = counted ∙ positive-count c.args.charges.now;
      few = omega (arith, counted, count_by-le-length (λ charge. ltb 0 charge.cents) c.args.charges.now);
    }
