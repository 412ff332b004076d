use Rattle.std.proofs.Common.{rules, eqb, ◌∙◌}
use borrow.Author.Tests.{tests}
use Rattle.std.proofs.lemmas.Iterator.{YieldsList-from_slice}
use Rattle.std.proofs.lemmas.Iterator.Search.{position_from_yields_List}
use Rattle.ledger.proofs.Places.{place-found}
use Rattle.ledger.proofs.registry.calls.place_of.Goals as goal

pub returns : goal.returns
returns c =
    let table = c.args.table.now in
    position_from_yields_List (λ x. eqb x c.args.number) _ _ c.position.result c.position.ensures.ran (YieldsList-from_slice table c.iter.ensures.rest) (λ x b q k. search (rules, tests))
    ∙ place-found table c.args.number
