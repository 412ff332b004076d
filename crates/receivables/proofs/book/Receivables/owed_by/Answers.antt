use Rattle.std.proofs.Common.{◌^◌, ◌<◌, vec_items, sym, subst}
use Rattle.receivables.specs.Invoices.{balances}
use Rattle.receivables.proofs.Lists.{lists}
use Rattle.receivables.proofs.Owed.{balances-fit}
use Rattle.receivables.proofs.book.Receivables.owed_by.Goals as goal

pub owed_in-requires : goal.owed_in-requires
owed_in-requires g c =
    let r = c.args.self.now in
    subst (λ vs. balances vs < 2 ^ 64) (sym c.as_slice.ensures.value) (balances-fit 1 r.next (vec_items r.list) r.numbered (lists 1 r.next (vec_items r.list) r.sound))
