use Rattle.std.proofs.Common.{refl}
use Rattle.records.specs.declared.determinant.Determinant.TheVariants.{Opt, Daobl, Opts, Obls}
use Rattle.records.specs.declared.determinant.Group.TheVariants.{CongestionRights}
use Rattle.activity.specs.Rows.{sums_of}
use Rattle.activity.proofs.Values.{quadruple, apart, rights}
use Rattle.activity.proofs.row.Row.congestion_rights.Goals as goal

pub returns : goal.returns
returns c =
    quadruple CongestionRights CongestionRights (sums_of c.args.self.now) refl Opt Daobl Opts Obls _ _ _ _ _ _ _ (rights _)
    c.counted.ensures c.counted-2.ensures c.counted-3.ensures c.counted-4.ensures c.plus-owned.ensures c.plus-sold.ensures c.plus.ensures
    (λ _. ((apart Opt refl, apart Daobl refl), (apart Opts refl, apart Obls refl)))
