use Rattle.std.proofs.Common.{refl}
use Rattle.records.specs.declared.determinant.Determinant.TheVariants.{Rtmg, Rtdcimp, Rtamlexsecm, Mebl, Rtqqes, Rtqqep, Daes, Daep, Rtobl, Rtobllo, Optp, Oblp}
use Rattle.records.specs.declared.determinant.Group.TheVariants.{Generation, Load, Sales, Purchases, DayAheadSales, DayAheadPurchases, RealTimeObligations, CongestionRightPurchases}
use Rattle.activity.specs.Rows.{sums_of}
use Rattle.activity.proofs.Values.{single, pair, apart, generation, load, sales, purchases, day-ahead-sales, day-ahead-purchases, obligations, right-purchases}
use Rattle.activity.proofs.row.Row.value.Goals as goal

pub returns-in-Generation : goal.returns-in-Generation
returns-in-Generation c =
    pair c.args.group Generation (sums_of c.args.self.now) c.in-Generation.is Rtmg Rtdcimp _ _ _ (generation _) c.counted.ensures c.counted-in-Generation.ensures c.plus.ensures (λ _. (apart Rtmg refl, apart Rtdcimp refl))

pub returns-in-Load : goal.returns-in-Load
returns-in-Load c =
    pair c.args.group Load (sums_of c.args.self.now) c.in-Load.is Rtamlexsecm Mebl _ _ _ (load _) c.counted-in-Load.ensures c.counted-in-Load-2.ensures c.plus-in-Load.ensures (λ other. absurd (other c.in-Load.is))

pub returns-in-Sales : goal.returns-in-Sales
returns-in-Sales c =
    single c.args.group Sales (sums_of c.args.self.now) c.in-Sales.is Rtqqes _ (sales _) c.counted-in-Sales.ensures (apart Rtqqes refl)

pub returns-in-Purchases : goal.returns-in-Purchases
returns-in-Purchases c =
    single c.args.group Purchases (sums_of c.args.self.now) c.in-Purchases.is Rtqqep _ (purchases _) c.counted-in-Purchases.ensures (apart Rtqqep refl)

pub returns-in-DayAheadSales : goal.returns-in-DayAheadSales
returns-in-DayAheadSales c =
    single c.args.group DayAheadSales (sums_of c.args.self.now) c.in-DayAheadSales.is Daes _ (day-ahead-sales _) c.counted-in-DayAheadSales.ensures (apart Daes refl)

pub returns-in-DayAheadPurchases : goal.returns-in-DayAheadPurchases
returns-in-DayAheadPurchases c =
    single c.args.group DayAheadPurchases (sums_of c.args.self.now) c.in-DayAheadPurchases.is Daep _ (day-ahead-purchases _) c.counted-in-DayAheadPurchases.ensures (apart Daep refl)

pub returns-in-RealTimeObligations : goal.returns-in-RealTimeObligations
returns-in-RealTimeObligations c =
    pair c.args.group RealTimeObligations (sums_of c.args.self.now) c.in-RealTimeObligations.is Rtobl Rtobllo _ _ _ (obligations _) c.counted-in-RealTimeObligations.ensures c.counted-in-RealTimeObligations-2.ensures c.plus-in-RealTimeObligations.ensures (λ _. (apart Rtobl refl, apart Rtobllo refl))

pub returns-in-CongestionRightPurchases : goal.returns-in-CongestionRightPurchases
returns-in-CongestionRightPurchases c =
    pair c.args.group CongestionRightPurchases (sums_of c.args.self.now) c.in-CongestionRightPurchases.is Optp Oblp _ _ _ (right-purchases _) c.counted-in-CongestionRightPurchases.ensures c.counted-in-CongestionRightPurchases-2.ensures c.plus-in-CongestionRightPurchases.ensures (λ _. (apart Optp refl, apart Oblp refl))
