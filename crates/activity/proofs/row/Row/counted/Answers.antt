use Rattle.std.proofs.Common.{◌<◌, length, get_or, pos, neg_ℤ, refl, ap, ◌∙◌, arith}
use lib.Signed.{non_neg}
use Rattle.std.specs.Int.{int_max}
use Rattle.activity.specs.declared.row.place.Place.TheVariants.{Energy, Interval}
use Rattle.records.specs.Determinants.{facts, plain, clipped, reversed}
use Rattle.activity.specs.Rows.{kept_in}
use Rattle.activity.specs.Units.{sum_in}
use Rattle.activity.proofs.Adds.{kept-read}
use Rattle.activity.proofs.Values.{interval-plain, rest_plain, sum-counts, clipped-natural, non_neg-le}
use Rattle.activity.proofs.row.Row.counted.Goals as goal

pub returns-in-Interval : goal.returns-in-Interval
returns-in-Interval c =
    let row = c.args.self.now in
    let k = c.in-Interval.k in
    let here = c.in-Interval.ensures.value in
    let lt : k < length row.intervals = omega (arith, row.three, c.in-Interval.ensures.within) in
    let y = c.index-self-k.result in
    let read = kept-read row.intervals k y lt in
    sum-counts (kept_in row) (Interval k) c.args.determinant plain _ _ here (interval-plain _ _ here) (get_or row.intervals k y).within read c.quarters.ensures (λ _. non_neg-le _ (ap non_neg read ∙ row.interval_signs k refl))

pub returns-in-Rtamlexsecm : goal.returns-in-Rtamlexsecm
returns-in-Rtamlexsecm c =
    let row = c.args.self.now in
    let k = c.in-Energy.k in
    let lt : k < length row.energy = omega (arith, row.thirteen, c.in-Energy.ensures.within) in
    let read = kept-read row.energy k c.index-self-k-in-Rtamlexsecm.result lt in
    sum-counts (kept_in row) (Energy k) c.args.determinant clipped _ _ c.in-Energy.ensures.value (ap (λ d. (facts d).entry) c.in-Rtamlexsecm.is) c.clipped.result.within
    (c.clipped.ensures ∙ ap (int_max (pos 0)) read) c.quarters-in-Rtamlexsecm.ensures (λ _. clipped-natural (sum_in (get_or row.energy k c.index-self-k-in-Rtamlexsecm.result)) _ c.clipped.ensures)

pub returns-in-Mebl : goal.returns-in-Mebl
returns-in-Mebl c =
    let row = c.args.self.now in
    let k = c.in-Energy.k in
    let lt : k < length row.energy = omega (arith, row.thirteen, c.in-Energy.ensures.within) in
    let read = kept-read row.energy k c.index-self-k-in-Mebl.result lt in
    sum-counts (kept_in row) (Energy k) c.args.determinant reversed _ _ c.in-Energy.ensures.value (ap (λ d. (facts d).entry) c.in-Mebl.is) c.neg.result.within
    (c.neg.ensures ∙ ap neg_ℤ read) c.quarters-in-Mebl.ensures (λ other. absurd (other c.in-Mebl.is))

pub returns-in_default : goal.returns-in_default
returns-in_default c =
    let row = c.args.self.now in
    let k = c.in-Energy.k in
    let here = c.in-Energy.ensures.value in
    let lt : k < length row.energy = omega (arith, row.thirteen, c.in-Energy.ensures.within) in
    let y = c.index-self-k-in_default.result in
    let read = kept-read row.energy k y lt in
    let p = rest_plain c.args.determinant k here c.in_default.not-Rtamlexsecm c.in_default.not-Mebl in
    sum-counts (kept_in row) (Energy k) c.args.determinant plain _ _ here p.0 (get_or row.energy k y).within read c.quarters-in_default.ensures (λ _. non_neg-le _ (ap non_neg read ∙ row.energy_signs k p.1))
