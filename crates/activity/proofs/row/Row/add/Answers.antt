use Rattle.std.proofs.Common.{◌≡◌, ◌<◌, true, false, List, length, ℤ, refl, ap, ◌∙◌, arith, w32, SFits}
use lib.Signed.{non_neg}
use Rattle.std.proofs.lemmas.List.{map-set, length-map, length-set}
use Rattle.std.proofs.lemmas.Result.{err_from_is_err_and}
use Rattle.std.proofs.lemmas.Int.{to_z-of_z}
use Rattle.activity.specs.declared.row.place.Place.TheVariants.{Energy, Interval}
use Rattle.activity.specs.Rows.{kept_in, in_order}
use Rattle.activity.specs.Signs.{energy_signed, interval_signed}
use Rattle.activity.proofs.Adds.{kept-read, refused, taken, kept-added, sign_kept, set-each}
use Rattle.activity.proofs.row.Row.add.Goals as goal

pub returns-in_err-self-in-Energy : goal.returns-in_err-self-in-Energy
returns-in_err-self-in-Energy c =
    let row = c.args.self.now in
    let k = c.in-Energy.k in
    let q = c.args.quantity in
    let fits : SFits w32 q = c.ranges.quantity in
    let lt : k < length row.energy = omega (arith, row.thirteen, c.in-Energy.ensures.within) in
    let here = c.in-Energy.ensures.value in
    let read = kept-read row.energy k c.index-self-k.result lt in
    let e = simp to_z-of_z at c.in_err-self-in-Energy.ensures in
    let p = err_from_is_err_and c.from_residual.result c.from_residual.ensures.1 in
    rw (p.1, p.2) (record { answer = refused (kept_in row) (Energy k) c.args.determinant _ q here read _ e; sums = refl })

pub invariant_of-self : goal.invariant_of-self
invariant_of-self c =
    let row = c.args.self.now in
    let k = c.in-Energy.k in
    let q = c.args.quantity in
    let fits : SFits w32 q = c.ranges.quantity in
    let lt : k < length row.energy = omega (arith, row.thirteen, c.in-Energy.ensures.within) in
    let here = c.in-Energy.ensures.value in
    let read = kept-read row.energy k c.index-self-k.result lt in
    let e = simp to_z-of_z at c.in_ok-self-in-Energy.ensures in
    let signs = set-each (λ e. e.sum) (λ n z. energy_signed n ≡ false → non_neg z ≡ true) row.energy k c.in_ok-self-in-Energy.field-0 row.energy_signs (sign_kept (Energy k) c.args.determinant _ q _ here c.requires e (λ off. ap non_neg read ∙ row.energy_signs k off)) in
    record { thirteen = length-set row.energy k _ ∙ row.thirteen; three = row.three; energy_signs = signs; interval_signs = row.interval_signs }

pub returns-in_ok-self-in-Energy : goal.returns-in_ok-self-in-Energy
returns-in_ok-self-in-Energy c =
    let row = c.args.self.now in
    let k = c.in-Energy.k in
    let q = c.args.quantity in
    let fits : SFits w32 q = c.ranges.quantity in
    let lt : k < length row.energy = omega (arith, row.thirteen, c.in-Energy.ensures.within) in
    let here = c.in-Energy.ensures.value in
    let read = kept-read row.energy k c.index-self-k.result lt in
    let e = simp to_z-of_z at c.in_ok-self-in-Energy.ensures in
    record {
      answer = taken (kept_in row) (Energy k) c.args.determinant _ q here read _ e;
      sums = ap (λ (zs : List ℤ). in_order (record { energy = zs; intervals = (kept_in row).intervals })) (map-set (λ e. e.sum) row.energy k _)
          ∙ kept-added (kept_in row) (Energy k) c.args.determinant _ q here read (length-map row.energy (λ e. e.sum) ∙ row.thirteen) (length-map row.intervals (λ i. i.sum) ∙ row.three) _ e;
    }

pub returns-in_err-self-in-Interval : goal.returns-in_err-self-in-Interval
returns-in_err-self-in-Interval c =
    let row = c.args.self.now in
    let k = c.in-Interval.k in
    let q = c.args.quantity in
    let fits : SFits w32 q = c.ranges.quantity in
    let lt : k < length row.intervals = omega (arith, row.three, c.in-Interval.ensures.within) in
    let here = c.in-Interval.ensures.value in
    let read = kept-read row.intervals k c.index-self-k-in-Interval.result lt in
    let e = simp to_z-of_z at c.in_err-self-in-Interval.ensures in
    let p = err_from_is_err_and c.from_residual-in_err-self-in-Interval.result c.from_residual-in_err-self-in-Interval.ensures.1 in
    rw (p.1, p.2) (record { answer = refused (kept_in row) (Interval k) c.args.determinant _ q here read _ e; sums = refl })

pub invariant_of-self-in-Interval : goal.invariant_of-self-in-Interval
invariant_of-self-in-Interval c =
    let row = c.args.self.now in
    let k = c.in-Interval.k in
    let q = c.args.quantity in
    let fits : SFits w32 q = c.ranges.quantity in
    let lt : k < length row.intervals = omega (arith, row.three, c.in-Interval.ensures.within) in
    let here = c.in-Interval.ensures.value in
    let read = kept-read row.intervals k c.index-self-k-in-Interval.result lt in
    let e = simp to_z-of_z at c.in_ok-self-in-Interval.ensures in
    let signs = set-each (λ i. i.sum) (λ n z. interval_signed n ≡ false → non_neg z ≡ true) row.intervals k c.in_ok-self-in-Interval.field-0 row.interval_signs (sign_kept (Interval k) c.args.determinant _ q _ here c.requires e (λ off. ap non_neg read ∙ row.interval_signs k off)) in
    record { thirteen = row.thirteen; three = length-set row.intervals k _ ∙ row.three; energy_signs = row.energy_signs; interval_signs = signs }

pub returns-in_ok-self-in-Interval : goal.returns-in_ok-self-in-Interval
returns-in_ok-self-in-Interval c =
    let row = c.args.self.now in
    let k = c.in-Interval.k in
    let q = c.args.quantity in
    let fits : SFits w32 q = c.ranges.quantity in
    let lt : k < length row.intervals = omega (arith, row.three, c.in-Interval.ensures.within) in
    let here = c.in-Interval.ensures.value in
    let read = kept-read row.intervals k c.index-self-k-in-Interval.result lt in
    let e = simp to_z-of_z at c.in_ok-self-in-Interval.ensures in
    record {
      answer = taken (kept_in row) (Interval k) c.args.determinant _ q here read _ e;
      sums = ap (λ (zs : List ℤ). in_order (record { energy = (kept_in row).energy; intervals = zs })) (map-set (λ i. i.sum) row.intervals k _)
          ∙ kept-added (kept_in row) (Interval k) c.args.determinant _ q here read (length-map row.energy (λ e. e.sum) ∙ row.thirteen) (length-map row.intervals (λ i. i.sum) ∙ row.three) _ e;
    }
