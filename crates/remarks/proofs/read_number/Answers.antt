use Rattle.std.proofs.Common.{get_or, sym, ◌∙◌, arith}
use Rattle.remarks.proofs.Readings.{digit-range, read_fits}
use Rattle.remarks.proofs.read_number.Goals as goal

pub overflow_mul-number : goal.overflow_mul-number
overflow_mul-number c = omega (arith, read_fits c.args.digits.most c.args.text.now c.loop-i.i c.loop-i.number c.loop-i.invariant c.args.digits.fits (λ e. c.if-i-most.false (e ∙ sym c.most-most.ensures)))

pub overflow_add-number : goal.overflow_add-number
overflow_add-number c =
    let r = digit-range (get_or c.args.text.now c.loop-i.i 0) (sym c.is_ascii_digit.ensures.value ∙ c.if-not-is_ascii_digit.false) in
    omega (arith, r.0, r.1, read_fits c.args.digits.most c.args.text.now c.loop-i.i c.loop-i.number c.loop-i.invariant c.args.digits.fits (λ e. c.if-i-most.false (e ∙ sym c.most-most.ensures)))
