use Rattle.std.proofs.Common.{◌+◌, ◌≤◌, None, Some, length, sym, ap, ◌∙◌, arith, drop-drop, rules}
use Rattle.remarks.specs.Digits.{most_of}
use Rattle.remarks.specs.Remarks.{read_number}
use Rattle.remarks.proofs.Searches.{law-of, too_long, read_from, place-within, whole-rest}
use Rattle.remarks.proofs.invoice_number.Goals as goal

pub returns-then-remark-gt-LONGEST : goal.returns-then-remark-gt-LONGEST
returns-then-remark-gt-LONGEST c =
    let rule = too_long (most_of c.args.digits) c.args.remark.now (omega arith) in
    record { rule = rule; law = law-of (most_of c.args.digits) c.args.remark.now _ rule }

pub returns-in_err-place : goal.returns-in_err-place
returns-in_err-place c =
    let most = most_of c.args.digits in
    let rule = c.from_residual.ensures ∙ read_from most c.args.remark.now (omega arith) None c.in_err-place.ensures in
    record { rule = rule; law = law-of most c.args.remark.now _ rule }

pub overflow_add-place : goal.overflow_add-place
overflow_add-place c = omega (arith, place-within c.args.remark.now c.in_ok-place.place c.in_ok-place.ensures)

pub slice_bounds-read_number-count : goal.slice_bounds-read_number-count
slice_bounds-read_number-count c = omega (arith, place-within c.args.remark.now c.in_ok-place.place c.in_ok-place.ensures)

pub slice_bounds-read_number-start : goal.slice_bounds-read_number-start
slice_bounds-read_number-start c =
    let on = place-within c.args.remark.now c.in_ok-place.place c.in_ok-place.ensures in
    let h : c.in_ok-place.place + 3 ≤ length c.args.remark.now = omega arith in
    search rules

pub returns : goal.returns
returns c =
    let remark = c.args.remark.now in
    let place = c.in_ok-place.place in
    let most = most_of c.args.digits in
    let read = c.read_number.ensures ∙ ap (read_number most) (whole-rest remark (place + 3) ∙ sym (drop-drop 3 place remark)) in
    let rule = read ∙ read_from most remark (omega arith) (Some place) c.in_ok-place.ensures in
    record { rule = rule; law = law-of most remark _ rule }
