use Rattle.std.proofs.Common.{◌≡◌, ℕ, ◌+◌, true, Some, sym, ap, ◌∙◌, subst, arith}
use Rattle.calendar.specs.Due.{span}
use Rattle.calendar.proofs.Dues.{SoFar, hit, no-bank, early, no-business, at_most, none-due, law-of}
use Rattle.calendar.proofs.due.due_day.Goals as goal
use Rattle.calendar.proofs.due.due_day.Goals.{then-is_bank_business_day+else-bank_days-ge-FIFTH, else-bank_days-ge-FIFTH-via-then-bank_days-ge-FIFTH+else-is_business_day, else-bank_days-ge-FIFTH-via-else-bank_days-ge-FIFTH, else-is_bank_business_day}

pub overflow_add-bank_days : goal.overflow_add-bank_days
overflow_add-bank_days g c = omega (arith, at_most (g.C.Calendar.meaning c.args.calendar.now) c.args.invoice_day c.loop-after.after c.loop-after.bank_days c.loop-after.invariant)

pub returns-then-is_business_day : goal.returns-then-is_business_day
returns-then-is_business_day g c =
    let m = g.C.Calendar.meaning c.args.calendar.now in
    let found = hit m c.args.invoice_day c.loop-after.after c.loop-after.bank_days c.loop-after.invariant (omega arith) (sym c.is_bank_business_day.ensures ∙ c.if-is_bank_business_day.true) (omega arith) (sym c.is_business_day.ensures ∙ c.if-is_business_day.true) in
    let rule = ap Some (omega arith) ∙ found in
    record { rule = rule; law = law-of m c.args.invoice_day _ rule }

pub loop-after-preserved : goal.loop-after-preserved
loop-after-preserved g c =
    let m = g.C.Calendar.meaning c.args.calendar.now in
    let P : ℕ → Type 0 = λ n. SoFar m c.args.invoice_day (c.loop-after.after + 1) n in
    elim c.if-is_bank_business_day.branch [
      | then-is_bank_business_day+else-bank_days-ge-FIFTH w ↦
          (let bank : m.bank (c.args.invoice_day + c.loop-after.after + 1) ≡ true = sym c.is_bank_business_day.ensures ∙ w.if-is_bank_business_day.true in
          subst P (sym w.bank_days-is) (elim w.else-bank_days-ge-FIFTH.branch [
            | else-bank_days-ge-FIFTH-via-then-bank_days-ge-FIFTH+else-is_business_day w' ↦
                no-business m c.args.invoice_day c.loop-after.after c.loop-after.bank_days c.loop-after.invariant bank (sym w'.is_business_day.ensures ∙ w'.if-is_business_day.false)
            | else-bank_days-ge-FIFTH-via-else-bank_days-ge-FIFTH w' ↦
                early m c.args.invoice_day c.loop-after.after c.loop-after.bank_days c.loop-after.invariant bank (omega (arith, w'.if-bank_days-ge-FIFTH.false))
          ]))
      | else-is_bank_business_day w ↦
          subst P (sym w.bank_days-is) (no-bank m c.args.invoice_day c.loop-after.after c.loop-after.bank_days c.loop-after.invariant (sym c.is_bank_business_day.ensures ∙ w.if-is_bank_business_day.false))
    ]

pub returns : goal.returns
returns g c =
    let m = g.C.Calendar.meaning c.args.calendar.now in
    let e : c.loop-after.after ≡ span c.args.invoice_day = omega arith in
    let rule = none-due m c.args.invoice_day c.loop-after.after c.loop-after.bank_days c.loop-after.invariant e in
    record { rule = rule; law = law-of m c.args.invoice_day _ rule }
