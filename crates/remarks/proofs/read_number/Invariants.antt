use Rattle.remarks.proofs.Readings.{Reading}
use Rattle.remarks.proofs.read_number.Given as goal

abbrev pub invariant-loop-i : goal.invariant-loop-i
invariant-loop-i l = Reading l.fn.digits.most l.text l.i l.number
