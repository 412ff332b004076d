use Rattle.std.proofs.Common.{◌≡◌, length, take}
use Rattle.calendar.proofs.weekly.listed.Listed.new.Given as goal

abbrev pub invariant-loop-i : goal.invariant-loop-i
invariant-loop-i l = (take l.i l.days ≡ take l.i l.list) × (length l.days ≡ 16)
