use Rattle.std.proofs.Common.{◌≡◌, false, take}
use Rattle.calendar.specs.Calendars.{is_listed}
use Rattle.calendar.proofs.weekly.listed.Listed.contains.Given as goal

abbrev pub invariant-loop-i : goal.invariant-loop-i
invariant-loop-i l = is_listed (take l.i l.self.days) l.day ≡ false
