-- What the weekly calendar's struct means. Assumes nothing.
use Rattle.std.specs.Prelude.{ℕ, List, take}
use Rattle.calendar.specs.declared.weekly.listed.Listed.{Listed}
use Rattle.calendar.specs.declared.weekly.Weekly.{Weekly}
use Rattle.calendar.specs.Meaning.{CalendarMeaning}
use Rattle.calendar.specs.Calendars.{weekly}

abbrev pub days_of : Listed → List ℕ
days_of l = take l.count l.days

abbrev pub meaning_of : Weekly → CalendarMeaning
meaning_of w = weekly (days_of w.no_bank_days) (days_of w.no_business_days)
