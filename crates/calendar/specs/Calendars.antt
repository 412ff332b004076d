-- The weekly and the posted calendar. Assumes nothing.
use Rattle.std.specs.Prelude.{ℕ, ◌+◌, ◌-◌, ◌*◌, ◌/◌, ◌%◌, ◌^◌, Bool, false, cond, not, ◌&&◌, ◌||◌, List, [], ◌∷◌, ◌==◌, nat_le, nat_lt, slice_index}
use Rattle.calendar.specs.Meaning.{CalendarMeaning}

-- day 0 is a Wednesday, so day + 2 counts from a Monday
abbrev pub monday_to_friday : ℕ → Bool
monday_to_friday day = nat_lt ((day + 2) % 7) 5

abbrev pub is_listed : List ℕ → ℕ → Bool
is_listed [] day = false
is_listed (x ∷ xs) day = x == day || is_listed xs day

-- Monday to Friday, less the days listed for each question
abbrev pub weekly : List ℕ → List ℕ → CalendarMeaning
weekly no_bank no_business =
    record { bank = λ day. monday_to_friday day && not (is_listed no_bank day); business = λ day. monday_to_friday day && not (is_listed no_business day) }

-- the two bits of a day in a row that begins with a first day: four days a byte, from the low end.
-- Before the first day and past the row both are 0
abbrev pub day_bits : ℕ → List ℕ → ℕ → ℕ
day_bits first row day = cond (nat_le first day) (slice_index row ((day - first) / 4) / 2 ^ ((day - first) % 4 * 2) % 4) 0

-- the lower bit is for Bank Business Days, the upper for Business Days
abbrev pub posted : ℕ → List ℕ → CalendarMeaning
posted first row = record { bank = λ day. (day_bits first row day % 2 == 1); business = λ day. (day_bits first row day / 2 == 1) }
