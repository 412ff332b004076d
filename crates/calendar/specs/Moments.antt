-- Moments as plain numbers. Assumes nothing.
use Rattle.std.specs.Prelude.{ℕ, Bool, ◌&&◌, ◌||◌, ◌==◌, nat_le, nat_lt}
use Rattle.foundation.specs.Limits.{last_day, last_minute}
use Rattle.calendar.specs.declared.moment.Moment.{Moment}

pub record When : Type 0 where
  pub day : ℕ
  pub minute : ℕ

abbrev pub when : Moment → When
when m = record { day = m.day; minute = m.minute }

-- one of the days 0 to 29,219 and one of its minutes 0 to 1,439
abbrev pub is_moment : ℕ → ℕ → Bool
is_moment day minute = nat_le day last_day && nat_le minute last_minute

abbrev pub before : When → When → Bool
before a b = nat_lt a.day b.day || (a.day == b.day && nat_lt a.minute b.minute)
