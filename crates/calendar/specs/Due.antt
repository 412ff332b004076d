-- The due day of an invoice. Assumes nothing.
use Rattle.std.specs.Prelude.{◌≡◌, ℕ, suc, ◌+◌, ◌-◌, ◌<◌, ◌≤◌, min, Bool, true, false, ◌&&◌, Some, Option, nat_le}
use Rattle.std.specs.Option.{option_map}
use Rattle.foundation.specs.Counting.{count, first}
use Rattle.foundation.specs.Limits.{last_day}
use Rattle.calendar.specs.Meaning.{CalendarMeaning}

-- the first of the n days after a day that passes
abbrev pub first_after : (ℕ → Bool) → ℕ → ℕ → Option ℕ
first_after p day n = option_map (λ k. day + suc k) (first (λ k. p (day + suc k)) n)

-- how many Bank Business Days there are after the invoice day, up to and with a day
abbrev pub bank_days : CalendarMeaning → ℕ → ℕ → ℕ
bank_days m invoice day = count (λ k. m.bank (invoice + suc k)) (day - invoice)

-- a Bank Business Day and a Business Day
abbrev pub is_both : CalendarMeaning → ℕ → Bool
is_both m day = m.bank day && m.business day

-- five Bank Business Days have come, and the day is both
abbrev pub may_be_due : CalendarMeaning → ℕ → ℕ → Bool
may_be_due m invoice day = nat_le 5 (bank_days m invoice day) && is_both m day

-- the days that are looked at: 30 at most, and none after the last
abbrev pub span : ℕ → ℕ
span invoice = min (last_day - invoice) 30

unfoldable pub due_day_of : CalendarMeaning → ℕ → Option ℕ
due_day_of m invoice = first_after (may_be_due m invoice) invoice (span invoice)

-- The rule: the fifth Bank Business Day after the invoice day, up to which exactly five lie after the
-- invoice day; if that is no Business Day, the next later day that is both. It lies at most 30 days
-- after the invoice day, and not after the last day.
pub record Due (m : CalendarMeaning) (invoice due : ℕ) : Type 0 where
  pub fifth : ℕ
  pub later : invoice < fifth
  pub fifth_bank : m.bank fifth ≡ true
  pub five : bank_days m invoice fifth ≡ 5
  pub from_fifth : fifth ≤ due
  pub bank : m.bank due ≡ true
  pub business : m.business due ≡ true
  pub next : (day : ℕ) → fifth ≤ day → day < due → is_both m day ≡ false
  pub soon : due ≤ invoice + 30
  pub last : due ≤ last_day

-- an answer is the due day exactly where the rule says so, and there is none only where no day is due
pub record DueAnswer (m : CalendarMeaning) (invoice : ℕ) (answer : Option ℕ) : Type 0 where
  pub sound : (day : ℕ) → answer ≡ Some day → Due m invoice day
  pub complete : (day : ℕ) → Due m invoice day → answer ≡ Some day
