-- The numbers that the rules fix. Assumes nothing.
use Rattle.std.specs.Prelude.{ℕ}

-- day 0 is Wednesday 1 January 2020, and this one 31 December 2099
abbrev pub last_day : ℕ
last_day = 29219

-- minute 0 is midnight, and this one 23:59
abbrev pub last_minute : ℕ
last_minute = 1439

-- a ledger has at most this many Market Participants
abbrev pub most_participants : ℕ
most_participants = 64

-- a sum of a reference month stays within this on either side of 0, in thousandths of its unit
abbrev pub most_sum : ℕ
most_sum = 2000000000

-- a month's amount, in cents
abbrev pub most_amount : ℕ
most_amount = 1000000000

-- all activities of a month together, in quarters of a kWh
abbrev pub most_activity : ℕ
most_activity = 8000000000

-- cash, and the face of a letter of credit, in cents
abbrev pub most_security : ℕ
most_security = 10000000000

-- where an instrument holds more cents, this is answered
abbrev pub most_held : ℕ
most_held = 1000000000000000

-- 17:00, until which an invoice may be paid on its due day
abbrev pub due_minute : ℕ
due_minute = 1020

-- a ledger has at most this many Counter-Parties
abbrev pub most_counter_parties : ℕ
most_counter_parties = 32

-- month 0 is January 2020, and this one December 2099
abbrev pub last_month : ℕ
last_month = 959

-- one funding, in cents
abbrev pub most_funding : ℕ
most_funding = 1000000000
