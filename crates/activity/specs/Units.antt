-- What the three units hold, and when a sum may be raised. Assumes nothing.
use Rattle.std.specs.Prelude.{ℕ, Bool, [], ◌∷◌, ℤ, ◌+ℤ◌, Result, nat_le, unsigned_abs}
use Rattle.foundation.specs.Limits.{most_sum}
use Rattle.foundation.specs.Questions.{asks, verdict}
use Rattle.records.specs.declared.fault.Fault.{Fault}
use Rattle.records.specs.declared.fault.Fault.TheVariants as fault
use Rattle.activity.specs.declared.units.Sum.{Sum}
use Rattle.activity.specs.declared.units.Quarters.{Quarters}

-- a sum, whatever its unit
abbrev pub sum_in : {n : ℕ} → Sum n → ℤ
sum_in s = s.sum

abbrev pub kwh : Sum 4 → ℤ
kwh e = sum_in e

abbrev pub kw_quarter_hours : Sum 1 → ℤ
kw_quarter_hours i = sum_in i

abbrev pub quarters_in : Quarters → ℤ
quarters_in q = q.count

-- within 2,000,000,000 on either side of 0
abbrev pub within : ℤ → Bool
within z = nat_le (unsigned_abs z) most_sum

-- a sum with a quantity more, if that stays within its limit
abbrev pub sum_answer : ℤ → ℤ → Result ℤ Fault
sum_answer z q = verdict (asks (within (z +ℤ q)) fault.Sum ∷ []) (z +ℤ q)
