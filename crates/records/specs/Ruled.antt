-- The questions on a record's determinant, mark and sign. Assumes nothing.
use Rattle.std.specs.Prelude.{◌≡◌, ℕ, Bool, true, cond, ◌&&◌, ◌||◌, List, [], ◌∷◌, ℤ, Result, ◌==◌, nat_le}
use Rattle.std.specs.Int.Signed.{non_neg}
use Rattle.foundation.specs.Questions.{Question, asks, verdict}
use Rattle.records.specs.declared.fault.Fault.{Fault}
use Rattle.records.specs.declared.fault.Fault.TheVariants as fault
use Rattle.records.specs.declared.ruling.Mark.{Mark}
use Rattle.records.specs.declared.ruling.Mark.TheVariants.{RmrResource, RucInterval}
use Rattle.records.specs.declared.ruling.Ruling.{Ruling}
use Rattle.records.specs.declared.ruling.Ruling.TheVariants.{Counted, Excluded}
use Rattle.records.specs.Determinants.{numbered, facts}

-- marks 1 and 2 stand only with determinant 1
abbrev pub mark_allowed : ℕ → ℕ → Bool
mark_allowed d m = m == 0 || (d == 1 && nat_le m 2)

-- only determinants 3 and 4 may be negative
abbrev pub sign_allowed : ℕ → ℤ → Bool
sign_allowed d q = non_neg q || (d == 3 || d == 4)

abbrev pub record_asks : ℕ → ℕ → ℤ → List (Question Fault)
record_asks d m q = asks (nat_le 1 d && nat_le d 16) fault.Determinant ∷ asks (mark_allowed d m) fault.Mark ∷ asks (sign_allowed d q) fault.Sign ∷ []

abbrev pub mark_number : Mark → ℕ
mark_number RmrResource = 1
mark_number RucInterval = 2

-- mark 0 counts; 1 is an RMR Resource, 2 a RUC-Committed Interval, and neither is added
abbrev pub ruling : ℕ → ℕ → Ruling
ruling d m = cond (m == 0) (Counted (numbered d)) (Excluded (cond (m == 1) RmrResource RucInterval))

abbrev pub ruled : ℕ → ℕ → ℤ → Result Ruling Fault
ruled d m q = verdict (record_asks d m q) (ruling d m)

-- what is counted has a sign that its determinant allows
abbrev pub SignOk : Ruling → ℤ → Type 0
SignOk (Excluded m) q = Unit {0}
SignOk (Counted d) q = sign_allowed (facts d).number q ≡ true
