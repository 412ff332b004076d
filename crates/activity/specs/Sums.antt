-- The sixteen sums of a participant. Assumes nothing.
use Rattle.std.specs.Prelude.{◌-◌, List, [], ◌∷◌, replicate, ℤ, pos, ◌+ℤ◌, Result, slice_index_or, slice_set}
use Rattle.foundation.specs.Questions.{asks, verdict}
use Rattle.records.specs.declared.determinant.Determinant.{Determinant}
use Rattle.records.specs.declared.fault.Fault.{Fault}
use Rattle.records.specs.declared.fault.Fault.TheVariants as fault
use Rattle.records.specs.Determinants.{facts}
use Rattle.activity.specs.Units.{within}

-- by rising number of the determinant
abbrev pub Sums : Type 0
Sums = List ℤ

abbrev pub no_sums : Sums
no_sums = replicate 16 (pos 0)

abbrev pub sum_of : Sums → Determinant → ℤ
sum_of s d = slice_index_or s ((facts d).number - 1) (pos 0)

-- the sums with a quantity more
abbrev pub added : Sums → Determinant → ℤ → Sums
added s d q = slice_set s ((facts d).number - 1) (sum_of s d +ℤ q)

-- does the determinant's sum stay within its limit?
abbrev pub add_answer : Sums → Determinant → ℤ → Result (Unit {0}) Fault
add_answer s d q = verdict (asks (within (sum_of s d +ℤ q)) fault.Sum ∷ []) tt
