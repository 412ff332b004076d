-- What a table means, and what a post does to it. Assumes nothing.
use Rattle.std.specs.Prelude.{ℕ, Bool, true, false, cond, List, [], ◌∷◌, ◌++◌, map, replicate, ℤ, ◌+ℤ◌, is_some, Some, None, Option, Result, ◌==◌, slice_index_or, slice_set}
use Rattle.foundation.specs.Limits.{most_participants}
use Rattle.foundation.specs.Questions.{Question, asks, verdict}
use Rattle.records.specs.declared.fault.Fault.{Fault}
use Rattle.records.specs.declared.fault.Fault.TheVariants as fault
use Rattle.records.specs.declared.ruling.Ruling.{Ruling}
use Rattle.activity.specs.declared.table.Table.{Table}
use Rattle.records.specs.Determinants.{numbered}
use Rattle.activity.specs.Rows.{sums_of}
use Rattle.records.specs.Ruled.{record_asks, ruling}
use Rattle.activity.specs.Sums.{Sums, no_sums, sum_of, added}
use Rattle.activity.specs.Units.{within}

-- the month that a table carries, and the sums of each participant in order of enrolment
pub record TableMeaning : Type 0 where
  pub month : Option ℕ
  pub rows : List Sums

abbrev pub meaning : Table → TableMeaning
meaning t = record { month = t.month; rows = map sums_of t.rows }

-- a table without records
abbrev pub cleared : Option ℕ → TableMeaning
cleared m = record { month = m; rows = replicate most_participants no_sums }

abbrev pub is_month : Option ℕ → ℕ → Bool
is_month None m = false
is_month (Some n) m = n == m

abbrev pub carries : TableMeaning → ℕ → Bool
carries t m = is_month t.month m

abbrev pub row_at : List Sums → Option ℕ → Sums
row_at rows None = no_sums
row_at rows (Some k) = slice_index_or rows k no_sums

-- does the determinant's sum stay within its limit? A record with mark 1 or 2 is not added
abbrev pub stays_within : Sums → ℕ → ℕ → ℤ → Bool
stays_within s d mark q = cond (mark == 0) (within (sum_of s (numbered d) +ℤ q)) true

-- a post's questions: month, participant, determinant, mark, sign, sum
abbrev pub post_asks : TableMeaning → ℕ → Option ℕ → ℕ → ℕ → ℤ → List (Question Fault)
post_asks t m participant d mark q =
    asks (carries t m) fault.Month ∷ asks (is_some participant) fault.Participant ∷ record_asks d mark q ++ asks (stays_within (row_at t.rows participant) d mark q) fault.Sum ∷ []

abbrev pub post_answer : TableMeaning → ℕ → Option ℕ → ℕ → ℕ → ℤ → Result Ruling Fault
post_answer t m participant d mark q = verdict (post_asks t m participant d mark q) (ruling d mark)

abbrev pub added_at : List Sums → Option ℕ → ℕ → ℤ → List Sums
added_at rows None d q = rows
added_at rows (Some k) d q = slice_set rows k (added (slice_index_or rows k no_sums) (numbered d) q)

-- the table after a post that was accepted
abbrev pub posted : TableMeaning → Option ℕ → ℕ → ℕ → ℤ → TableMeaning
posted t participant d mark q = record { month = t.month; rows = cond (mark == 0) (added_at t.rows participant d q) t.rows }

-- a month's activities are given where the table carries it
abbrev pub activities_answer : TableMeaning → ℕ → Result (Unit {0}) Fault
activities_answer t m = verdict (asks (carries t m) fault.Month ∷ []) tt
