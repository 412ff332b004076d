-- The activity of a Counter-Party: the largest of its nine group values, in quarters of a kWh. Assumes nothing.
use Rattle.std.specs.Prelude.{ℕ, zero, suc, ◌-◌, Bool, cond, ◌&&◌, List, [], ◌∷◌, map, length, ℤ, pos, ◌+ℤ◌, fold, filter, ◌==◌, nat_eq, nat_lt, slice_index, slice_index_or, unsigned_abs}
use Rattle.std.specs.List.{range_with_len}
use Rattle.std.specs.Int.{int_max}
use Rattle.records.specs.declared.determinant.Determinant.{Determinant}
use Rattle.records.specs.declared.determinant.Group.{Group}
use Rattle.records.specs.declared.determinant.Group.TheVariants.{Generation}
use Rattle.records.specs.Determinants.{facts, determinants, groups, group_number, entered, quarters}
use Rattle.activity.specs.Sums.{Sums, no_sums, sum_of}

-- the group of a number from 1 to 9
abbrev pub group_numbered : ℕ → Group
group_numbered n = slice_index_or groups (n - 1) Generation

-- what a participant's sum of a determinant counts
unfoldable pub counted : Sums → Determinant → ℤ
counted s d = quarters (facts d).unit (entered (facts d).entry (sum_of s d))

-- the determinants of a group
abbrev pub members : Group → List Determinant
members g = filter (λ d. nat_eq (group_number (facts d).group) (group_number g)) determinants

abbrev pub total_of : {X : Type 0} → (X → ℤ) → List X → ℤ
total_of f [] = pos 0
total_of f (x ∷ xs) = f x +ℤ total_of f xs

-- what a participant counts in a group
unfoldable pub row_value : Group → Sums → ℤ
row_value g s = total_of (counted s) (members g)

-- f 0 + f 1 + … + f (n - 1)
abbrev pub total_to : (ℕ → ℤ) → ℕ → ℤ
total_to f zero = pos 0
total_to f (suc n) = total_to f n +ℤ f n

-- is the participant at a position enrolled under a Counter-Party? Both go by position:
-- `parties` has that of each participant's Counter-Party, in order of enrolment
abbrev pub is_under : List ℕ → ℕ → ℕ → Bool
is_under parties party k = nat_lt k (length parties) && slice_index parties k == party

abbrev pub share : List Sums → List ℕ → ℕ → Group → ℕ → ℤ
share rows parties party g k = cond (is_under parties party k) (row_value g (slice_index_or rows k no_sums)) (pos 0)

-- a Counter-Party's group value adds what its participants count
unfoldable pub group_value : List Sums → List ℕ → ℕ → Group → ℤ
group_value rows parties party g = total_to (share rows parties party g) (length rows)

abbrev pub group_values : List Sums → List ℕ → ℕ → List ℤ
group_values rows parties party = map (group_value rows parties party) groups

abbrev pub largest : List ℤ → ℤ
largest [] = pos 0
largest (z ∷ zs) = fold int_max z zs

unfoldable pub activity : List Sums → List ℕ → ℕ → ℕ
activity rows parties party = unsigned_abs (largest (group_values rows parties party))

-- of the first n Counter-Parties
abbrev pub activities : List Sums → List ℕ → ℕ → List ℕ
activities rows parties n = map (activity rows parties) (range_with_len 0 n)
