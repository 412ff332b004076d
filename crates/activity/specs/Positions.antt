-- A participant's place in the order of enrolment. Assumes nothing.
use Rattle.std.specs.Prelude.{ℕ}
use Rattle.activity.specs.declared.position.Position.{Position}

abbrev pub index_of : Position → ℕ
index_of p = p.index
