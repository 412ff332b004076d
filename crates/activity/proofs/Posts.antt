-- What a post answers and leaves where its record is counted. Assumes nothing.
use Rattle.std.proofs.Common.{◌≡◌, ℕ, ◌<◌, Bool, true, false, cond, eqb, List, [], ◌∷◌, map, length, get_or, set, ℤ, ◌+ℤ◌, Some, Ok, Err, Option, sym, refl, ap, ◌∙◌}
use Rattle.std.proofs.lemmas.List.{get_or-map}
use Rattle.std.proofs.lemmas.Bool.{cond-true}
use Rattle.foundation.specs.Questions.{asks}
use Rattle.foundation.proofs.Verdicts.{the_value, verdict-goes}
use Rattle.records.specs.declared.determinant.Determinant.{Determinant}
use Rattle.records.specs.declared.fault.Fault.{Fault}
use Rattle.records.specs.declared.fault.Fault.TheVariants as fault
use Rattle.activity.specs.declared.row.Row.{Row}
use Rattle.records.specs.declared.ruling.Mark.{Mark}
use Rattle.records.specs.declared.ruling.Ruling.TheVariants.{Counted, Excluded}
use Rattle.records.specs.Determinants.{numbered}
use Rattle.activity.specs.Rows.{sums_of}
use Rattle.records.specs.Ruled.{record_asks, ruled, ruling}
use Rattle.activity.specs.Sums.{Sums, no_sums, sum_of, added, add_answer}
use Rattle.activity.specs.Tables.{TableMeaning, carries, stays_within, post_answer, posted}
use Rattle.activity.specs.Units.{within}
use Rattle.activity.proofs.Adds.{refused-too, taken-too}

-- the row as it was read
pub row_read : (rows : List Row) (k : ℕ) (x : Row) → k < length rows → sums_of (get_or rows k x) ≡ get_or (map sums_of rows) k no_sums
row_read rows k x h = sym (get_or-map sums_of rows k x no_sums h)

-- a ruling that counts
counts-as : (z : Bool) (e d : Determinant) (m : Mark) → Counted d ≡ cond z (Counted e) (Excluded m) → (z ≡ true) × (e ≡ d)
counts-as true e d m h = (refl, cc)
counts-as false e d m h = (cc, cc)

-- a counted record of the participant at k
module _ (t : TableMeaning) (m k n mark : ℕ) (q : ℤ) (d : Determinant) (participant : Option ℕ) (at : participant ≡ Some k) (counts : Ok (Counted d) ≡ ruled n mark q) where
  settled : Counted d ≡ ruling n mark
  settled = the_value (record_asks n mark q) (ruling n mark) (Counted d) counts

  said : (eqb mark 0 ≡ true) × (numbered n ≡ d)
  said = counts-as (eqb mark 0) (numbered n) d _ settled

  abbrev stays : Bool
  stays = within (sum_of (get_or t.rows k no_sums) d +ℤ q)

  -- where the earlier questions hold, the sum decides
  decides : carries t m ≡ true → post_answer t m participant n mark q ≡ cond stays (Ok (Counted d)) (Err fault.Sum)
  decides h =
      let s = said in
      ap (λ p. post_answer t m p n mark q) at ∙ cond-true _ _ _ h
      ∙ verdict-goes (record_asks n mark q) (asks (stays_within (get_or t.rows k no_sums) n mark q) fault.Sum ∷ []) (ruling n mark) (Counted d) (ruling n mark) (sym counts)
      ∙ ap (λ w. cond w (Ok (ruling n mark)) (Err fault.Sum)) (cond-true _ _ _ s.0 ∙ ap (λ e. within (sum_of (get_or t.rows k no_sums) e +ℤ q)) s.1)
      ∙ ap (λ r. cond stays (Ok r) (Err fault.Sum)) (sym settled)

  pub refused_post : carries t m ≡ true → (f : Fault) → Err f ≡ add_answer (get_or t.rows k no_sums) d q → Err f ≡ post_answer t m participant n mark q
  refused_post h f e = refused-too stays tt (Counted d) f e ∙ sym (decides h)

  pub taken-post : carries t m ≡ true → Ok tt ≡ add_answer (get_or t.rows k no_sums) d q → Ok (Counted d) ≡ post_answer t m participant n mark q
  taken-post h e = taken-too stays tt tt (Counted d) e ∙ sym (decides h)

  pub counted-table : (new : Sums) → new ≡ added (get_or t.rows k no_sums) d q → ◌≡◌ {A = TableMeaning} (record { month = t.month; rows = set t.rows k new }) (posted t participant n mark q)
  counted-table new told =
      let s = said in
      ap (λ (x : List Sums). record { month = t.month; rows = x }) (ap (set t.rows k) (told ∙ ap (λ x. added (get_or t.rows k no_sums) x q) (sym s.1)) ∙ sym (cond-true _ _ _ s.0))
      ∙ ap (λ p. posted t p n mark q) (sym at)
