use Rattle.std.proofs.Common.{◌≡◌, ◌+◌, ◌<◌, map, length, sym, ap, ◌∙◌, subst, arith}
use Rattle.std.proofs.lemmas.List.{length-map}
use Rattle.records.specs.declared.determinant.Group.TheVariants.{Load}
use Rattle.activity.specs.declared.units.Quarters.{Quarters}
use Rattle.activity.specs.Activity.{group_value, total_to, share, row_value}
use Rattle.activity.specs.Rows.{sums_of}
use Rattle.activity.proofs.Activities.{SoFar, turn-yes, turn-no}
use Rattle.activity.proofs.Posts.{row_read}
use Rattle.activity.proofs.table.Table.group_value.Goals as goal
use Rattle.activity.proofs.table.Table.group_value.Goals.{then-is_under, else-is_under}

pub loop-k-preserved : goal.loop-k-preserved
loop-k-preserved c =
    let rows = c.args.self.now.rows in
    let parties = c.args.parties.now in
    let party = c.args.party in
    let g = c.args.group in
    let k = c.loop-k.k in
    let Natural : Type 0 = g ≡ Load → ⊥ in
    let Step : Quarters → Type 0 = λ q. SoFar (map sums_of rows) parties party g Natural (k + 1) q.count in
    let lt : k < length rows = omega (arith, c.args.self.now.full) in
    elim c.if-is_under.branch [
      | then-is_under w ↦
          (let h = w.value.ensures in
          subst Step (sym w.sum-is) (turn-yes (map sums_of rows) parties party g Natural k c.loop-k.sum.count w.value.result.count _ c.loop-k.invariant (sym c.is_under.ensures ∙ w.if-is_under.true)
          (record { is = h.is ∙ ap (row_value g) (row_read rows k _ lt); small = h.small; natural = h.natural }) w.plus-sum.ensures))
      | else-is_under w ↦
          subst Step (sym w.sum-is) (turn-no (map sums_of rows) parties party g Natural k c.loop-k.sum.count c.loop-k.invariant (sym c.is_under.ensures ∙ w.if-is_under.false))
    ]

pub returns : goal.returns
unfolding group_value
returns c =
    let rows = c.args.self.now.rows in
    let e : c.loop-k.k ≡ length (map sums_of rows) = omega (arith, length-map rows sums_of, c.args.self.now.full) in
    let h = c.loop-k.invariant in
    record { is = h.is ∙ ap (total_to (share (map sums_of rows) c.args.parties.now c.args.party c.args.group)) e; small = omega (arith, h.small); natural = h.natural }
