use Rattle.std.proofs.Common.{◌≡◌, ◌<◌, length, take, nat_abs, sym, ap, ◌∙◌, arith, w64, SFits, rules, pos, ◌≤ℤ◌, subst}
use Rattle.std.proofs.lemmas.List.{take_more}
use Rattle.std.proofs.lemmas.Int.{to_z-of_z}
use Rattle.records.specs.Determinants.{groups}
use Rattle.activity.specs.Activity.{group_value, activity}
use Rattle.activity.specs.Tables.{meaning}
use Rattle.activity.proofs.Activities.{Top, top_more, top-natural, top-largest, pos-abs}
use Rattle.activity.proofs.table.Table.activity.Goals as goal

pub loop-group-preserved : goal.loop-group-preserved
loop-group-preserved c =
    let v = group_value (meaning c.args.self.now).rows c.args.parties.now c.args.party in
    let i = c.loop-group.group-index in
    let lt : i < length groups = omega arith in
    subst (λ gs. Top v gs c.max-top.result) (sym (take_more groups i _ lt)) (top_more v (take i groups) _ _ _ _ _ c.loop-group.invariant c.group_value.ensures c.max-top.ensures)

pub returns : goal.returns
unfolding activity
returns c =
    let v = group_value (meaning c.args.self.now).rows c.args.parties.now c.args.party in
    let nine : c.loop-group.group-index ≡ 9 = omega arith in
    let all = subst (λ n. Top v (take n groups) c.loop-group.top) nine c.loop-group.invariant in
    let e = c.count.ensures ∙ top-largest v _ _ all in
    let fits : SFits w64 c.count.result = search rules in
    let r = simp to_z-of_z at c.unsigned_abs.ensures.value in
    record { value = r ∙ ap nat_abs e; largest = ap pos r ∙ pos-abs _ _ e (subst (λ z. pos 0 ≤ℤ z) (sym c.count.ensures) (top-natural v _ _ all)) }
