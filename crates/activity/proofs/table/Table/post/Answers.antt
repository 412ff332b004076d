use Rattle.std.proofs.Common.{◌≡◌, ◌<◌, List, length, Some, Ok, sym, refl, ap, ◌∙◌, arith, w32, SFits, rules}
use Rattle.std.specs.Option.{option_map}
use Rattle.std.proofs.lemmas.List.{map-set}
use Rattle.std.proofs.lemmas.Result.{err_from_is_err_and}
use Rattle.std.proofs.lemmas.Int.{to_z-of_z}
use Rattle.records.specs.declared.ruling.Ruling.TheVariants.{Counted}
use Rattle.activity.specs.Positions.{index_of}
use Rattle.activity.specs.Rows.{sums_of}
use Rattle.records.specs.Ruled.{ruled}
use Rattle.activity.specs.Sums.{Sums, added, add_answer}
use Rattle.activity.specs.Tables.{meaning}
use Rattle.activity.proofs.Posts.{row_read, refused_post, taken-post, counted-table}
use Rattle.activity.proofs.table.Table.post.Goals as goal

pub returns-in_err-add : goal.returns-in_err-add
returns-in_err-add c =
    let t = meaning c.args.self.now in
    let k = c.index-k.result in
    let r = c.args.«record» in
    let q = r.quantity in
    let d = c.in-Counted.determinant in
    let fits : SFits w32 q = search rules in
    let lt : k < length c.args.self.now.rows = omega (arith, c.args.self.now.full, c.index-k.ensures, (c.in_ok-ok_or.field-0).within) in
    let at = ap (option_map index_of) c.in_ok-ok_or.ensures.ok_part ∙ ap Some (sym c.index-k.ensures) in
    let counts : Ok (Counted d) ≡ ruled r.determinant r.mark q = ap Ok (sym c.in-Counted.is) ∙ c.in_ok-ruling.ensures.value in
    let e = simp to_z-of_z at c.in_err-add.ensures in
    let p = err_from_is_err_and c.from_residual-in_err-add.result c.from_residual-in_err-add.ensures.1 in
    rw (p.1, p.2) (record {
      answer = refused_post t c.args.state.now.month k r.determinant r.mark q d (option_map index_of c.args.participant) at counts (sym c.if-not-carries.ensures) _ (e.answer ∙ ap (λ s. add_answer s d q) (row_read _ k _ lt));
      table = refl;
    })

pub returns-in_ok-add : goal.returns-in_ok-add
returns-in_ok-add c =
    let t = meaning c.args.self.now in
    let k = c.index-k.result in
    let r = c.args.«record» in
    let q = r.quantity in
    let d = c.in-Counted.determinant in
    let fits : SFits w32 q = search rules in
    let lt : k < length c.args.self.now.rows = omega (arith, c.args.self.now.full, c.index-k.ensures, (c.in_ok-ok_or.field-0).within) in
    let at = ap (option_map index_of) c.in_ok-ok_or.ensures.ok_part ∙ ap Some (sym c.index-k.ensures) in
    let counts : Ok (Counted d) ≡ ruled r.determinant r.mark q = ap Ok (sym c.in-Counted.is) ∙ c.in_ok-ruling.ensures.value in
    let e = simp to_z-of_z at c.in_ok-add.ensures in
    record {
      answer = taken-post t c.args.state.now.month k r.determinant r.mark q d (option_map index_of c.args.participant) at counts (sym c.if-not-carries.ensures) (e.answer ∙ ap (λ s. add_answer s d q) (row_read _ k _ lt));
      table = ap (λ (x : List Sums). record { month = t.month; rows = x }) (map-set sums_of c.args.self.now.rows k _)
          ∙ counted-table t c.args.state.now.month k r.determinant r.mark q d (option_map index_of c.args.participant) at counts _ (e.sums ∙ ap (λ s. added s d q) (row_read _ k _ lt));
    }
