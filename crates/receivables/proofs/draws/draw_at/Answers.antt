use Rattle.std.proofs.Common.{map, set, ap, ◌∙◌, arith}
use Rattle.std.proofs.lemmas.Grind.{common_steps}
use Rattle.std.proofs.lemmas.List.{map-set}
use Rattle.receivables.proofs.draws.draw_at.Goals as goal

pub returns-clause-helds : goal.returns-clause-helds
returns-clause-helds g c =
    map-set g.I.Instrument.held c.args.row.now c.args.place c.draw-paid.new.self
    ∙ ap (set (map g.I.Instrument.held c.args.row.now) c.args.place) (grind (arith, common_steps))
