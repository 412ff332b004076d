-- What is printed for a unit and for a mark. Assumes nothing.
use Rattle.std.specs.Prelude.{ℕ, List, codes}
use Rattle.records.specs.declared.determinant.Unit as unit
use Rattle.records.specs.declared.determinant.Unit.TheVariants.{MegawattHour, MegawattOverHour, MegawattOverQuarterHour}
use Rattle.records.specs.declared.ruling.Mark.{Mark}
use Rattle.records.specs.declared.ruling.Mark.TheVariants.{RmrResource, RucInterval}

abbrev pub unit_text : unit.Unit → List ℕ
unit_text MegawattHour = codes "MWh"
unit_text MegawattOverHour = codes "MW over an hour"
unit_text MegawattOverQuarterHour = codes "MW over 15 minutes"

abbrev pub mark_text : Mark → List ℕ
mark_text RmrResource = codes "an RMR Resource"
mark_text RucInterval = codes "a RUC-Committed Interval"
