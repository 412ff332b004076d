-- Which sums a row's struct holds. Assumes nothing.
use Rattle.std.specs.Prelude.{◌<◌, List, map, ℤ, pos, slice_index_or}
use Rattle.records.specs.declared.determinant.Determinant.{Determinant}
use Rattle.records.specs.declared.determinant.Determinant.TheVariants.{Rtmg, Rtdcimp, Rtamlexsecm, Mebl, Rtqqes, Rtqqep, Daes, Daep, Rtobl, Rtobllo, Opt, Daobl, Opts, Obls, Optp, Oblp}
use Rattle.activity.specs.declared.row.Row.{Row}
use Rattle.activity.specs.declared.row.place.Place.{Place}
use Rattle.activity.specs.declared.row.place.Place.TheVariants.{Energy, Interval}
use Rattle.records.specs.Determinants.{determinants}
use Rattle.activity.specs.Sums.{Sums}

-- where a determinant's sum is kept: among the thirteen in kWh, or among the three in kW over 15 minutes
abbrev pub place : Determinant → Place
place Rtmg = Energy 0
place Rtdcimp = Interval 0
place Rtamlexsecm = Energy 1
place Mebl = Energy 2
place Rtqqes = Interval 1
place Rtqqep = Interval 2
place Daes = Energy 3
place Daep = Energy 4
place Rtobl = Energy 5
place Rtobllo = Energy 6
place Opt = Energy 7
place Daobl = Energy 8
place Opts = Energy 9
place Obls = Energy 10
place Optp = Energy 11
place Oblp = Energy 12

abbrev pub PlaceOk : Place → Type 0
PlaceOk (Energy k) = k < 13
PlaceOk (Interval k) = k < 3

pub record Kept : Type 0 where
  pub energy : List ℤ
  pub intervals : List ℤ

abbrev pub kept_in : Row → Kept
kept_in r = record { energy = map (λ e. e.sum) r.energy; intervals = map (λ i. i.sum) r.intervals }

abbrev pub kept_at : Kept → Place → ℤ
kept_at s (Energy k) = slice_index_or s.energy k (pos 0)
kept_at s (Interval k) = slice_index_or s.intervals k (pos 0)

-- the sums by rising number of the determinant
unfoldable pub in_order : Kept → Sums
in_order s = map (λ d. kept_at s (place d)) determinants

abbrev pub sums_of : Row → Sums
sums_of r = in_order (kept_in r)
