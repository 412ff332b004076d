-- The sixteen determinants: number, unit, group, and how a sum enters its group. Assumes nothing.
use Rattle.std.specs.Prelude.{◌≡◌, ℕ, ◌-◌, ◌&&◌, List, [], ◌∷◌, ℤ, pos, ◌*ℤ◌, neg_ℤ, Result, IfOk, nat_le, slice_index_or}
use Rattle.std.specs.Int.{int_max}
use Rattle.foundation.specs.Questions.{asks, verdict}
use Rattle.records.specs.declared.fault.Fault.{Fault}
use Rattle.records.specs.declared.fault.Fault.TheVariants as fault
use Rattle.records.specs.declared.determinant.Determinant.{Determinant}
use Rattle.records.specs.declared.determinant.Determinant.TheVariants.{Rtmg, Rtdcimp, Rtamlexsecm, Mebl, Rtqqes, Rtqqep, Daes, Daep, Rtobl, Rtobllo, Opt, Daobl, Opts, Obls, Optp, Oblp}
use Rattle.records.specs.declared.determinant.Unit as unit
use Rattle.records.specs.declared.determinant.Unit.TheVariants.{MegawattHour, MegawattOverHour, MegawattOverQuarterHour}
use Rattle.records.specs.declared.determinant.Group.{Group}
use Rattle.records.specs.declared.determinant.Group.TheVariants.{Generation, Load, Sales, Purchases, DayAheadSales, DayAheadPurchases, RealTimeObligations, CongestionRights, CongestionRightPurchases}

-- a sum enters as it is, as the larger of 0 and itself, or with its sign reversed
pub data Entry : Type 0 where
  plain : Entry
  clipped : Entry
  reversed : Entry

pub record Facts : Type 0 where
  pub number : ℕ
  pub unit : unit.Unit
  pub group : Group
  pub entry : Entry

abbrev pub fact : ℕ → unit.Unit → Group → Entry → Facts
fact n u g e = record { number = n; unit = u; group = g; entry = e }

abbrev pub facts : Determinant → Facts
facts Rtmg = fact 1 MegawattHour Generation plain
facts Rtdcimp = fact 2 MegawattOverQuarterHour Generation plain
facts Rtamlexsecm = fact 3 MegawattHour Load clipped
facts Mebl = fact 4 MegawattHour Load reversed
facts Rtqqes = fact 5 MegawattOverQuarterHour Sales plain
facts Rtqqep = fact 6 MegawattOverQuarterHour Purchases plain
facts Daes = fact 7 MegawattOverHour DayAheadSales plain
facts Daep = fact 8 MegawattOverHour DayAheadPurchases plain
facts Rtobl = fact 9 MegawattOverHour RealTimeObligations plain
facts Rtobllo = fact 10 MegawattOverHour RealTimeObligations plain
facts Opt = fact 11 MegawattOverHour CongestionRights plain
facts Daobl = fact 12 MegawattOverHour CongestionRights plain
facts Opts = fact 13 MegawattOverHour CongestionRights plain
facts Obls = fact 14 MegawattOverHour CongestionRights plain
facts Optp = fact 15 MegawattOverHour CongestionRightPurchases plain
facts Oblp = fact 16 MegawattOverHour CongestionRightPurchases plain

-- by rising number
abbrev pub determinants : List Determinant
determinants = Rtmg ∷ Rtdcimp ∷ Rtamlexsecm ∷ Mebl ∷ Rtqqes ∷ Rtqqep ∷ Daes ∷ Daep ∷ Rtobl ∷ Rtobllo ∷ Opt ∷ Daobl ∷ Opts ∷ Obls ∷ Optp ∷ Oblp ∷ []

-- the determinant of a number from 1 to 16
abbrev pub numbered : ℕ → Determinant
numbered n = slice_index_or determinants (n - 1) Rtmg

-- a number from 1 to 16 is read as its determinant, and any other refused
pub record Decodes (n : ℕ) (r : Result Determinant Fault) : Type 0 where
  pub value : r ≡ verdict (asks (nat_le 1 n && nat_le n 16) fault.Determinant ∷ []) (numbered n)
  pub number : IfOk r (λ d. (facts d).number ≡ n)

abbrev pub groups : List Group
groups = Generation ∷ Load ∷ Sales ∷ Purchases ∷ DayAheadSales ∷ DayAheadPurchases ∷ RealTimeObligations ∷ CongestionRights ∷ CongestionRightPurchases ∷ []

abbrev pub group_number : Group → ℕ
group_number Generation = 1
group_number Load = 2
group_number Sales = 3
group_number Purchases = 4
group_number DayAheadSales = 5
group_number DayAheadPurchases = 6
group_number RealTimeObligations = 7
group_number CongestionRights = 8
group_number CongestionRightPurchases = 9

abbrev pub entered : Entry → ℤ → ℤ
entered plain z = z
entered clipped z = int_max (pos 0) z
entered reversed z = neg_ℤ z

-- a thousandth of a MWh, or of a MW over an hour, is four quarters of a kWh; of a MW over 15 minutes it is one
abbrev pub quarters : unit.Unit → ℤ → ℤ
quarters MegawattHour z = pos 4 *ℤ z
quarters MegawattOverHour z = pos 4 *ℤ z
quarters MegawattOverQuarterHour z = z
