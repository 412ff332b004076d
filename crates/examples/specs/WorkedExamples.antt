-- What the rules give in worked cases. Assumes nothing.
use Rattle.std.specs.Prelude.{◌≡◌, [], ◌∷◌, pos, negsuc, Some, None, codes}
use Rattle.calendar.specs.Calendars.{weekly}
use Rattle.calendar.specs.Due.{due_day_of}
use Rattle.records.specs.declared.determinant.Determinant.TheVariants.{Rtmg, Rtdcimp, Rtamlexsecm}
use Rattle.records.specs.declared.determinant.Group.TheVariants.{Generation, Load}
use Rattle.activity.specs.Activity.{group_value}
use Rattle.activity.specs.Sums.{no_sums, added}
use Rattle.split.specs.Split.{charges}
use Rattle.remarks.specs.Remarks.{named}
use Rattle.security.specs.Instruments.{left_in_first, left_in_second}

pub record WorkedExamples : Type 0 where
  -- invoice day 1500, weekly calendar: due 1507 where nothing is listed, 1510 where 1507 is listed as no Business Day
  pub due_on_fifth : due_day_of (weekly [] []) 1500 ≡ Some 1507
  pub due_on_next : due_day_of (weekly [] (1507 ∷ [])) 1500 ≡ Some 1510
  -- one Counter-Party, two participants with sums of -5 and 3 in determinant 3: group 2 is 12
  pub clipped_by_participant : group_value (added no_sums Rtamlexsecm (negsuc 4) ∷ added no_sums Rtamlexsecm (pos 3) ∷ []) (0 ∷ 0 ∷ []) 0 Load ≡ pos 12
  -- sums of 10 in determinants 1 and 2: group 1 is 50
  pub two_units : group_value (added (added no_sums Rtmg (pos 10)) Rtdcimp (pos 10) ∷ []) (0 ∷ []) 0 Generation ≡ pos 50
  -- an amount over activities
  pub larger_remainder : charges 100 (8 ∷ 4 ∷ []) ≡ 67 ∷ 33 ∷ []
  pub one_cent_for_three : charges 1 (5 ∷ 5 ∷ 5 ∷ []) ≡ 1 ∷ 0 ∷ 0 ∷ []
  pub nothing_for_none : charges 2 (0 ∷ 7 ∷ []) ≡ 0 ∷ 2 ∷ []
  pub odd_cent_to_earlier : charges 5 (4 ∷ 4 ∷ []) ≡ 3 ∷ 2 ∷ []
  -- the number that a remark names
  pub leading_zeros : named 5 (codes "INV007") ≡ Some 7
  pub six_digits : named 5 (codes "INV123456") ≡ None
  -- cash 30 with a letter of 40, and a draw of 50: 0 and 20 are left
  pub cash_first : left_in_first 30 50 ≡ 0
  pub letter_then : left_in_second 30 40 50 ≡ 20
