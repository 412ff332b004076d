use Rattle.std.proofs.Common.{refl}
use Rattle.calendar.specs.Due.{due_day_of}
use Rattle.activity.specs.Activity.{group_value, row_value, counted}
use Rattle.split.specs.Split.{charges, charge, whole_part, remainder, leftover, ahead}
use Rattle.remarks.specs.Remarks.{named}
use Rattle.examples.proofs.worked_examples_hold.Goals as goal

pub returns : goal.returns
unfolding due_day_of group_value row_value counted charges charge whole_part remainder leftover ahead named
returns c = record {
  due_on_fifth = refl;
  due_on_next = refl;
  clipped_by_participant = refl;
  two_units = refl;
  larger_remainder = refl;
  one_cent_for_three = refl;
  nothing_for_none = refl;
  odd_cent_to_earlier = refl;
  leading_zeros = refl;
  six_digits = refl;
  cash_first = refl;
  letter_then = refl;
}
