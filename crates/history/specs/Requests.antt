-- What a call of the ledger asks and answers, in numbers and lists alone. Assumes nothing.
use Rattle.std.specs.Prelude.{ℕ, List, Ok, Err, Result}
use Rattle.calendar.specs.Meaning.{CalendarMeaning}
use Rattle.activity.specs.Tables.{TableMeaning}
use Rattle.receivables.specs.declared.draws.Outcome.{Outcome}
use Rattle.ledger.specs.declared.answers.Billed.{Billed}
use Rattle.ledger.specs.declared.answers.Report.{Report}
use Rattle.ledger.specs.declared.fault.Fault.{Fault}

pub data Request : Type 0 where
  register : (party : ℕ) → Request
  enrol : (participant party : ℕ) → Request
  bill : (table : TableMeaning) (month amount day minute : ℕ) (calendar : CalendarMeaning) → Request
  pay : (day minute account amount : ℕ) (remark : List ℕ) → Request
  fund : (party means amount : ℕ) → Request
  run : (day minute : ℕ) → Request
  report : (party : ℕ) → Request

pub data Answer : Type 0 where
  done : Answer
  issued : (billed : Billed) → Answer
  left : (balance : ℕ) → Answer
  holds : (cents : ℕ) → Answer
  drew : (outcome : Outcome) → Answer
  tells : (report : Report) → Answer

abbrev pub Reply : Type 0
Reply = Result Answer Fault

-- what a call answers, as a reply
abbrev pub replied : {X : Type 0} → (X → Answer) → Result X Fault → Reply
replied f (Ok x) = Ok (f x)
replied f (Err e) = Err e
