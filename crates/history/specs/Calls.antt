-- What a call of the code asks and answers, in the words of requests and replies. Assumes nothing.
use Rattle.std.specs.Prelude.{Result}
use Rattle.calendar.specs.Meaning.{CalendarMeaning}
use Rattle.activity.specs.Months.{closed_month}
use Rattle.activity.specs.Tables.{meaning}
use Rattle.history.specs.declared.call.Call.{Call}
use Rattle.history.specs.declared.call.Call.TheVariants.{Register, Enrol, Bill, Pay, Fund, PastDue, Report}
use Rattle.ledger.specs.declared.fault.Fault.{Fault}
use Rattle.history.specs.declared.answer.Answer.{Answer as Answered}
use Rattle.history.specs.declared.answer.Answer.TheVariants.{Done, Issued, Left, Holds, Drew, Tells}
use Rattle.history.specs.Requests.{Request, register, enrol, bill, pay, fund, run, report, Answer, Reply, replied, done, issued, left, holds, drew, tells}

-- in numbers and lists, where `says` is what its kind of calendar means
abbrev pub request_of : {C : Type 0} → (C → CalendarMeaning) → Call C → Request
request_of says (Register p) = register p
request_of says (Enrol m p) = enrol m p
request_of says (Bill table month amount stamp cal) = bill (meaning table.now) (closed_month month.now) amount stamp.day stamp.minute (says cal.now)
request_of says (Pay stamp account amount remark) = pay stamp.day stamp.minute account amount remark.now
request_of says (Fund p m n) = fund p m n
request_of says (PastDue stamp) = run stamp.day stamp.minute
request_of says (Report p) = report p

-- what an accepted call of the code answers
abbrev pub answer_of : Answered → Answer
answer_of Done = done
answer_of (Issued b) = issued b
answer_of (Left n) = left n
answer_of (Holds n) = holds n
answer_of (Drew o) = drew o
answer_of (Tells r) = tells r

-- its reply, accepted or refused
abbrev pub reply_of : Result Answered Fault → Reply
reply_of r = replied answer_of r
