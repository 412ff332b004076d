-- What a bill asks, answers and leaves. Assumes nothing.
use Rattle.std.specs.Prelude.{ℕ, ◌+◌, ◌&&◌, List, [], ◌∷◌, map, length, is_some, Some, sum, Result, nat_le, slice_index}
use Rattle.std.specs.List.{range_with_len}
use Rattle.std.specs.Option.{unwrap_or}
use Rattle.foundation.specs.Limits.{last_month, most_activity, most_counter_parties}
use Rattle.foundation.specs.Questions.{Question, asks, verdict}
use Rattle.calendar.specs.Due.{due_day_of}
use Rattle.calendar.specs.Meaning.{CalendarMeaning}
use Rattle.calendar.specs.Moments.{is_moment}
use Rattle.records.specs.declared.fault.Fault.TheVariants as record-fault
use Rattle.activity.specs.Activity.{activities}
use Rattle.activity.specs.Tables.{TableMeaning, carries}
use Rattle.split.specs.declared.fault.Fault.TheVariants as split-fault
use Rattle.split.specs.Amounts.{is_amount}
use Rattle.split.specs.Split.{charges, laid_out}
use Rattle.receivables.specs.declared.charge.Charge.{Charge}
use Rattle.receivables.specs.declared.charge.Issued.{Issued}
use Rattle.receivables.specs.declared.fault.Fault.TheVariants as receivable
use Rattle.receivables.specs.Books.{Book}
use Rattle.receivables.specs.Issued.{positive, after_issue}
use Rattle.ledger.specs.declared.answers.Billed.{Billed}
use Rattle.ledger.specs.declared.fault.Fault.{Fault}
use Rattle.ledger.specs.declared.fault.Fault.TheVariants.{NoMoment, Before, Record, Split, Month, DueDay, Receivable}
use Rattle.ledger.specs.Model.{Model, in_order, is_later}

-- the activity of each Counter-Party, in order of registration
abbrev pub activities_of : Model → TableMeaning → List ℕ
activities_of s t = activities t.rows s.register.under (length s.register.parties)

abbrev pub charges_of : Model → TableMeaning → ℕ → List ℕ
charges_of s t amount = charges amount (activities_of s t)

-- what each Counter-Party is charged, and where its security stands
unfoldable pub bills : List ℕ → List ℕ → List Charge
bills parties cs = map (λ k. record { billed = slice_index parties k; position = k; cents = slice_index cs k }) (range_with_len 0 (length parties))

-- the charges of a bill in the ledger's table of 32 places
abbrev pub laid_charges : Model → TableMeaning → ℕ → List ℕ
laid_charges s t amount = laid_out (charges_of s t amount) most_counter_parties

abbrev pub bills_of : Model → TableMeaning → ℕ → List Charge
bills_of s t amount = bills s.register.parties (laid_charges s t amount)

-- the nine questions, in order
abbrev pub bill_asks : Model → TableMeaning → ℕ → ℕ → ℕ → ℕ → CalendarMeaning → List (Question Fault)
bill_asks s t month amount day minute cal =
    asks (is_moment day minute) NoMoment
    ∷ asks (in_order s.moment (record { day = day; minute = minute })) Before
    ∷ asks (carries t month) (Record record-fault.Month)
    ∷ asks (is_amount amount) (Split split-fault.Amount)
    ∷ asks (nat_le month last_month && is_later s.month month) Month
    ∷ asks (nat_le 1 (sum (activities_of s t))) (Split split-fault.NoActivity)
    ∷ asks (nat_le (sum (activities_of s t)) most_activity) (Split split-fault.TooMuchActivity)
    ∷ asks (is_some (due_day_of cal day)) DueDay
    ∷ asks (nat_le (length s.book.invoices + positive (bills_of s t amount)) 256) (Receivable receivable.Places)
    ∷ []

abbrev pub bill_answer : Model → TableMeaning → ℕ → ℕ → ℕ → ℕ → CalendarMeaning → Result Billed Fault
bill_answer s t month amount day minute cal =
    verdict (bill_asks s t month amount day minute cal) (record { count = positive (bills_of s t amount); first = s.book.next; due_day = unwrap_or (due_day_of cal day) 0 })

-- the ledger after an accepted bill
abbrev pub billed : Model → TableMeaning → ℕ → ℕ → ℕ → ℕ → CalendarMeaning → Model
billed s t month amount day minute cal = record {
  register = s.register;
  book = after_issue s.book (unwrap_or (due_day_of cal day) 0) (bills_of s t amount);
  charges = laid_charges s t amount;
  moment = Some (record { day = day; minute = minute });
  month = Some month;
}

-- ---- the parts of a bill's answer, as its steps give them
abbrev pub charge_asks : Model → TableMeaning → ℕ → ℕ → List (Question Fault)
charge_asks s t month amount =
    asks (carries t month) (Record record-fault.Month)
    ∷ asks (is_amount amount) (Split split-fault.Amount)
    ∷ asks (nat_le month last_month && is_later s.month month) Month
    ∷ asks (nat_le 1 (sum (activities_of s t))) (Split split-fault.NoActivity)
    ∷ asks (nat_le (sum (activities_of s t)) most_activity) (Split split-fault.TooMuchActivity)
    ∷ []

abbrev pub charge_answer : Model → TableMeaning → ℕ → ℕ → Result (List ℕ) Fault
charge_answer s t month amount = verdict (charge_asks s t month amount) (laid_charges s t amount)

abbrev pub place_asks : Book → List Charge → List (Question Fault)
place_asks b cs = asks (nat_le (length b.invoices + positive cs) 256) (Receivable receivable.Places) ∷ []

abbrev pub place_answer : Book → List Charge → Result Issued Fault
place_answer b cs = verdict (place_asks b cs) (record { count = positive cs; first = b.next })
