-- What funding, the past-due run and the report ask, answer and leave. Assumes nothing.
use Rattle.std.specs.Prelude.{ℕ, ◌+◌, ◌-◌, ◌*◌, min, Bool, ◌&&◌, List, [], ◌∷◌, map, length, is_some, Some, Result, nat_le, slice_index, slice_index_or, slice_set}
use Rattle.std.specs.Option.{unwrap_or}
use Rattle.foundation.specs.Limits.{most_held, most_funding}
use Rattle.foundation.specs.Questions.{Question, asks, verdict}
use Rattle.calendar.specs.Moments.{is_moment}
use Rattle.security.specs.declared.means.Means.{Means}
use Rattle.security.specs.declared.means.Means.TheVariants as means
use Rattle.security.specs.declared.means.FundingRefused.{FundingRefused}
use Rattle.security.specs.Funding.{numbered}
use Rattle.ledger.specs.declared.registry.fault.Fault.TheVariants as registry-fault
use Rattle.ledger.specs.Registries.{place_of}
use Rattle.receivables.specs.declared.draws.Outcome.{Outcome}
use Rattle.receivables.specs.Invoices.{is_past_due, owed_by}
use Rattle.receivables.specs.Run.{outcome, after_run}
use Rattle.ledger.specs.declared.answers.Report.{Report}
use Rattle.ledger.specs.declared.fault.Fault.{Fault}
use Rattle.ledger.specs.declared.fault.Fault.TheVariants.{NoMoment, Before, Registry, Row, Means as MeansFault, Funding, Room}
use Rattle.ledger.specs.Model.{Model, in_order}

-- an instrument by its meaning
pub record Security : Type 0 where
  pub held : ℕ
  pub room : Means → ℕ

-- an instrument's, by what its kind holds and has room for
abbrev pub security_of : {I : Type 0} → (I → ℕ) → (I → Means → ℕ) → I → Security
security_of held room x = record { held = held x; room = room x }

abbrev pub row_of : {I : Type 0} → (I → ℕ) → (I → Means → ℕ) → List I → List Security
row_of held room row = map (security_of held room) row

-- what stands past a row's end
abbrev pub no_security : Security
no_security = record { held = 0; room = λ m. 0 }

-- the position of a Counter-Party, 0 where it is not registered
abbrev pub party_at : Model → ℕ → ℕ
party_at s p = unwrap_or (place_of s.register.parties p) 0

abbrev pub is_registered : Model → ℕ → Bool
is_registered s p = is_some (place_of s.register.parties p)

-- the row has at least as many places as there are Counter-Parties
abbrev pub is_long : Model → ℕ → Bool
is_long s places = nat_le (length s.register.parties) places

-- the Counter-Party is registered and the row is long enough: where its security stands
abbrev pub place_asks : Model → ℕ → ℕ → List (Question Fault)
place_asks s places p = asks (is_registered s p) (Registry registry-fault.CounterParty) ∷ asks (is_long s places) Row ∷ []

abbrev pub place_answer : Model → ℕ → ℕ → Result ℕ Fault
place_answer s places p = verdict (place_asks s places p) (party_at s p)

-- a funding of one instrument by n, and what it then holds
abbrev pub place_funded : Security → Means → ℕ → Result ℕ FundingRefused
place_funded x m n = verdict (asks (nat_le n (x.room m)) (record { means = m; amount = n; room = x.room m }) ∷ []) (min (x.held + n) most_held)

-- the room at a Counter-Party's position
abbrev pub room_for : Model → List Security → ℕ → Means → ℕ
room_for s row p m = (slice_index_or row (party_at s p) no_security).room m

abbrev pub means_of : ℕ → Means
means_of number = unwrap_or (numbered number) means.Cash

abbrev pub is_funding : ℕ → Bool
is_funding n = nat_le 1 n && nat_le n most_funding

abbrev pub fund_asks : Model → List Security → ℕ → ℕ → ℕ → List (Question Fault)
fund_asks s row p m n =
    asks (is_registered s p) (Registry registry-fault.CounterParty)
    ∷ asks (is_long s (length row)) Row
    ∷ asks (is_some (numbered m)) MeansFault
    ∷ asks (is_funding n) Funding
    ∷ asks (nat_le n (room_for s row p (means_of m))) (Room (record { means = means_of m; amount = n; room = room_for s row p (means_of m) }))
    ∷ []

abbrev pub fund_answer : Model → List Security → ℕ → ℕ → ℕ → Result ℕ Fault
fund_answer s row p m n = verdict (fund_asks s row p m n) (min ((slice_index_or row (party_at s p) no_security).held + n) most_held)

-- the cents held at each place after an accepted funding
abbrev pub funded : Model → List ℕ → ℕ → ℕ → List ℕ
funded s hs p n = slice_set hs (party_at s p) (slice_index hs (party_at s p) + n)

abbrev pub run_asks : Model → ℕ → ℕ → ℕ → List (Question Fault)
run_asks s places day minute =
    asks (is_moment day minute) NoMoment
    ∷ asks (in_order s.moment (record { day = day; minute = minute })) Before
    ∷ asks (is_long s places) Row
    ∷ []

abbrev pub run_answer : Model → List ℕ → ℕ → ℕ → Result Outcome Fault
run_answer s hs day minute = verdict (run_asks s (length hs) day minute) (outcome (is_past_due (record { day = day; minute = minute })) s.book.invoices hs)

abbrev pub ran : Model → List ℕ → ℕ → ℕ → Model
ran s hs day minute = record {
  register = s.register;
  book = after_run (is_past_due (record { day = day; minute = minute })) s.book hs;
  charges = s.charges;
  moment = Some (record { day = day; minute = minute });
  month = s.month;
}

-- a Counter-Party's report, by its place: exposure is twice the charge in the last accepted bill
abbrev pub exposure_at : Model → ℕ → ℕ
exposure_at s k = 2 * slice_index s.charges k

abbrev pub held_at : List ℕ → ℕ → ℕ
held_at hs k = min (slice_index hs k) most_held

abbrev pub reported : Model → List ℕ → ℕ → ℕ → Report
reported s hs p k = record { owed = owed_by s.book.invoices p; exposure = exposure_at s k; held = held_at hs k; uncovered = exposure_at s k - held_at hs k }

abbrev pub report_answer : Model → List ℕ → ℕ → Result Report Fault
report_answer s hs p = verdict (place_asks s (length hs) p) (reported s hs p (party_at s p))
