-- What registering and enrolling ask, answer and leave. Assumes nothing.
use Rattle.std.specs.Prelude.{ℕ, not, List, [], ◌∷◌, ◌++◌, length, is_some, Result, nat_lt}
use Rattle.std.specs.Option.{unwrap_or}
use Rattle.foundation.specs.Limits.{most_counter_parties, most_participants}
use Rattle.foundation.specs.Questions.{Question, asks, verdict}
use Rattle.ledger.specs.declared.registry.fault.Fault.{Fault}
use Rattle.ledger.specs.declared.registry.fault.Fault.TheVariants.{Zero, Known, Full, CounterParty}
use Rattle.ledger.specs.Registries.{Register, place_of}

abbrev pub register_asks : Register → ℕ → List (Question Fault)
register_asks s p =
    asks (nat_lt 0 p) Zero
    ∷ asks (not (is_some (place_of s.parties p))) Known
    ∷ asks (nat_lt (length s.parties) most_counter_parties) Full
    ∷ []

abbrev pub register_answer : Register → ℕ → Result (Unit {0}) Fault
register_answer s p = verdict (register_asks s p) tt

abbrev pub registered : Register → ℕ → Register
registered s p = record { parties = s.parties ++ p ∷ []; participants = s.participants; under = s.under }

abbrev pub enrol_asks : Register → ℕ → ℕ → List (Question Fault)
enrol_asks s m p =
    asks (nat_lt 0 m) Zero
    ∷ asks (not (is_some (place_of s.participants m))) Known
    ∷ asks (is_some (place_of s.parties p)) CounterParty
    ∷ asks (nat_lt (length s.participants) most_participants) Full
    ∷ []

abbrev pub enrol_answer : Register → ℕ → ℕ → Result (Unit {0}) Fault
enrol_answer s m p = verdict (enrol_asks s m p) tt

abbrev pub enrolled : Register → ℕ → ℕ → Register
enrolled s m p = record { parties = s.parties; participants = s.participants ++ m ∷ []; under = s.under ++ unwrap_or (place_of s.parties p) 0 ∷ [] }
