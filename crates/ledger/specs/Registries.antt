-- What a registry holds. Assumes nothing.
use Rattle.std.specs.Prelude.{ℕ, List, [], length, vec_items, Option, nat_eq, slice_index}
use Rattle.foundation.specs.Counting.{first}
use Rattle.ledger.specs.declared.registry.Registry.{Registry}

-- the numbers of Counter-Parties in order of registration and of participants in order of enrolment,
-- and for each participant the position of its Counter-Party
pub record Register : Type 0 where
  pub parties : List ℕ
  pub participants : List ℕ
  pub under : List ℕ

abbrev pub register_of : Registry → Register
register_of r = record { parties = vec_items r.counter_parties; participants = vec_items r.participants; under = vec_items r.under }

abbrev pub nobody : Register
nobody = record { parties = []; participants = []; under = [] }

-- the position of a number
unfoldable pub place_of : List ℕ → ℕ → Option ℕ
place_of xs n = first (λ k. nat_eq (slice_index xs k) n) (length xs)
