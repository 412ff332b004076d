-- What a call may do to the instruments of a row, place by place. Assumes nothing.
use Rattle.std.specs.Prelude.{◌≡◌, ℕ, ◌≤◌, ◌≢◌, List, slice_index_or}
use Rattle.security.specs.declared.means.Means.{Means}

-- nowhere in the row is there less room by any means, where `room` is the trait's
abbrev pub NoRoomFalls : {I : Type 0} → (I → Means → ℕ) → List I → List I → Type 0
NoRoomFalls {I} room old new = (j : ℕ) (d : I) (m : Means) → room (slice_index_or old j d) m ≤ room (slice_index_or new j d) m

-- nowhere is there more
abbrev pub NoRoomRises : {I : Type 0} → (I → Means → ℕ) → List I → List I → Type 0
NoRoomRises {I} room old new = (j : ℕ) (d : I) (m : Means) → room (slice_index_or new j d) m ≤ room (slice_index_or old j d) m

-- the instruments at all other places are what they were
abbrev pub OnlyAt : {I : Type 0} → ℕ → List I → List I → Type 0
OnlyAt {I} place old new = (j : ℕ) (d : I) → (j ≢ place) → slice_index_or new j d ≡ slice_index_or old j d
