-- A call goes through its questions in order; the first no gives its refusal. Assumes nothing.
use Rattle.std.specs.Prelude.{Bool, cond, List, [], ◌∷◌, Ok, Err, Result}

pub record Question (F : Type 0) : Type 0 where
  pub holds : Bool
  pub refusal : F

abbrev pub asks : {F : Type 0} → Bool → F → Question F
asks b f = record { holds = b; refusal = f }

-- what a call answers: a, or the refusal of the first question that does not hold
abbrev pub verdict : {F X : Type 0} → List (Question F) → X → Result X F
verdict [] a = Ok a
verdict (q ∷ qs) a = cond q.holds (verdict qs a) (Err q.refusal)

-- what is there after the call: new where it was accepted, else old
abbrev pub after : {F X Y : Type 0} → Result X F → Y → Y → Y
after (Ok a) new old = new
after (Err f) new old = old

-- an answer seen as what it means
abbrev pub means : {F X Y : Type 0} → (X → Y) → Result X F → Result Y F
means f (Ok a) = Ok (f a)
means f (Err e) = Err e
