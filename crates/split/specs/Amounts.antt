-- A month's amount. Assumes nothing.
use Rattle.std.specs.Prelude.{ℕ, Bool, ◌&&◌, [], ◌∷◌, Result, nat_le}
use Rattle.foundation.specs.Limits.{most_amount}
use Rattle.foundation.specs.Questions.{asks, verdict}
use Rattle.split.specs.declared.amount.Amount.{Amount}
use Rattle.split.specs.declared.fault.Fault.{Fault}
use Rattle.split.specs.declared.fault.Fault.TheVariants as fault

abbrev pub cents_of : Amount → ℕ
cents_of a = a.cents

-- is it 1 to 1,000,000,000?
abbrev pub is_amount : ℕ → Bool
is_amount cents = nat_le 1 cents && nat_le cents most_amount

abbrev pub amount_answer : ℕ → Result ℕ Fault
amount_answer cents = verdict (asks (is_amount cents) fault.Amount ∷ []) cents
