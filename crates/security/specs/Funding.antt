-- How a funding is answered, and what is held after it. Assumes nothing.
use Rattle.std.specs.Prelude.{◌≡◌, ℕ, ◌+◌, cond, List, [], ◌∷◌, ◌++◌, Some, None, Option, Result, MatchResult, ◌==◌, nat_le, codes}
use Rattle.std.specs.Fmt.{decimal}
use Rattle.foundation.specs.Questions.{asks, verdict}
use Rattle.security.specs.declared.means.Means.{Means}
use Rattle.security.specs.declared.means.Means.TheVariants.{Cash, Letter}
use Rattle.security.specs.declared.means.UnknownMeans.{UnknownMeans}
use Rattle.security.specs.declared.means.FundingRefused.{FundingRefused}

abbrev pub means_number : Means → ℕ
means_number Cash = 1
means_number Letter = 2

-- the means of a number: 1 is cash, 2 a letter of credit
abbrev pub numbered : ℕ → Option Means
numbered n = cond (n == 1) (Some Cash) (cond (n == 2) (Some Letter) None)

-- what a number is read as: its means, or a refusal that names the number
abbrev pub NumbersMeans : ℕ → Result Means UnknownMeans → Type 0
NumbersMeans n r = MatchResult r (λ m. Some m ≡ numbered n) (λ e. (None ≡ numbered n) × (e.0 ≡ n))

-- how a means, a number that is none's, and a refusal are printed
abbrev pub means_name : Means → List ℕ
means_name Cash = codes "cash"
means_name Letter = codes "a letter of credit"

abbrev pub unknown_text : ℕ → List ℕ
unknown_text n = codes "no means of funding has number " ++ decimal n

abbrev pub refusal_text : FundingRefused → List ℕ
refusal_text r = codes "a funding of " ++ (decimal r.amount ++ (codes " cents by " ++ (means_name r.means ++ (codes " is above the room of " ++ decimal r.room))))

-- a funding of n by a means is refused if n is above the room, and the refusal names all three
abbrev pub fund_answer : Means → ℕ → ℕ → Result (Unit {0}) FundingRefused
fund_answer m n space = verdict (asks (nat_le n space) (record { means = m; amount = n; room = space }) ∷ []) tt

-- what is held after a funding of n, with this held and this room before
abbrev pub funded : ℕ → ℕ → ℕ → ℕ
funded h n space = cond (nat_le n space) (h + n) h
