-- What holds of the invoices that are kept, as a test. Assumes nothing.
use Rattle.std.specs.Prelude.{ℕ, ◌+◌, Bool, ◌&&◌, List, [], ◌∷◌, nat_le, nat_lt}
use Rattle.receivables.specs.declared.invoice.Invoice.{Invoice}
use Rattle.receivables.specs.Invoices.{unsettled}

-- something is owed, no more than a charge can be, and the invoice is open or short
abbrev pub standing : Invoice → Bool
standing v = nat_lt 0 v.balance && (nat_le v.balance 4294967295 && unsettled v)

-- the numbers rise, from low on, and are below high; and each invoice stands
abbrev pub listed : ℕ → ℕ → List Invoice → Bool
listed low high [] = nat_le low high
listed low high (v ∷ vs) = nat_le low v.number && (standing v && listed (v.number + 1) high vs)
