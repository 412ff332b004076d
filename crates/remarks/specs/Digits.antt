-- How many digits an invoice number may have. Assumes nothing.
use Rattle.std.specs.Prelude.{ℕ}
use Rattle.remarks.specs.declared.digits.Digits.{Digits}

abbrev pub most_of : Digits → ℕ
most_of d = d.most
