-- What is owed on all invoices together. Assumes nothing.
use Rattle.std.proofs.Common.{ℕ, ◌^◌, ◌<◌, ◌≤◌, List, arith}
use Rattle.std.proofs.ByRecursion.{sum_by_le}
use Rattle.receivables.specs.declared.invoice.Invoice.{Invoice}
use Rattle.receivables.specs.Invoices.{balances}
use Rattle.receivables.proofs.Lists.{Listed, all_small, listed-long}

-- what is kept fits 64 bits
pub balances-fit : (low high : ℕ) (vs : List Invoice) → high ≤ 4294967295 → Listed low high vs → balances vs < 2 ^ 64
balances-fit low high vs few l = omega (arith, sum_by_le (λ v. v.balance) 4294967295 vs (all_small low high vs l), listed-long low high vs l)
