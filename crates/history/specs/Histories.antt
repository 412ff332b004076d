-- A list of calls, each finding what the one before it left, and what then holds of all of them. Assumes nothing.
use Rattle.std.specs.Prelude.{◌≡◌, ℕ, ◌+◌, ◌-◌, Bool, true, false, List, [], ◌∷◌, map, Some, None, Ok, Err, sum_by, sum, Option, slice_index}
use Rattle.std.specs.List.{AllByRecursion}
use Rattle.split.specs.Laws.{FairSplit}
use Rattle.receivables.specs.declared.invoice.Invoice.{Invoice}
use Rattle.receivables.specs.Invoices.{is_past_due, owed_by}
use Rattle.receivables.specs.Issued.{charged_to}
use Rattle.receivables.specs.Payments.{balance_of, billed_of, counts_for}
use Rattle.ledger.specs.Bill.{activities_of, charges_of, bills_of}
use Rattle.ledger.specs.Model.{at, new_model}
use Rattle.ledger.specs.Pay.{payee}
use Rattle.ledger.specs.Registries.{place_of}
use Rattle.ledger.specs.Secure.{Security}
use Rattle.history.specs.Requests.{Request, register, enrol, bill, pay, fund, run, report, Reply, done, issued, left, holds, drew, tells}
use Rattle.history.specs.Steps.{State, helds_of, Step}

-- a call, what it found, answered and left
pub record Moment : Type 0 where
  pub before : State
  pub request : Request
  pub reply : Reply
  pub next : State

abbrev pub Linked : State → List Moment → State → Type 0
Linked s [] t = s ≡ t
Linked s (m ∷ ms) t = (s ≡ m.before) × Step m.before m.request m.reply m.next × Linked m.next ms t

-- a refused call counts for nothing
abbrev pub accepted : Reply → ℕ → ℕ
accepted (Ok x) n = n
accepted (Err f) n = 0

abbrev pub invoices_of : State → List Invoice
invoices_of s = s.ledger.book.invoices

abbrev pub parties_of : State → List ℕ
parties_of s = s.ledger.register.parties

abbrev pub held_there : Option ℕ → List ℕ → ℕ
held_there None hs = 0
held_there (Some k) hs = slice_index hs k

-- the cents that a Counter-Party's security holds
abbrev pub held_by : State → ℕ → ℕ
held_by s p = held_there (place_of (parties_of s) p) (helds_of s.row)

-- ---- what a call charges a Counter-Party, and its amount
abbrev pub billed_in : ℕ → State → Request → ℕ
billed_in p s (register q) = 0
billed_in p s (enrol m q) = 0
billed_in p s (bill table month amount day minute cal) = charged_to (bills_of s.ledger table amount) p
billed_in p s (pay day minute account amount remark) = 0
billed_in p s (fund q m n) = 0
billed_in p s (run day minute) = 0
billed_in p s (report q) = 0

abbrev pub amount_in : Request → ℕ
amount_in (register q) = 0
amount_in (enrol m q) = 0
amount_in (bill table month amount day minute cal) = amount
amount_in (pay day minute account amount remark) = 0
amount_in (fund q m n) = 0
amount_in (run day minute) = 0
amount_in (report q) = 0

-- ---- what it takes in: a payment counts for the Counter-Party of the invoice that it names
abbrev pub paid_in : ℕ → State → Request → ℕ
paid_in p s (register q) = 0
paid_in p s (enrol m q) = 0
paid_in p s (bill table month amount day minute cal) = 0
paid_in p s (pay day minute account amount remark) = counts_for p (billed_of (invoices_of s) (payee remark)) amount
paid_in p s (fund q m n) = 0
paid_in p s (run day minute) = 0
paid_in p s (report q) = 0

-- ---- what it draws from a Counter-Party's security
abbrev pub drawn_in : ℕ → State → Request → State → ℕ
drawn_in p s (register q) t = 0
drawn_in p s (enrol m q) t = 0
drawn_in p s (bill table month amount day minute cal) t = 0
drawn_in p s (pay day minute account amount remark) t = 0
drawn_in p s (fund q m n) t = 0
drawn_in p s (run day minute) t = held_by s p - held_by t p
drawn_in p s (report q) t = 0

-- ---- what it adds to security, and the total that a run answers
abbrev pub funded_in : Request → ℕ
funded_in (register q) = 0
funded_in (enrol m q) = 0
funded_in (bill table month amount day minute cal) = 0
funded_in (pay day minute account amount remark) = 0
funded_in (fund q m n) = n
funded_in (run day minute) = 0
funded_in (report q) = 0

abbrev pub total_in : Reply → ℕ
total_in (Ok done) = 0
total_in (Ok (issued b)) = 0
total_in (Ok (left n)) = 0
total_in (Ok (holds n)) = 0
total_in (Ok (drew o)) = o.drawn
total_in (Ok (tells r)) = 0
total_in (Err f) = 0

abbrev pub charged : ℕ → Moment → ℕ
charged p m = accepted m.reply (billed_in p m.before m.request)

abbrev pub amount : Moment → ℕ
amount m = accepted m.reply (amount_in m.request)

abbrev pub payments : ℕ → Moment → ℕ
payments p m = accepted m.reply (paid_in p m.before m.request)

abbrev pub draws : ℕ → Moment → ℕ
draws p m = accepted m.reply (drawn_in p m.before m.request m.next)

abbrev pub funding : Moment → ℕ
funding m = accepted m.reply (funded_in m.request)

abbrev pub drawn_total : Moment → ℕ
drawn_total m = total_in m.reply

-- ---- an accepted bill is split fairly
abbrev pub FairBill : State → Request → Reply → Type 0
FairBill s q (Err f) = Unit {0}
FairBill s (register p) (Ok x) = Unit {0}
FairBill s (enrol m p) (Ok x) = Unit {0}
FairBill s (bill table month amount day minute cal) (Ok x) = FairSplit amount (activities_of s.ledger table) (charges_of s.ledger table amount)
FairBill s (pay day minute account amount remark) (Ok x) = Unit {0}
FairBill s (fund p m n) (Ok x) = Unit {0}
FairBill s (run day minute) (Ok x) = Unit {0}
FairBill s (report p) (Ok x) = Unit {0}

-- ---- a run that leaves t: past due and owed only where the security is empty; not past due, the balance stays
pub record Drained (past : Invoice → Bool) (s t : State) : Type 0 where
  pub empty : AllByRecursion (λ v. past v ≡ true → held_by t v.billed ≡ 0) (invoices_of t)
  pub spared : AllByRecursion (λ v. past v ≡ false → balance_of (invoices_of t) v.number ≡ v.balance) (invoices_of s)

abbrev pub RightRun : State → Request → Reply → State → Type 0
RightRun s q (Err f) t = Unit {0}
RightRun s (register p) (Ok x) t = Unit {0}
RightRun s (enrol m p) (Ok x) t = Unit {0}
RightRun s (bill table month amount day minute cal) (Ok x) t = Unit {0}
RightRun s (pay day minute account amount remark) (Ok x) t = Unit {0}
RightRun s (fund p m n) (Ok x) t = Unit {0}
RightRun s (run day minute) (Ok x) t = Drained (is_past_due (at day minute)) s t
RightRun s (report p) (Ok x) t = Unit {0}

abbrev pub begin : ℕ → List Security → State
begin account row = record { ledger = new_model account; row = row }

-- ---- the law of a list of calls from one state to another
pub record Law (start : State) (ms : List Moment) (end : State) : Type 0 where
  -- charges billed are payments, draws and balances owed
  pub cents : (p : ℕ) → sum_by (charged p) ms ≡ sum_by (payments p) ms + sum_by (draws p) ms + owed_by (invoices_of end) p
  -- all charges add up to the amounts of the bills
  pub amounts : sum_by (λ p. sum_by (charged p) ms) (parties_of end) ≡ sum_by amount ms
  -- security at the start and funded is security drawn and left
  pub security : sum (helds_of start.row) + sum_by funding ms ≡ sum_by drawn_total ms + sum (helds_of end.row)
  -- every accepted bill is split fairly
  pub fair : AllByRecursion (λ m. FairBill m.before m.request m.reply) ms
  -- every accepted run leaves what it should
  pub runs : AllByRecursion (λ m. RightRun m.before m.request m.reply m.next) ms

-- the history of these requests and replies, from a new ledger and a row on
pub record History (account : ℕ) (requests : List Request) (replies : List Reply) (row : List Security) (end : State) : Type 0 where
  pub moments : List Moment
  pub in_order : map (λ m. m.request) moments ≡ requests
  pub answered : map (λ m. m.reply) moments ≡ replies
  pub linked : Linked (begin account row) moments end
  pub law : Law (begin account row) moments end
