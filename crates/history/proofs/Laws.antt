-- The law over any list of calls. Assumes nothing.
use Rattle.std.proofs.Common.{◌≡◌, ℕ, ◌+◌, List, [], ◌∷◌, sum_by, sum, sym, refl, ap, subst, arith}
use Rattle.std.specs.List.{AllByRecursion}
use Rattle.std.proofs.lemmas.List.Sums.{sum_by-cons}
use Rattle.receivables.specs.Invoices.{owed_by}
use Rattle.receivables.proofs.Owing.{Distinct}
use Rattle.ledger.specs.Secure.{Security}
use Rattle.history.specs.Steps.{State, helds_of}
use Rattle.history.specs.Histories.{Moment, Linked, Law, begin, invoices_of, parties_of, charged, amount, payments, draws, funding, drawn_total, FairBill, RightRun}
use Rattle.history.proofs.Keeps.{SoundState, sound-step}
use Rattle.history.proofs.Effects.{cents-step, security-step, fair-step, run_step}
use Rattle.history.proofs.Amounts.{Extends, amount-step, extends-same, extends-on, extends-step, sum-none, sum_both}

pub sound-begin : (account : ℕ) (row : List Security) → SoundState (begin account row)
sound-begin account row = record { listed = omega arith; placed = tt; distinct = λ i j li lj e. absurd (omega arith); few = omega arith }

-- ---- along a list of calls
sound-from : (s : State) (m : Moment) → s ≡ m.before → SoundState s → SoundState m.before
sound-from s m e ok = subst SoundState e ok

sound-all : (s t : State) (ms : List Moment) → Linked s ms t → SoundState s → SoundState t
sound-all s t [] h ok = subst SoundState h ok
sound-all s t (m ∷ ms) h ok = sound-all m.next t ms h.2 (sound-step m.before m.next m.request m.reply h.1 (sound-from s m h.0 ok))

extends-all : (s t : State) (ms : List Moment) → Linked s ms t → Extends (parties_of s) (parties_of t)
extends-all s t [] h = extends-same (parties_of s) (parties_of t) (ap parties_of (sym h))
extends-all s t (m ∷ ms) h =
    extends-on (parties_of s) (parties_of m.before) (parties_of t) (extends-same (parties_of s) (parties_of m.before) (ap parties_of (sym h.0)))
    (extends-on (parties_of m.before) (parties_of m.next) (parties_of t) (extends-step m.before m.next m.request m.reply h.1) (extends-all m.next t ms h.2))

cents-all : (p : ℕ) (s t : State) (ms : List Moment) → Linked s ms t → SoundState s → owed_by (invoices_of s) p + sum_by (charged p) ms ≡ sum_by (payments p) ms + sum_by (draws p) ms + owed_by (invoices_of t) p
cents-all p s t [] h ok = omega (arith, ap (λ u. owed_by (invoices_of u) p) h)
cents-all p s t (m ∷ ms) h ok =
    let here = sound-from s m h.0 ok in
    let next = sound-step m.before m.next m.request m.reply h.1 here in
    omega (arith, ap (λ u. owed_by (invoices_of u) p) h.0, cents-step p m.before m.next m.request m.reply h.1 here, cents-all p m.next t ms h.2 next, sum_by-cons (charged p) m ms, sum_by-cons (payments p) m ms, sum_by-cons (draws p) m ms)

security-all : (s t : State) (ms : List Moment) → Linked s ms t → SoundState s → sum (helds_of s.row) + sum_by funding ms ≡ sum_by drawn_total ms + sum (helds_of t.row)
security-all s t [] h ok = omega (arith, ap (λ u. sum (helds_of u.row)) h)
security-all s t (m ∷ ms) h ok =
    let here = sound-from s m h.0 ok in
    let next = sound-step m.before m.next m.request m.reply h.1 here in
    omega (arith, ap (λ u. sum (helds_of u.row)) h.0, security-step m.before m.next m.request m.reply h.1 here, security-all m.next t ms h.2 next, sum_by-cons funding m ms, sum_by-cons drawn_total m ms)

fair-all : (s t : State) (ms : List Moment) → Linked s ms t → AllByRecursion (λ m. FairBill m.before m.request m.reply) ms
fair-all s t [] h = tt
fair-all s t (m ∷ ms) h = (fair-step m.before m.next m.request m.reply h.1, fair-all m.next t ms h.2)

runs-all : (s t : State) (ms : List Moment) → Linked s ms t → SoundState s → AllByRecursion (λ m. RightRun m.before m.request m.reply m.next) ms
runs-all s t [] h ok = tt
runs-all s t (m ∷ ms) h ok =
    let here = sound-from s m h.0 ok in
    (run_step m.before m.next m.request m.reply h.1 here, runs-all m.next t ms h.2 (sound-step m.before m.next m.request m.reply h.1 here))

amounts-all : (qs : List ℕ) (s t : State) (ms : List Moment) → Linked s ms t → SoundState s → Distinct qs → Extends (parties_of t) qs → sum_by (λ p. sum_by (charged p) ms) qs ≡ sum_by amount ms
amounts-all qs s t [] h ok d ext = sum-none (λ p. 0) (λ p. refl) qs
amounts-all qs s t (m ∷ ms) h ok d ext =
    let here = sound-from s m h.0 ok in
    let next = sound-step m.before m.next m.request m.reply h.1 here in
    let later = extends-on (parties_of m.before) (parties_of m.next) qs (extends-step m.before m.next m.request m.reply h.1) (extends-on (parties_of m.next) (parties_of t) qs (extends-all m.next t ms h.2) ext) in
    omega (
      arith,
      sum_both (λ p. charged p m) (λ p. sum_by (charged p) ms) (λ p. sum_by (charged p) (m ∷ ms)) (λ p. sum_by-cons (charged p) m ms) qs,
      amount-step qs m.before m.next m.request m.reply h.1 here d later,
      amounts-all qs m.next t ms h.2 next d ext,
      sum_by-cons amount m ms,
    )

pub law-of : (account : ℕ) (row : List Security) (t : State) (ms : List Moment) → Linked (begin account row) ms t → Law (begin account row) ms t
law-of account row t ms h =
    let s = begin account row in
    let ok = sound-begin account row in
    record {
      cents = λ p. omega (arith, cents-all p s t ms h ok);
      amounts = amounts-all (parties_of t) s t ms h ok (sound-all s t ms h ok).distinct (extends-same (parties_of t) (parties_of t) refl);
      security = security-all s t ms h ok;
      fair = fair-all s t ms h;
      runs = runs-all s t ms h ok;
    }
