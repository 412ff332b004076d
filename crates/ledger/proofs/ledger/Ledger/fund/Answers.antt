use Rattle.std.proofs.Common.{◌≡◌, false, leb, refl, arith}
use borrow.Author.Tests.{lt-leb}
use Rattle.std.proofs.lemmas.Bool.{and_left, and_right}
use Rattle.ledger.specs.Model.{model_of}
use Rattle.ledger.specs.Secure.{row_of, is_funding}
use Rattle.ledger.proofs.Secured.{in_row, no-amount}
use Rattle.ledger.proofs.ledger.Ledger.fund.Goals as goal
use Rattle.ledger.proofs.ledger.Ledger.fund.Goals.{then-amount-lt1-via-then-amount-lt1, then-amount-lt1-via-else-amount-lt1+then-amount-gt-MOST_FUNDING}

pub returns-then-amount-lt1 : goal.returns-then-amount-lt1
returns-then-amount-lt1 g c =
    let s = model_of c.args.self.now in
    let row = row_of g.I.Instrument.held g.I.Instrument.room c.args.row.now in
    let at = in_row g.I.Instrument.held g.I.Instrument.room s c.args.row.now c.args.counter_party _ c.in_ok-place.ensures.answer in
    let n = c.args.amount in
    let out : is_funding n ≡ false = elim c.then-amount-lt1.branch [
      | then-amount-lt1-via-then-amount-lt1 w ↦ and_left (leb 1 n) (leb n 1000000000) (lt-leb 1 n w.if-amount-lt1.true)
      | then-amount-lt1-via-else-amount-lt1+then-amount-gt-MOST_FUNDING w ↦ and_right (leb 1 n) (leb n 1000000000) (lt-leb n 1000000000 w.if-amount-gt-MOST_FUNDING.true)
    ] in
    record { answer = no-amount s row c.args.counter_party c.args.means n c.in_ok-place.place at c.in_ok-means.means c.in_ok-means.ensures out; helds = refl; others = λ j d o. refl; rooms = λ j d m. omega arith; refused = λ h. refl }
