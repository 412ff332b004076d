use Rattle.std.proofs.Common.{rules, ◌≡◌, sym, subst}
use Rattle.history.specs.Requests.{replied, holds, drew, tells}
use Rattle.ledger.specs.Model.{model_of}
use Rattle.history.specs.Calls.{request_of, reply_of}
use Rattle.history.specs.Steps.{Step}
use Rattle.history.specs.Places.{state_of, PlacesKept}
use Rattle.history.proofs.Made.{fund-step, fund-places, run-step, run-places, report-step}
use Rattle.history.proofs.call.Call.step.Goals as goal

pub returns-in-Fund : goal.returns-in-Fund
returns-in-Fund g c =
    let held = g.I.Instrument.held in
    let room = g.I.Instrument.room in
    let e = c.fund.ensures in
    let s = model_of c.args.ledger.now in
    let row = c.args.row.now in
    let later = c.fund.new.row in
    let before = state_of held room c.args.ledger.now row in
    let next = state_of held room c.args.ledger.now later in
    let is = sym c.in-Fund.is in
    let said : reply_of c.map-in-Fund.result ≡ replied holds c.fund.result = search rules in
    record {
      step = subst (λ q. Step before (request_of g.C.Calendar.meaning q) (reply_of c.map-in-Fund.result) next) is
          (fund-step held room s row later c.fund.auto.row c.in-Fund.counter_party c.in-Fund.means c.in-Fund.amount c.fund.result (reply_of c.map-in-Fund.result) e.answer e.helds said);
      places = subst (λ q. PlacesKept before (request_of g.C.Calendar.meaning q) (reply_of c.map-in-Fund.result) next) is
          (fund-places held room s row later c.fund.auto.row c.in-Fund.counter_party c.in-Fund.means c.in-Fund.amount c.fund.result (reply_of c.map-in-Fund.result) e.others e.rooms e.refused said);
    }

pub returns-in-PastDue : goal.returns-in-PastDue
returns-in-PastDue g c =
    let held = g.I.Instrument.held in
    let room = g.I.Instrument.room in
    let e = c.past_due.ensures in
    let s = model_of c.args.ledger.now in
    let row = c.args.row.now in
    let later = c.past_due.new.row in
    let before = state_of held room c.args.ledger.now row in
    let next = state_of held room c.past_due.new.self later in
    let is = sym c.in-PastDue.is in
    let said : reply_of c.map-in-PastDue.result ≡ replied drew c.past_due.result = search rules in
    record {
      step = subst (λ q. Step before (request_of g.C.Calendar.meaning q) (reply_of c.map-in-PastDue.result) next) is
          (run-step held room s row later c.past_due.auto.row (model_of c.past_due.new.self) c.in-PastDue.stamp.day c.in-PastDue.stamp.minute c.past_due.result (reply_of c.map-in-PastDue.result) e.answer e.model e.helds said);
      places = subst (λ q. PlacesKept before (request_of g.C.Calendar.meaning q) (reply_of c.map-in-PastDue.result) next) is
          (run-places held room s row later c.past_due.auto.row (model_of c.past_due.new.self) c.in-PastDue.stamp.day c.in-PastDue.stamp.minute c.past_due.result (reply_of c.map-in-PastDue.result) e.others e.rooms e.refused said);
    }

pub returns-in-Report-clause-step : goal.returns-in-Report-clause-step
returns-in-Report-clause-step g c =
    let held = g.I.Instrument.held in
    let room = g.I.Instrument.room in
    let row = c.args.row.now in
    let said : reply_of c.map-in-Report.result ≡ replied tells c.report.result = search rules in
    subst (λ q. Step (state_of held room c.args.ledger.now row) (request_of g.C.Calendar.meaning q) (reply_of c.map-in-Report.result) (state_of held room c.args.ledger.now row)) (sym c.in-Report.is)
    (report-step held room (model_of c.args.ledger.now) row c.in-Report.counter_party c.report.result (reply_of c.map-in-Report.result) c.report.ensures said)
