use Rattle.std.proofs.Common.{◌≡◌, ◌≤◌, map, length, take, vec_items, vec_len, vec_capacity}
use Rattle.ledger.specs.Secure.{row_of}
use Rattle.history.specs.Calls.{request_of, reply_of}
use Rattle.history.specs.Places.{state_of}
use Rattle.history.specs.Whole.{WholeHistory}
use Rattle.history.proofs.carry.carry_out.Given as goal

abbrev pub invariant-loop-call : goal.invariant-loop-call
invariant-loop-call g l =
    (vec_len l.replies ≡ l.call-index)
    × (length l.calls ≤ vec_capacity l.replies)
    × WholeHistory l.account (map (request_of g.C.Calendar.meaning) (take l.call-index l.calls)) (map reply_of (vec_items l.replies)) (row_of g.I.Instrument.held g.I.Instrument.room l.initial.row) (state_of g.I.Instrument.held g.I.Instrument.room l.ledger l.row)
