-- The call that is sent, and what comes back.
use Rattle.std.specs.Prelude.{ℕ, Option, Result, Ok, Err}
use Rattle.td_cli_request.specs.declared.making.Asking.{Asking}
use Rattle.td_cli_request.specs.declared.making.Asking.TheVariants as asking
use Rattle.td_call.specs.Calling.{CallsObject, first_id}
use Rattle.td_call.specs.Moving.{LeavesTraffic, StaysDisconnected}
use Rattle.td_call.specs.Readings.{outcome_in_reply}
use Rattle.td_call.specs.Requests.{request_of}
use Rattle.td_remote_query.specs.Querying.{QueriesTrader}
use Rattle.td_remote_query.specs.Writing.{AskLeaves}
use Rattle.td_remote_query.specs.declared.gathered.Gathered.{Gathered as Given}
use Rattle.td_ops.specs.declared.call.Call.{Call}
use Rattle.td_ops.specs.declared.call.Query.{Query}
use Rattle.td_ops.specs.declared.outcome.Answered.{Answered as Told}
use Rattle.td_typecode.specs.declared.reference.Ior.{Ior}
use Rattle.td_walk.specs.declared.fault.PeerFault.{PeerFault}
use Rattle.td_wire.specs.Connections.{Traffic}
use Rattle.td_cli_program.specs.declared.outcome.Outcome.{Outcome}
use Rattle.td_cli_program.specs.declared.outcome.Outcome.TheVariants.{Gathered, Answered}

-- a wire: its connections where it tells, and its count of faults
pub record Line : Type 0 where
  pub content : Option Traffic
  pub faults : ℕ

abbrev pub line : Option Traffic → ℕ → Line
line content faults = record { content = content; faults = faults }

-- one Request for a call, over a connection of its own, and its reply. Where it fails too, no more than the one Request
-- was written, over no more than the one connection, which has ended.
pub record CallsOnce (target : Ior) (c : Call) (before after : Line)
    (r : Result Told PeerFault) : Type 0 where
  pub called : CallsObject (outcome_in_reply c)
      (λ p. request_of first_id p c) target before.content after.content before.faults after.faults
      r
  pub leaves : LeavesTraffic (λ p. request_of first_id p c) target before.content after.content
  pub disconnected : StaysDisconnected before.content after.content

-- A query over a connection of its own, and what is gathered; an iterator that is elsewhere is drained over one more,
-- to there. Where it fails too, a front of its requests was written, over no more than these connections, which have
-- ended.
pub record Queries (target : Ior) (q : Query) (before after : Line)
    (r : Result Given PeerFault) : Type 0 where
  pub asks : QueriesTrader target q before.content after.content before.faults after.faults r
  pub leaves : AskLeaves target q before.content after.content
  pub disconnected : StaysDisconnected before.content after.content

-- what comes of what an object is asked for: of a query the offers of its reply and of its iterator, of another call
-- its answer, and else why there is none
abbrev pub SendsAsked : Asking → (before after : Line) → Result Outcome PeerFault → Type 0
SendsAsked (asking.Query target q) before after (Ok (Gathered g)) = Queries target q before after
    (Ok g)
SendsAsked (asking.Query target q) before after (Ok (Answered a)) = ⊥
SendsAsked (asking.Query target q) before after (Err fault) = Queries target q before after
    (Err fault)
SendsAsked (asking.Call target c) before after (Ok (Gathered g)) = ⊥
SendsAsked (asking.Call target c) before after (Ok (Answered a)) = CallsOnce target c before after
    (Ok a)
SendsAsked (asking.Call target c) before after (Err fault) = CallsOnce target c before after
    (Err fault)
