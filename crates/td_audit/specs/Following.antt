-- What the functions answer that make a log.
use Rattle.std.specs.Prelude.{◌≡◌, ℕ, List, [], ◌∷◌, ◌++◌, codes, length, true, Some}
use Rattle.td_drill.specs.Drills.{drill_query}
use Rattle.td_giop.specs.Written.{request_start, seal_size}
use Rattle.td_cdr.specs.Lawful.{AreOctets}
use Rattle.td_cdr.specs.declared.order.Order.TheVariants.{Big}
use Rattle.td_net.specs.Worlds.{World, state_at}
use Rattle.td_net.specs.declared.event.Event.TheVariants as event
use Rattle.td_ops.specs.Calls.{call_piece}
use Rattle.td_ops.specs.declared.call.Call.TheVariants as call
use Rattle.td_ops.specs.declared.outcome.Outcome.{Outcome}
use Rattle.td_walk.specs.declared.trace.Address.{Address}
use Rattle.td_walk.specs.declared.trace.Visit.{Visit}
use Rattle.td_audit.specs.Making.{AcceptsEvent, IsOutcomeOfVisit, RunsCalls, Next, ask_line, form, text_of_lines}
use Rattle.td_audit.specs.Making.{next_in}
use Rattle.td_audit.specs.Making.{reply_line, request_to}
use Rattle.td_audit.specs.Replies.{spelled_reply}

-- the Request that asks the object of this key
abbrev pub query_request : (key : List ℕ) → List ℕ
query_request key =
    let head : List ℕ = request_start Big 0 1 true key (codes "query") in
    seal_size Big (head ++ call_piece (call.Query drill_query) Big (length head))

-- a call that waits for no other has gone on, and this was appended
pub record ResumesCall (w : World) (c : ℕ) (old new : List ℕ) (u : World) : Type 0 where
  pub next : Next
  pub is : next_in c (state_at w.calls c) ≡ Some next
  pub accepts : AcceptsEvent w next.event u
  pub content : new ≡ old ++ next.line ++ 10 ∷ []

-- the calls of an Ask have gone on until its own had ended
pub record FollowsTo (root : ℕ) (w : World) (old new : List ℕ) (u : World) : Type 0 where
  pub lines : List (List ℕ)
  pub visit : Visit
  pub follows : RunsCalls root w lines visit u
  pub content : new ≡ old ++ text_of_lines lines

-- the reply to its query was appended
pub record PutsReply (home : Address) (name : List ℕ) (c : ℕ) (v : Visit)
    (old new : List ℕ) : Type 0 where
  pub outcome : Outcome
  pub answers : IsOutcomeOfVisit home name v outcome
  pub octets : AreOctets (spelled_reply form outcome)
  pub content : new ≡ old ++ reply_line c outcome ++ 10 ∷ []

-- a trader was asked, and it was told up to the reply
pub record AsksOne (home : Address) (n : ℕ) (name : List ℕ) (w : World) (old new : List ℕ)
    (x : World) : Type 0 where
  pub asked : World
  pub lines : List (List ℕ)
  pub visit : Visit
  pub outcome : Outcome
  pub request : AreOctets (request_to name)
  pub accepts : AcceptsEvent w (event.Ask n drill_query) asked
  pub follows : RunsCalls (length w.calls) asked lines visit x
  pub answers : IsOutcomeOfVisit home name visit outcome
  pub octets : AreOctets (spelled_reply form outcome)
  pub content : new ≡ old ++ text_of_lines (ask_line name ∷ lines
      ++ reply_line (length w.calls) outcome
      ∷ [])
