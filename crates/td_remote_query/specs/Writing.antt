-- What a query has written, whatever comes of it: a front of its requests, over a connection of its own. Where its
-- reply names an iterator that is elsewhere, all of them, and a front of the requests to that over one more, to there.
use Rattle.std.specs.Prelude.{◌≡◌, Bool, true, false, IsTrue, List, [], ◌++◌, length, ℕ, Option, Some, None, IfSome}
use Rattle.std.specs.Prelude.{option_map, Result, Ok, Err}
use Rattle.td_typecode.specs.declared.reference.Ior.{Ior}
use Rattle.td_ior.specs.declared.profile.Iiop.{Iiop}
use Rattle.td_ior.specs.Profiles.{iiop_of}
use Rattle.td_ops.specs.declared.call.Call.{Call}
use Rattle.td_ops.specs.declared.call.Call.TheVariants.{Query as Querying}
use Rattle.td_ops.specs.declared.call.Query.{Query}
use Rattle.td_ops.specs.declared.outcome.Answered.{Answered}
use Rattle.td_walk.specs.declared.answer.SubAnswer.{SubAnswer}
use Rattle.td_walk.specs.declared.fault.PeerFault.{PeerFault}
use Rattle.td_wire.specs.Connections.{Traffic, end_connection, left_of, open_connection, with_left, wrote}
use Rattle.td_call.specs.Calling.{next_given}
use Rattle.td_call.specs.Moving.{ConnectsNone}
use Rattle.td_remote_query.specs.Querying.{asked_first, asked_requests, elsewhere, iterator_requests, query_over}
use Rattle.td_remote_query.specs.declared.gathered.ConnectionResult.{ConnectionResult}
use Rattle.td_remote_query.specs.declared.gathered.ConnectionResult.TheVariants.{All, Elsewhere}
use Rattle.td_remote_query.specs.declared.gathered.Gathered.{Gathered}
use Rattle.td_remote_query.specs.declared.gathered.Gathered.TheVariants.{Offers, Refused}

-- ---- over a connection that stands

-- a front of these requests was written, and bytes may have come
pub record WritesFront (requests : List ℕ) (t : Traffic) (after : Option Traffic) : Type 0 where
  pub written : List ℕ
  pub unwritten : List ℕ
  pub front : requests ≡ written ++ unwritten
  pub rest : List ℕ
  pub wire : after ≡ Some (with_left rest (wrote written t))

-- a front, or all of them
abbrev pub WritesRequests : (all : Bool) → (requests : List ℕ) → Traffic → (after : Option Traffic)
    → Type 0
WritesRequests all requests t after = (f : WritesFront requests t after)
    × (IsTrue all → f.unwritten ≡ [])

-- the same of the requests that the bytes call for that are held and left, where the wire tells
abbrev pub WritesBy : (all : Bool) → (requests : (left : List ℕ) → List ℕ) → (held : List ℕ)
    → (before after : Option Traffic) → Type 0
WritesBy all requests held before after = IfSome before
    (λ t. WritesRequests all (requests (held ++ left_of t)) t after)

-- whether an iterator gave all that it had, and was destroyed
abbrev pub drains_all : Result (Option Answered) PeerFault → Bool
drains_all (Ok None) = true
drains_all (Ok (Some answer)) = false
drains_all (Err fault) = false

-- whether all offers are given, so that no iterator is left at the peer
abbrev pub gives_all : Result Gathered PeerFault → Bool
gives_all (Ok (Offers a)) = true
gives_all (Ok (Refused answer)) = false
gives_all (Err fault) = false

-- whether nothing is owed over the query's own connection: all offers are given, or the iterator is elsewhere
abbrev pub is_whole : Result ConnectionResult PeerFault → Bool
is_whole (Ok (All g)) = gives_all (Ok g)
is_whole (Ok (Elsewhere p found)) = true
is_whole (Err fault) = false

-- ---- over a connection of its own

-- to where this profile says, for the requests that what it gives calls for
pub data LeavesFront (requests : (given : List ℕ) → List ℕ) (p : Iiop)
    (before after : Option Traffic) : Type 0 where
  -- none was made
  unopened : ConnectsNone before after → LeavesFront requests p before after
  -- one was made, which has ended, and a front of the requests was written over it
  over : (last : Option Traffic)
      → IfSome before (λ t. WritesFront (requests (next_given t)) (open_connection p.host p.port t)
      last)
      → after ≡ option_map end_connection last → LeavesFront requests p before after

-- the query's connection has ended, with all requests written over it, and the iterator that its reply names is
-- elsewhere
pub record IsElsewhere (trader : Iiop) (c : Call) (t : Traffic) (after : Option Traffic) (p : Iiop)
    (found : SubAnswer) : Type 0 where
  pub part : asked_first trader c (next_given t) ≡ elsewhere p found
  pub rest : List ℕ
  pub wire : after ≡ Some (query_over trader c rest t)

pub data AskLeavesAt (trader : Iiop) (c : Call) (before after : Option Traffic) : Type 0 where
  once : LeavesFront (asked_requests trader c) trader before after
      → AskLeavesAt trader c before after
  -- and then a connection to where the iterator is, at most, with a front of the requests to it
  twice : (p : Iiop) → (found : SubAnswer) → (between : Option Traffic)
      → IfSome before (λ t. IsElsewhere trader c t between p found)
      → LeavesFront (iterator_requests p (length found.offers)) p between after
      → AskLeavesAt trader c before after

pub data AskLeavesBy (target : Ior) (c : Call) (before after : Option Traffic) : Type 0 where
  -- so it is with a trader that has no IIOP profile
  untouched : after ≡ before → AskLeavesBy target c before after
  reached : (p : Iiop) → iiop_of target ≡ Some p → AskLeavesAt p c before after
      → AskLeavesBy target c before after

abbrev pub AskLeaves : (target : Ior) → Query → (before after : Option Traffic) → Type 0
AskLeaves target q before after = AskLeavesBy target (Querying q) before after
