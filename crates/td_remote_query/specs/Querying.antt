-- What a query of a trader comes to (OMG's Trading Object Service, interface Lookup): its reply, over a connection of
-- its own, and what its iterator gives. An iterator at the trader's own host and port is asked over the same
-- connection, and one that is elsewhere over another one, to there, behind the end of the first.
use Rattle.std.specs.Prelude.{◌≡◌, ◌⊎◌, ℕ, nat_eq, ◌&&◌, Bool, true, if◌then◌else◌, List, [], ◌++◌, length}
use Rattle.std.specs.Prelude.{drop, Option, Some, None, IfSome, Result, Ok, Err, ⊤}
use Rattle.std.specs.Str.{bytes_eq}
use Rattle.td_typecode.specs.declared.reference.Ior.{Ior}
use Rattle.td_ior.specs.declared.profile.Iiop.{Iiop}
use Rattle.td_ior.specs.Nil.{is_nil}
use Rattle.td_ior.specs.Profiles.{iiop_of}
use Rattle.td_ops.specs.declared.call.Call.{Call}
use Rattle.td_ops.specs.declared.call.Call.TheVariants.{Query as Querying}
use Rattle.td_ops.specs.declared.call.Query.{Query}
use Rattle.td_ops.specs.declared.outcome.Answered.{Answered}
use Rattle.td_ops.specs.declared.outcome.Answered.TheVariants.{Done, User, System}
use Rattle.td_ops.specs.declared.outcome.Reply.{Reply}
use Rattle.td_ops.specs.declared.outcome.Reply.TheVariants.{Found}
use Rattle.td_out.specs.Causes.{Rose}
use Rattle.td_value.specs.declared.structures.Offer.{Offer}
use Rattle.td_walk.specs.declared.answer.SubAnswer.{SubAnswer}
use Rattle.td_walk.specs.declared.fault.PeerFault.{PeerFault}
use Rattle.td_walk.specs.declared.fault.PeerFault.TheVariants as fault
use Rattle.td_wire.specs.Connections.{Traffic, end_connection, first_or_none, left_of, open_connection, with_left}
use Rattle.td_wire.specs.Connections.{wrote}
use Rattle.td_call.specs.Calling.{first_id, next_given}
use Rattle.td_call.specs.Readings.{outcome_in_reply}
use Rattle.td_call.specs.Replies.{ReplyResult, content, strange, short, reply_value}
use Rattle.td_call.specs.Requests.{request_of}
use Rattle.td_remote_query.specs.Draining.{DrainEnd, gave, raised, unclear, cut, behind, drain_batches, may_join}
use Rattle.td_remote_query.specs.Draining.{AreFit, AreWritable, batches_asked, drain_requests}
use Rattle.td_remote_query.specs.declared.gathered.ConnectionResult.{ConnectionResult as Part}
use Rattle.td_remote_query.specs.declared.gathered.ConnectionResult.TheVariants.{All, Elsewhere}
use Rattle.td_remote_query.specs.declared.gathered.Gathered.{Gathered}
use Rattle.td_remote_query.specs.declared.gathered.Gathered.TheVariants.{Offers, Refused}

-- the id of the first request to an iterator, over whichever connection
abbrev pub second_id : ℕ
second_id = 2

-- one batch more than there may be offers, since each but the last brings one
abbrev pub most_batches : ℕ
most_batches = 1000001

-- with the limits of the query's reply
abbrev pub with_limits : (limits : List (List ℕ)) → DrainEnd (List Offer) → DrainEnd SubAnswer
with_limits limits (gave offers) = gave (record { offers = offers; limits = limits })
with_limits limits (raised answer) = raised answer
with_limits limits unclear = unclear
with_limits limits cut = cut

-- what was found, and what the iterator gives behind it by these bytes
abbrev pub drained_behind : SubAnswer → (given : List ℕ) → DrainEnd SubAnswer
drained_behind found given =
    with_limits found.limits
    (behind found.offers (drain_batches most_batches second_id (length found.offers) given))

-- ---- what the query's own connection gives

-- a profile names the place of the trader that is asked: its host, byte by byte, and its port
abbrev pub is_at : (trader p : Iiop) → Bool
is_at trader p = bytes_eq p.host trader.host && nat_eq p.port trader.port

pub data FirstPart : Type 0 where
  -- all that the query comes to
  ends : DrainEnd SubAnswer → FirstPart
  -- offers, and where the iterator is reached that gives the others
  elsewhere : Iiop → SubAnswer → FirstPart

-- with an iterator of this profile; one without an IIOP profile is outside the grammar
abbrev pub drain_iterator : (trader : Iiop) → Option Iiop → SubAnswer → (left : List ℕ) → FirstPart
drain_iterator trader (Some p) found left =
    if is_at trader p then ends (drained_behind found left) else elsewhere p found
drain_iterator trader None found left = ends unclear

-- a nil iterator gives nothing
abbrev pub left_ends : (trader : Iiop) → (iterator : Ior) → SubAnswer → (left : List ℕ) → FirstPart
left_ends trader iterator found left =
    if is_nil iterator then ends (gave found) else drain_iterator trader (iiop_of iterator) found
    left

-- what was found, and what the iterator gives behind it
abbrev pub found_ends : (trader : Iiop) → (iterator : Ior) → SubAnswer → (left : List ℕ) → FirstPart
found_ends trader iterator found left =
    if may_join 0 found.offers then left_ends trader iterator found left else ends unclear

-- a result of query, by what is left behind its reply
abbrev pub reply_ends : (trader : Iiop) → Reply → (left : List ℕ) → FirstPart
reply_ends trader (Found offers iterator limits) left =
    found_ends trader iterator (record { offers = offers; limits = limits }) left
reply_ends trader other left = ends unclear

-- an answer to query
abbrev pub query_ends : (trader : Iiop) → Answered → (left : List ℕ) → FirstPart
query_ends trader (Done reply) left = reply_ends trader reply left
query_ends trader (User id) left = ends (raised (User id))
query_ends trader (System id minor completion) left = ends (raised (System id minor completion))

abbrev pub after_query : (trader : Iiop) → (given : List ℕ) → ReplyResult Answered → FirstPart
after_query trader given (content answer size) = query_ends trader answer (drop size given)
after_query trader given strange = ends unclear
after_query trader given short = ends cut

-- what a query of the trader with this profile comes to, by the bytes that its connection gives
abbrev pub asked_first : (trader : Iiop) → Call → (given : List ℕ) → FirstPart
asked_first trader c given = after_query trader given
    (reply_value (outcome_in_reply c) first_id given)

-- ---- with what the next connection gives

abbrev pub drain_rest : FirstPart → (next : List ℕ) → DrainEnd SubAnswer
drain_rest (ends e) next = e
drain_rest (elsewhere p found) next = drained_behind found next

-- what a query comes to, by the bytes that its connection gives and by those that the next one would
abbrev pub query_answer : (trader : Iiop) → Call → (given next : List ℕ) → DrainEnd SubAnswer
query_answer trader c given next = drain_rest (asked_first trader c given) next

-- ---- what is written for it: the query, and the requests to the iterator that its reply names

-- As many batches are asked for as come. Then the iterator is destroyed.
abbrev pub iterator_requests : Iiop → (count : ℕ) → (given : List ℕ) → List ℕ
iterator_requests p count given =
    drain_requests p second_id (batches_asked most_batches second_id count given)

-- over the query's connection nothing is written to an iterator that is elsewhere
abbrev pub requests_here : (trader : Iiop) → Option Iiop → (count : ℕ) → (left : List ℕ) → List ℕ
requests_here trader (Some p) count left =
    if is_at trader p then iterator_requests p count left else []
requests_here trader None count left = []

-- a nil iterator isn't asked
abbrev pub left_requests : (trader : Iiop) → (iterator : Ior) → (count : ℕ) → (left : List ℕ)
    → List ℕ
left_requests trader iterator count left =
    if is_nil iterator then [] else requests_here trader (iiop_of iterator) count left

abbrev pub found_requests : (trader : Iiop) → (iterator : Ior) → List Offer → (left : List ℕ)
    → List ℕ
found_requests trader iterator offers left =
    if may_join 0 offers then left_requests trader iterator (length offers) left else []

abbrev pub reply_requests : (trader : Iiop) → Reply → (left : List ℕ) → List ℕ
reply_requests trader (Found offers iterator limits) left =
    found_requests trader iterator offers left
reply_requests trader other left = []

abbrev pub answer_requests : (trader : Iiop) → Answered → (left : List ℕ) → List ℕ
answer_requests trader (Done reply) left = reply_requests trader reply left
answer_requests trader (User id) left = []
answer_requests trader (System id minor completion) left = []

abbrev pub requests_behind : (trader : Iiop) → (given : List ℕ) → ReplyResult Answered → List ℕ
requests_behind trader given (content answer size) = answer_requests trader answer (drop size given)
requests_behind trader given strange = []
requests_behind trader given short = []

-- all requests over the connection of a query to the trader with this profile, by the bytes that it gives
abbrev pub asked_requests : (trader : Iiop) → Call → (given : List ℕ) → List ℕ
asked_requests trader c given =
    request_of first_id trader c
    ++ requests_behind trader given (reply_value (outcome_in_reply c) first_id given)

-- ---- the connections of a query

-- the query's has ended, with all requests written over it
abbrev pub query_over : (trader : Iiop) → Call → (rest : List ℕ) → Traffic → Traffic
query_over trader c rest t = end_connection
    (with_left rest (wrote (asked_requests trader c (next_given t))
    (open_connection trader.host trader.port t)))

-- and so has one to where an iterator is, which is drained behind so many offers
abbrev pub drain_over : Iiop → (count : ℕ) → (rest : List ℕ) → Traffic → Traffic
drain_over p count rest t = end_connection
    (with_left rest (wrote (iterator_requests p count (next_given t))
    (open_connection p.host p.port t)))

-- which connections were made: the query's, and another one where the iterator is elsewhere
abbrev pub HasWritten : FirstPart → (trader : Iiop) → Call → Traffic → (after : Option Traffic)
    → Type 0
HasWritten (ends e) trader c t after = (rest : List ℕ) × (after ≡ Some (query_over trader c rest t))
HasWritten (elsewhere p found) trader c t after =
    (rest : List ℕ) × (more : List ℕ)
    × (after ≡ Some (drain_over p (length found.offers) more (query_over trader c rest t)))

-- ---- what a query answers

-- what the connection after the next one gives
abbrev pub second_given : Traffic → List ℕ
second_given t = first_or_none (drop 1 t.answers)

-- The offers are what the bytes come to that the new connections give, and all requests were written over these, and no
-- more. They have ended since.
pub record Gathers (c : Call) (p : Iiop) (t : Traffic) (after : Option Traffic)
    (a : SubAnswer) : Type 0 where
  pub is : query_answer p c (next_given t) (second_given t) ≡ gave a
  pub wire : HasWritten (asked_first p c (next_given t)) p c t after

-- each offer that is given has at most 6 MiB, and can be written
abbrev pub GivesFitOffers : Gathered → Type 0
GivesFitOffers (Offers a) = AreFit a.offers
GivesFitOffers (Refused answer) = ⊤

-- what a query of the trader with this profile answers, by what the wire tells and by its count of faults
abbrev pub AsksAt : Iiop → Call → (before after : Option Traffic) → (f0 f1 : ℕ)
    → Result Gathered PeerFault → Type 0
AsksAt p c before after f0 f1 (Ok (Offers a)) = IfSome before (λ t. Gathers c p t after a)
AsksAt p c before after f0 f1 (Ok (Refused answer)) =
    IfSome before (λ t. query_answer p c (next_given t) (second_given t) ≡ raised answer)
AsksAt p c before after f0 f1 (Err fault.Wire) =
    Rose f0 f1 ⊎ IfSome before (λ t. query_answer p c (next_given t) (second_given t) ≡ cut)
AsksAt p c before after f0 f1 (Err fault.Grammar) =
    IfSome before (λ t. query_answer p c (next_given t) (second_given t) ≡ unclear)
AsksAt p c before after f0 f1 (Err fault.Exception) = ⊥
AsksAt p c before after f0 f1 (Err fault.Memory) = ⊤

-- a trader without an IIOP profile isn't asked, and is outside the grammar
abbrev pub IsNotAsked : Result Gathered PeerFault → Type 0
IsNotAsked (Ok g) = ⊥
IsNotAsked (Err fault.Wire) = ⊥
IsNotAsked (Err fault.Grammar) = ⊤
IsNotAsked (Err fault.Exception) = ⊥
IsNotAsked (Err fault.Memory) = ⊤

abbrev pub AsksBy : Option Iiop → Call → (before after : Option Traffic) → (f0 f1 : ℕ)
    → Result Gathered PeerFault → Type 0
AsksBy (Some p) c before after f0 f1 r = AsksAt p c before after f0 f1 r
AsksBy None c before after f0 f1 r = IsNotAsked r

-- what a query of a trader answers
abbrev pub QueriesTrader : (target : Ior) → Query → (before after : Option Traffic) → (f0 f1 : ℕ)
    → Result Gathered PeerFault → Type 0
QueriesTrader target q before after f0 f1 r = AsksBy (iiop_of target) (Querying q) before after f0
    f1 r

-- ---- on the way to it: over a connection that stands, by what is held of it and what it has left

abbrev pub DrainEndsSo : (ending : (left : List ℕ) → DrainEnd SubAnswer) → (held : List ℕ)
    → (before : Option Traffic) → (f0 f1 : ℕ) → Result Gathered PeerFault → Type 0
DrainEndsSo ending held before f0 f1 (Ok (Offers a)) = IfSome before
    (λ t. ending (held ++ left_of t)
    ≡ gave a)
DrainEndsSo ending held before f0 f1 (Ok (Refused answer)) =
    IfSome before (λ t. ending (held ++ left_of t) ≡ raised answer)
DrainEndsSo ending held before f0 f1 (Err fault.Wire) =
    Rose f0 f1 ⊎ IfSome before (λ t. ending (held ++ left_of t) ≡ cut)
DrainEndsSo ending held before f0 f1 (Err fault.Grammar) = IfSome before
    (λ t. ending (held ++ left_of t)
    ≡ unclear)
DrainEndsSo ending held before f0 f1 (Err fault.Exception) = ⊥
DrainEndsSo ending held before f0 f1 (Err fault.Memory) = ⊤

-- the same over a query's own connection
abbrev pub FindsSo : (part : (left : List ℕ) → FirstPart) → (held : List ℕ)
    → (before : Option Traffic) → (f0 f1 : ℕ) → Result Part PeerFault → Type 0
FindsSo part held before f0 f1 (Ok (All (Offers a))) =
    IfSome before (λ t. part (held ++ left_of t) ≡ ends (gave a))
FindsSo part held before f0 f1 (Ok (All (Refused answer))) =
    IfSome before (λ t. part (held ++ left_of t) ≡ ends (raised answer))
FindsSo part held before f0 f1 (Ok (Elsewhere p found)) =
    IfSome before (λ t. part (held ++ left_of t) ≡ elsewhere p found)
FindsSo part held before f0 f1 (Err fault.Wire) =
    Rose f0 f1 ⊎ IfSome before (λ t. part (held ++ left_of t) ≡ ends cut)
FindsSo part held before f0 f1 (Err fault.Grammar) =
    IfSome before (λ t. part (held ++ left_of t) ≡ ends unclear)
FindsSo part held before f0 f1 (Err fault.Exception) = ⊥
FindsSo part held before f0 f1 (Err fault.Memory) = ⊤

-- all requests were written over the query's connection, which has ended
abbrev pub HasQueried : (trader : Iiop) → Call → (before after : Option Traffic) → Type 0
HasQueried trader c before after =
    IfSome before (λ t. (rest : List ℕ) × (after ≡ Some (query_over trader c rest t)))

-- all requests to an iterator were written over a connection to there, which has ended
abbrev pub HasDrained : Iiop → (count : ℕ) → (before after : Option Traffic) → Type 0
HasDrained p count before after =
    IfSome before (λ t. (rest : List ℕ) × (after ≡ Some (drain_over p count rest t)))

-- others may join these offers, which can be written
pub record CanGrow (offers : List Offer) : Type 0 where
  pub joins : may_join 0 offers ≡ true
  pub writable : AreWritable offers

abbrev pub FindsFitOffers : Part → Type 0
FindsFitOffers (All g) = GivesFitOffers g
FindsFitOffers (Elsewhere p found) = CanGrow found.offers
