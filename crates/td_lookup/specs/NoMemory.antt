-- What stands in place of any answer when memory runs out (CORBA, chapter "Standard Exceptions", NO_MEMORY).
use Rattle.std.specs.Prelude.{◌≡◌, ℕ, Bool, true, false, if◌then◌else◌, List, [], ◌∷◌, ◌++◌, length, Result, Ok, Err}
use Rattle.std.specs.List.{list_any}
use Rattle.td_cdr.specs.Marks.{Marks}
use Rattle.td_typecode.specs.declared.reference.Ior.{Ior}
use Rattle.td_fed.specs.Trails.{DrawsOn, Goes, NeverFalls, marks_of, own_marks_at, points_of}
use Rattle.td_fed.specs.Visiting.{WalksSoFar, course}
use Rattle.td_lookup.specs.Scenes.{Scene}
use Rattle.td_ops.specs.declared.call.AddLink.{AddLink}
use Rattle.td_ops.specs.declared.call.Call.TheVariants as call
use Rattle.td_ops.specs.declared.call.Query.{Query}
use Rattle.td_ops.specs.declared.outcome.Outcome.{Outcome}
use Rattle.td_ops.specs.declared.outcome.Outcome.TheVariants.{System}
use Rattle.td_ops.specs.declared.outcome.SystemKind.TheVariants.{NoMemory}
use Rattle.td_register.specs.declared.history.Accepted.{Accepted}
use Rattle.td_servant.specs.Classes.{is_query}
use Rattle.td_servant.specs.Linking.{PeersSeen}
use Rattle.td_servant.specs.declared.class.RequestClass.{RequestClass}
use Rattle.td_servant.specs.declared.class.RequestClass.TheVariants as class
use Rattle.td_servant.specs.declared.entry.Entry.{Entry}
use Rattle.td_servant.specs.declared.entry.Entry.TheVariants.{Asked, Plain, Walk}
use Rattle.td_servant.specs.declared.judging.Judged.{Judged}
use Rattle.td_servant.specs.declared.judging.Judged.TheVariants.{Call, Refused}
use Rattle.td_servant.specs.declared.objects.Object.{Object}
use Rattle.td_trader.specs.Worlds.{View, history_at}
use Rattle.td_walk.specs.Peering.{Exchange, Failed, PeerAnswer, Referred}
use Rattle.td_walk.specs.declared.fault.PeerFault.{PeerFault}
use Rattle.td_walk.specs.declared.trace.Address.{Address}
use Rattle.td_walk.specs.declared.trace.Trace.{Trace}
use Rattle.td_walk.specs.declared.trace.TraceItem.{TraceItem}
use Rattle.td_walk.specs.declared.trace.TraceItem.TheVariants as item
use Rattle.td_query_walk.specs.Faults.{CountsOver}
use Rattle.td_query_walk.specs.Walks.{given_in, peer_answers}

-- ---- what an entry shows

abbrev pub items_of : Entry → List TraceItem
items_of (Walk t) = t.items
items_of other = []

-- what peers gave
abbrev pub gave_in : Entry → List PeerAnswer
gave_in (Asked k point (Ok r)) = Referred r ∷ []
gave_in (Asked k point (Err f)) = Failed f ∷ []
gave_in (Walk t) = peer_answers t.items
gave_in other = []

abbrev pub is_search : TraceItem → Bool
is_search (item.Search k point mark) = true
is_search other = false

-- COMPLETED_MAYBE (2) exactly where a mark was made, else COMPLETED_NO (1)
abbrev pub completion_of : Entry → ℕ
completion_of e = if list_any is_search (items_of e) then 2 else 1

abbrev pub no_memory_outcome : Entry → Outcome
no_memory_outcome e = System NoMemory 0 (completion_of e)

-- these calls of peers were made meanwhile, and gave this; at each that failed the count of faults rose
pub record PeersGive (before : PeersSeen) (gave : List PeerAnswer) (after : PeersSeen) :
    Type 0 where
  pub made : List Exchange
  pub calls : after.calls ≡ before.calls ++ made
  pub given : given_in made ≡ gave
  pub count : CountsOver made before.faults after.faults

-- what is noted of a Request of a class for which nothing was done: a query's trace, which is empty
abbrev pub unbegun_entry : RequestClass → Entry
unbegun_entry class.Query = Walk (record { items = [] })
unbegun_entry class.Other = Plain

-- What is noted then: a query's trace so far; what a peer gave for add_link or resolve, at how many changes are seen;
-- and nothing for any other call, or where no peer was asked. When memory ran out to read a Request for a query, an
-- empty trace is noted, also if its body spells none.
pub data NoMemoryEntry (w : List View) : Judged → Entry → Type 0 where
  nothing : {j : Judged} → is_query j ≡ false → NoMemoryEntry w j Plain
  unread : {o : Outcome} → NoMemoryEntry w (Refused o) (unbegun_entry class.Query)
  trace : {x : Object} {q : Query} (t : Trace) → NoMemoryEntry w (Call x (call.Query q)) (Walk t)
  link : {x : Object} {l : AddLink} (gave : Result Ior PeerFault)
      → NoMemoryEntry w (Call x (call.AddLink l))
      (Asked x.trader (length (history_at w x.trader)) gave)
  name : {x : Object} {names : List (List ℕ)} (gave : Result Ior PeerFault)
      → NoMemoryEntry w (Call x (call.Resolve names))
      (Asked x.trader (length (history_at w x.trader)) gave)

module _ (others : List Accepted → Type 0) (later : Marks → Marks → Type 0) (home : Address) where
  -- what is noted of a query is the beginning of a walk from its trader on
  abbrev pub IsWalkSoFar : Judged → Scene → Entry → Scene → Type 0
  IsWalkSoFar (Call x (call.Query q)) s e t =
      WalksSoFar others later home (course s.world s.words s.peers.calls) x.trader q (items_of e)
      (course t.world t.words t.peers.calls)
  IsWalkSoFar other s e t = Unit {0}

  -- The desk is as it was, and so are the stores but for what others did. The entry shows each mark that was made, the
  -- points at which queries began and what each peer gave. Only a query may have drawn words.
  pub record AnswersNoMemory (j : Judged) (s : Scene) (o : Outcome) (e : Entry) (t : Scene) :
      Type 0 where
    pub entry : NoMemoryEntry t.world j e
    pub walk : IsWalkSoFar j s e t
    pub outcome : o ≡ no_memory_outcome e
    pub desk : t.desk ≡ s.desk
    pub goes : Goes others later s.world t.world
    pub marks : (k : ℕ) → own_marks_at t.world k ≡ own_marks_at s.world k ++ marks_of k (items_of e)
    pub points : (k : ℕ)
        → NeverFalls (length (history_at s.world k)) (points_of k (items_of e))
        (length (history_at t.world k))
    pub peers : PeersGive s.peers (gave_in e) t.peers
    pub draws : DrawsOn s.words t.words
    pub words : is_query j ≡ false → t.words ≡ s.words
