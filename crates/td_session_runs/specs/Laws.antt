-- What holds of every run of a session's turns, whatever others do to its traders meanwhile.
use Rattle.std.specs.Prelude.{◌≡◌, ℕ, ◌<◌, true, false, List, ◌∷◌, ◌++◌, length, map, Some}
use Rattle.std.specs.List.{AllByRecursion}
use Rattle.td_cdr.specs.Marks.{Marks}
use Rattle.td_cdr.specs.Writing.{Draft}
use Rattle.td_changes.specs.Histories.{StandsAt}
use Rattle.td_fed.specs.Trails.{DrawsOn, Goes, NeverFalls, own_at, own_marks_at}
use Rattle.td_fed.specs.Visiting.{WalksSoFar, course}
use Rattle.td_lookup.specs.Querying.{QueryComes}
use Rattle.td_lookup.specs.Scenes.{Scene}
use Rattle.td_lookup.specs.Answering.{is_no_memory}
use Rattle.td_lookup.specs.NoMemory.{PeersGive, gave_in, items_of}
use Rattle.td_ops.specs.declared.call.Call.TheVariants as call
use Rattle.td_ops.specs.declared.call.Change.{Change}
use Rattle.td_ops.specs.declared.call.Query.{Query}
use Rattle.td_ops.specs.declared.outcome.Outcome.TheVariants.{Done}
use Rattle.td_ops.specs.declared.outcome.Reply.{Reply}
use Rattle.td_register.specs.declared.history.Accepted.{Accepted}
use Rattle.td_servant.specs.declared.judging.Judged.TheVariants.{Call}
use Rattle.td_servant.specs.declared.objects.Object.{Object}
use Rattle.td_trader.specs.PlainTraders.{PlainTrader}
use Rattle.td_trader.specs.Solos.{no_changes, places, solo_view, same_marks}
use Rattle.td_trader.specs.Worlds.{LegalAt, View, history_at}
use Rattle.td_session_runs.specs.Journals.{Makes, all_gave, all_marks_in, all_places_in, all_served_at, is_accepted}
use Rattle.td_session_runs.specs.Journals.{is_refusal, marks_in}
use Rattle.td_session_runs.specs.Seen.{AllGrow}
use Rattle.td_session_runs.specs.Turns.{IsTurn, ServedRequest, Run, Turn, noted_of}
use Rattle.td_walk.specs.declared.trace.Address.{Address}

-- An accepted change is the entry of its trader's history at its point, and the Requests behind it were served there at
-- later points.
pub record Stands (w : List View) (n : ServedRequest) (rest : List ServedRequest) : Type 0 where
  pub trader : ℕ
  pub point : ℕ
  pub change : Change
  pub made : Makes n.judged n.entry trader point change
  pub content : Reply
  pub outcome : n.outcome ≡ Done content
  pub stands : StandsAt (history_at w trader) point change content
  pub later : AllByRecursion (λ p. point < p) (all_served_at trader rest)

-- the histories that are seen grow, and those that are legal stay legal
pub record StaysLegal (w u : List View) : Type 0 where
  pub grow : AllGrow w u
  pub legal : (k : ℕ) → LegalAt w k → LegalAt u k

module _ (others : List Accepted → Type 0) (later : Marks → Marks → Type 0) where
  -- Nothing was done to the traders but by others, and the iterators that are kept are as they were. These marks were
  -- made.
  pub record KeepsIterators (s : Scene) (marks : ℕ → List ℕ) (t : Scene) : Type 0 where
    pub goes : Goes others later s.world t.world
    pub own : (k : ℕ) → own_at t.world k ≡ own_at s.world k
    pub own_marks : (k : ℕ) → own_marks_at t.world k ≡ own_marks_at s.world k ++ marks k
    pub desk : t.desk ≡ s.desk

  -- nor were marks made
  pub record KeepsAll (s t : Scene) : Type 0 where
    pub goes : Goes others later s.world t.world
    pub own : (k : ℕ) → own_at t.world k ≡ own_at s.world k
    pub own_marks : (k : ℕ) → own_marks_at t.world k ≡ own_marks_at s.world k
    pub desk : t.desk ≡ s.desk

  -- ---- of a run

  -- the points at one trader never fall, from how much of its history was seen before to how much is seen behind it
  abbrev pub PointsRise : Type 0
  PointsRise =
      (home : Address) (s u : Scene) (ts : List Turn) → Run others later home s ts u → (k : ℕ)
      → NeverFalls (length (history_at s.world k)) (all_served_at k (noted_of ts))
      (length (history_at u.world k))

  -- the places of one's own changes are those of the accepted ones, in order
  abbrev pub OwnPlacesAreAccepted : Type 0
  OwnPlacesAreAccepted =
      (home : Address) (s u : Scene) (ts : List Turn) → Run others later home s ts u → (k : ℕ)
      → own_at u.world k ≡ own_at s.world k ++ all_places_in k (noted_of ts)

  -- each accepted change stands at its point, and later points of its trader are above it
  abbrev pub AcceptedStand : Type 0
  AcceptedStand =
      (home : Address) (s u : Scene) (ts : List Turn) → Run others later home s ts u
      → (before rest : List ServedRequest) (n : ServedRequest) → noted_of ts ≡ before ++ n ∷ rest
      → is_accepted n ≡ true → Stands u.world n rest

  -- one's own marks are those of the searches in the traces, in order
  abbrev pub OwnMarksAreSearches : Type 0
  OwnMarksAreSearches =
      (home : Address) (s u : Scene) (ts : List Turn) → Run others later home s ts u → (k : ℕ)
      → own_marks_at u.world k ≡ own_marks_at s.world k ++ all_marks_in k (noted_of ts)

  -- what is seen of the traders grows and stays legal
  abbrev pub SeenStaysLegal : Type 0
  SeenStaysLegal =
      (home : Address) (s u : Scene) (ts : List Turn) → Run others later home s ts u
      → StaysLegal s.world u.world

  -- what the entries show of peers is, in order, what the calls gave that were made of them; at each that failed the
  -- count of faults rose
  abbrev pub NoneIsInvented : Type 0
  NoneIsInvented =
      (home : Address) (s u : Scene) (ts : List Turn) → Run others later home s ts u
      → PeersGive s.peers (all_gave (noted_of ts)) u.peers

  -- the random words that are drawn are the next ones
  abbrev pub WordsAreDrawn : Type 0
  WordsAreDrawn =
      (home : Address) (s u : Scene) (ts : List Turn) → Run others later home s ts u
      → DrawsOn s.words u.words

  -- ---- of a Request

  -- what its entry shows of peers is what the calls gave that were made of them in it, with the count of faults
  abbrev pub RequestsShowPeers : Type 0
  RequestsShowPeers =
      (home : Address) (s : Scene) (t : Turn) (n : ServedRequest) → IsTurn others later home s t
      → t.request ≡ Some n → PeersGive s.peers (gave_in n.entry) t.after.peers

  -- one that is refused with another exception than NO_MEMORY changes nothing
  abbrev pub RefusedChangeNothing : Type 0
  RefusedChangeNothing =
      (home : Address) (s : Scene) (t : Turn) (n : ServedRequest) → IsTurn others later home s t
      → t.request ≡ Some n → is_refusal n.outcome ≡ true → KeepsAll s t.after

  -- one that is answered with NO_MEMORY changes nothing, but that a query may have made the marks that its trace shows
  abbrev pub NoMemoryChangesNothing : Type 0
  NoMemoryChangesNothing =
      (home : Address) (s : Scene) (t : Turn) (n : ServedRequest) → IsTurn others later home s t
      → t.request ≡ Some n
      → is_no_memory n.outcome ≡ true → KeepsIterators s (λ k. marks_in k n.entry) t.after

  -- a query that is answered otherwise than with NO_MEMORY is answered with what a walk from its trader on comes to,
  -- and this walk is noted
  abbrev pub QueriesAreWalks : Type 0
  QueriesAreWalks =
      (home : Address) (s : Scene) (t : Turn) (n : ServedRequest) (x : Object) (q : Query)
      → IsTurn others later home s t
      → t.request ≡ Some n → n.judged ≡ Call x (call.Query q) → is_no_memory n.outcome ≡ false
      → (draft : Draft) × QueryComes others later home s x.trader q draft n.outcome n.entry t.after

  -- a query is noted with the beginning of a walk from its trader on, whatever it is answered with
  abbrev pub QueriesBeginWalks : Type 0
  QueriesBeginWalks =
      (home : Address) (s : Scene) (t : Turn) (n : ServedRequest) (x : Object) (q : Query)
      → IsTurn others later home s t → t.request ≡ Some n → n.judged ≡ Call x (call.Query q)
      → WalksSoFar others later home (course s.world s.words s.peers.calls) x.trader q
      (items_of n.entry) (course t.after.world t.after.words t.after.peers.calls)

-- ---- of a group that a session has alone

-- What came to the trader's history are the accepted changes, each at its point.
pub record GrowsByOwn (w u : List View) (k : ℕ) (ns : List ServedRequest) : Type 0 where
  pub more : List Accepted
  pub history : history_at u k ≡ history_at w k ++ more
  pub accepted : all_places_in k ns ≡ places (length (history_at w k)) more

-- so it is in each run over traders that one session has alone
abbrev pub AloneGrowsByOwn : Type 0
AloneGrowsByOwn =
    (home : Address) (s u : Scene) (ts : List Turn) (before after : List PlainTrader)
    → Run no_changes same_marks home s ts u → s.world ≡ map solo_view before
    → u.world ≡ map solo_view after → (k : ℕ) → GrowsByOwn s.world u.world k (noted_of ts)
