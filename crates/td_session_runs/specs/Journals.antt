-- What a journal shows of a session: at which points of a trader its Requests were served, which changes were accepted,
-- which marks were made, and what peers gave.
use Rattle.std.specs.Prelude.{ℕ, cond, not, Bool, true, false, ◌&&◌, List, [], ◌∷◌, Option}
use Rattle.std.specs.List.{flat_map}
use Rattle.td_changes.specs.Histories.{is_done}
use Rattle.td_typecode.specs.declared.reference.Ior.{Ior}
use Rattle.td_fed.specs.Trails.{marks_of, only_of, points_of}
use Rattle.td_lookup.specs.Answering.{is_no_memory}
use Rattle.td_lookup.specs.NoMemory.{gave_in, items_of}
use Rattle.td_ops.specs.declared.call.AddLink.{AddLink}
use Rattle.td_ops.specs.declared.call.Call.TheVariants as call
use Rattle.td_ops.specs.declared.call.Call.{Call as Asking}
use Rattle.td_ops.specs.declared.call.Change.{Change}
use Rattle.td_ops.specs.declared.outcome.Outcome.{Outcome}
use Rattle.td_servant.specs.Linking.{Gave, link_change, register_given}
use Rattle.td_servant.specs.declared.entry.Entry.TheVariants.{Plain, Point, Asked, Walk}
use Rattle.td_servant.specs.declared.entry.Entry.{Entry}
use Rattle.td_servant.specs.declared.judging.Judged.TheVariants.{Call, Refused}
use Rattle.td_servant.specs.declared.judging.Judged.{Judged}
use Rattle.td_servant.specs.declared.objects.Object.{Object}
use Rattle.td_session_runs.specs.Turns.{ServedRequest}
use Rattle.td_walk.specs.Peering.{PeerAnswer}

-- ---- points

-- the points of a trader that an entry shows
abbrev pub points_in : (k : ℕ) → Entry → List ℕ
points_in k Plain = []
points_in k (Point trader point) = only_of trader (point ∷ []) k
points_in k (Asked trader point gave) = only_of trader (point ∷ []) k
points_in k (Walk t) = points_of k t.items

-- ---- outcomes

-- an exception that isn't NO_MEMORY
abbrev pub is_refusal : Outcome → Bool
is_refusal o = not (is_done o) && not (is_no_memory o)

-- ---- points of Requests

-- the points of a trader at which a Request was served, whatever it was answered with
abbrev pub served_at : (k : ℕ) → ServedRequest → List ℕ
served_at k n = points_in k n.entry

-- ---- accepted changes

abbrev pub changes_call : Asking → Bool
changes_call (call.Change c) = true
changes_call (call.AddLink l) = true
changes_call other = false

abbrev pub asks_change : Judged → Bool
asks_change (Call x c) = changes_call c
asks_change (Refused o) = false

-- a change that was accepted
abbrev pub is_accepted : ServedRequest → Bool
is_accepted n = asks_change n.judged && is_done n.outcome

-- its place in its trader's history
abbrev pub places_in : (k : ℕ) → ServedRequest → List ℕ
places_in k n = cond (is_accepted n) (points_in k n.entry) []

-- The change that a call makes at this point of a trader. The register of a link is the one that the peer gave that was
-- asked for it, and else one that is known here, or none.
pub data Makes : Judged → Entry → (trader point : ℕ) → Change → Type 0 where
  changing : (x : Object) (c : Change) (point : ℕ)
      → Makes (Call x (call.Change c)) (Point x.trader point) x.trader point c
  linking : (x : Object) (l : AddLink) (point : ℕ) (register : Option Ior)
      → Makes (Call x (call.AddLink l)) (Point x.trader point) x.trader point
      (link_change l register)
  asking : (x : Object) (l : AddLink) (point : ℕ) (gave : Gave)
      → Makes (Call x (call.AddLink l)) (Asked x.trader point gave) x.trader point
      (link_change l (register_given gave))

-- ---- of all Requests of a run, in order

abbrev pub all_served_at : (k : ℕ) → List ServedRequest → List ℕ
all_served_at k ns = flat_map (served_at k) ns

abbrev pub all_places_in : (k : ℕ) → List ServedRequest → List ℕ
all_places_in k ns = flat_map (places_in k) ns

-- the marks of a trader that an entry's searches made
abbrev pub marks_in : (k : ℕ) → Entry → List ℕ
marks_in k e = marks_of k (items_of e)

abbrev pub all_marks_in : (k : ℕ) → List ServedRequest → List ℕ
all_marks_in k ns = flat_map (λ n. marks_in k n.entry) ns

-- what peers gave
abbrev pub all_gave : List ServedRequest → List PeerAnswer
all_gave ns = flat_map (λ n. gave_in n.entry) ns
