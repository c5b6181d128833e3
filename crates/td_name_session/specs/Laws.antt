-- What holds of every run of a session's turns, whatever others do to the contexts meanwhile.
use Rattle.std.specs.Prelude.{◌≡◌, ℕ, ◌<◌, ◌≤◌, ◌↔◌, true, cond, List, [], ◌∷◌, ◌++◌, Option, Some, None, slice_get}
use Rattle.std.specs.List.{AllByRecursion}
use Rattle.td_typecode.specs.declared.reference.Ior.{Ior}
use Rattle.td_name_ops.specs.Outcomes.{outcome_status}
use Rattle.td_name_ops.specs.declared.call.NameCall.TheVariants as call
use Rattle.td_name_ops.specs.declared.outcome.NameOutcome.TheVariants.{Done}
use Rattle.td_name_ops.specs.declared.outcome.NameResult.TheVariants.{Object}
use Rattle.td_names.specs.Limits.{name_fits}
use Rattle.td_names.specs.Reaching.{Reach}
use Rattle.td_names.specs.Stores.{is_live}
use Rattle.td_names.specs.declared.act.NameAct.{NameAct}
use Rattle.td_names.specs.declared.act.NameAct.TheVariants as act
use Rattle.td_names.specs.declared.component.NameComponent.{NameComponent}
use Rattle.td_naming.specs.Histories.{Legal}
use Rattle.td_naming.specs.Views.{store_seen}
use Rattle.td_naming.specs.declared.history.NameChange.{NameChange}
use Rattle.td_name_session.specs.Keys.{context_in}
use Rattle.td_name_session.specs.Outcomes.{no_memory}
use Rattle.td_name_session.specs.Scenes.{Scene}
use Rattle.td_name_session.specs.Turns.{IsTurn, ServedRequest, Run, Turn, journal_of, point_in, seen_in}
use Rattle.td_name_session.specs.declared.judging.Judged.TheVariants.{Call}
use Rattle.td_name_session.specs.declared.keys.NameKey.{NameKey}

-- numbers that never fall, from a low to a high one
abbrev pub NeverFalls : (low : ℕ) → List ℕ → (high : ℕ) → Type 0
NeverFalls low [] high = low ≤ high
NeverFalls low (n ∷ ns) high = (low ≤ n) × NeverFalls n ns high

-- the place of a turn's accepted change
abbrev pub place_by : Option ServedRequest → List ℕ → List ℕ
place_by None points = []
place_by (Some n) points = cond n.accepted points []

abbrev pub place_in : Turn → List ℕ
place_in t = place_by t.request (point_in t.point)

-- the places of the accepted changes, in order
abbrev pub places_of : List Turn → List ℕ
places_of [] = []
places_of (t ∷ ts) = place_in t ++ places_of ts

-- the call of an accepted change stands in the history at its point, and what is noted behind it is a later point
pub record Stands (u : Scene) (t : Turn) (rest : List Turn) : Type 0 where
  pub point : ℕ
  pub noted : t.point ≡ Some point
  pub change : NameChange
  pub stands : slice_get u.names.history point ≡ Some change
  pub key : NameKey
  pub act : NameAct
  pub request : ServedRequest
  pub is : t.request ≡ Some request
  pub judged : request.judged ≡ Call key (call.Act act)
  pub same : (change.context ≡ context_in key) × (change.act ≡ act)
  pub later : AllByRecursion (λ p. point < p) (journal_of rest)

module _ (others : List NameChange → Type 0) where
  -- the points never fall, from how much of the history was seen before to how much is seen behind
  abbrev pub PointsRise : Type 0
  PointsRise = (s u : Scene) (ts : List Turn) → Run others s ts u
      → NeverFalls (seen_in s) (journal_of ts) (seen_in u)

  -- the places of one's own changes are those of the accepted ones, in order
  abbrev pub OwnPlacesAreAccepted : Type 0
  OwnPlacesAreAccepted =
      (s u : Scene) (ts : List Turn) → Run others s ts u → u.names.own ≡ s.names.own ++ places_of ts

  -- what is seen goes on from what was seen, and stays legal
  abbrev pub SeenGoesOn : Type 0
  SeenGoesOn =
      (s u : Scene) (ts : List Turn) → Run others s ts u
      → ((later : List NameChange) × (u.names.history ≡ s.names.history ++ later))
      × (Legal s.names.home s.names.history → Legal u.names.home u.names.history)

  -- each accepted change stands at its point, and later points are above it
  abbrev pub AcceptedStand : Type 0
  AcceptedStand =
      (s u : Scene) (before rest : List Turn) (t : Turn) (n : ServedRequest)
      → Run others s (before ++ t ∷ rest) u
      → t.request ≡ Some n → n.accepted ≡ true → Stands u t rest

  -- a Request that is answered with an exception has changed nothing: one's own changes and the iterators are as they
  -- were
  abbrev pub RefusalsChangeNothing : Type 0
  RefusalsChangeNothing =
      (s : Scene) (t : Turn) (n : ServedRequest) → IsTurn others s t → t.request ≡ Some n
      → (outcome_status n.outcome ≡ 0 → ⊥)
      → (t.after.names.own ≡ s.names.own) × (t.after.desk ≡ s.desk)

  -- a name within the limits is resolved to an object exactly where it reaches it at what is seen then, or memory
  -- ran out
  abbrev pub ResolvesByReach : Type 0
  ResolvesByReach =
      (s : Scene) (t : Turn) (n : ServedRequest) (key : NameKey) (name : List NameComponent)
      (object : Ior)
      → IsTurn others s t
      → t.request ≡ Some n → n.judged ≡ Call key (call.Act (act.Resolve name))
      → name_fits name ≡ true
      → is_live (store_seen t.after.names) (context_in key) ≡ true → (n.outcome ≡ no_memory → ⊥)
      → (n.outcome ≡ Done (Object object))
      ↔ Reach (store_seen t.after.names) (context_in key) name object
