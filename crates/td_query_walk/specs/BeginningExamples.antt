-- Worked examples of how far a walk came that ran out of memory (OMG's Trading Object Service, "Link Follow Behavior").
use Rattle.std.specs.Prelude.{◌≡◌, ℕ, List, [], ◌∷◌, Option}
use Rattle.td_typecode.specs.declared.reference.Ior.{Ior}
use Rattle.td_ops.specs.declared.outcome.Outcome.{Outcome}
use Rattle.td_store.specs.declared.local.Local.{Local}
use Rattle.td_value.specs.declared.enumerations.FollowOption.TheVariants.{Always}
use Rattle.td_walk.specs.Peering.{Exchange, Querying}
use Rattle.td_walk.specs.Peering.{Answered as Replied}
use Rattle.td_walk.specs.SubQueries.{path_query}
use Rattle.td_walk.specs.declared.trace.TraceItem.{TraceItem}
use Rattle.td_walk.specs.declared.trace.TraceItem.TheVariants as item
use Rattle.td_query_walk.specs.Beginnings.{WalkBegins}
use Rattle.td_query_walk.specs.Examples.{along, example_query, elsewhere, given_there, over, search}
use Rattle.td_query_walk.specs.WalkExamples.{alike, at_second, course, group, nowhere, one_call}
use Rattle.td_query_walk.specs.WalkLaws.{BeginsIn, Group}
use Rattle.td_query_walk.specs.Walks.{Refused, Search, Path}

-- nobody else acts
abbrev pub Alone : (world : ℕ) → (trader : ℕ) → (next : ℕ) → Type 0
Alone world trader next = next ≡ world

-- the first query of all is asked of the first trader, and comes so far; so many queries began then
abbrev pub ComesSoFar : Group → (inside : ℕ → Ior → Option ℕ) → (word : ℕ → ℕ) → List TraceItem
    → (begun : ℕ) → List Exchange → Type 0
ComesSoFar g inside word items begun calls =
    WalkBegins (BeginsIn g) Alone inside (course word 0 []) 0 example_query items
    (course word begun calls)

pub record WorkedBeginnings (word : ℕ → ℕ) : Type 0 where
  -- nothing was done
  pub nothing_done : (g : Group) → ComesSoFar g nowhere word [] 0 []
  -- the search began
  pub first_item : ComesSoFar (alike (Search (over Always []))) nowhere word
      (item.Search 0 0 1 ∷ []) 1 []
  -- the trader outside had answered
  pub without_leave : ComesSoFar (alike (Path along)) nowhere word
      (item.Path 0 0 ∷ item.Outside given_there ∷ []) 1
      (one_call (Querying elsewhere (path_query along)) (Replied given_there))
  -- the search of the second trader began, and neither has ended
  pub within : ComesSoFar (group (Search (over Always [])) (Search (search [] []))) at_second word
      (item.Search 0 0 1 ∷ item.Search 1 0 1 ∷ []) 2 []
  -- a refusal is whole
  pub refusal : (o : Outcome)
      → ComesSoFar (alike (Refused 3 o)) nowhere word (item.Refused 0 3 ∷ []) 1 []
  -- no repeat is shown where the query began with a search, and nothing else where it didn't begin
  pub no_repeat : (l : Local) (inside : ℕ → Ior → Option ℕ) (trader point mark : ℕ)
      (more : List TraceItem) (begun : ℕ) (calls : List Exchange)
      → ComesSoFar (alike (Search l)) inside word (item.Repeat trader point mark ∷ more) begun calls
      → ⊥
  -- no walk begins with Leave
  pub no_leave : (g : Group) (inside : ℕ → Ior → Option ℕ) (more : List TraceItem) (begun : ℕ)
      (calls : List Exchange) → ComesSoFar g inside word (item.Leave ∷ more) begun calls → ⊥
