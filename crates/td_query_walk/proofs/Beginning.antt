-- Worked walks that ran out of memory on their way.
use Rattle.std.proofs.Common.{◌≡◌, ℕ, zero, suc, List, [], ◌∷◌, refl, sym, ap, subst}
use Rattle.std.specs.Prelude.{Option, Some}
use Rattle.td_typecode.specs.declared.reference.Ior.{Ior}
use Rattle.td_ops.specs.declared.call.Query.{Query}
use Rattle.td_store.specs.declared.local.Local.{Local}
use Rattle.td_value.specs.declared.enumerations.FollowOption.TheVariants.{Always}
use Rattle.td_walk.specs.Peering.{Querying}
use Rattle.td_walk.specs.Peering.{Answered as Replied}
use Rattle.td_walk.specs.SubQueries.{link_query, path_query}
use Rattle.td_walk.specs.Visits.{next_of}
use Rattle.td_walk.specs.declared.answer.Next.{Next}
use Rattle.td_walk.specs.declared.answer.StepAnswer.TheVariants as answer
use Rattle.td_walk.specs.declared.trace.TraceItem.{TraceItem}
use Rattle.td_walk.specs.declared.trace.TraceItem.TheVariants as item
use Rattle.td_walk.specs.declared.trace.Visit.{Visit}
use Rattle.td_query_walk.proofs.Walking.{far_small, next-along, next-over-none}
use Rattle.td_query_walk.specs.BeginningExamples.{Alone, ComesSoFar, WorkedBeginnings}
use Rattle.td_query_walk.specs.Beginnings.{StepsBegin, WalkBegins, unbegun, watched, whole, unended, no_more, one_more}
use Rattle.td_query_walk.specs.Beginnings.{visiting}
use Rattle.td_query_walk.specs.Examples.{along, example_query as whole_query, elsewhere, given_there, link, over}
use Rattle.td_query_walk.specs.Examples.{search}
use Rattle.td_query_walk.specs.WalkExamples.{alike, at_second, begins_so, course, group, nowhere, one_call}
use Rattle.td_query_walk.specs.WalkLaws.{BeginsIn, Group}
use Rattle.td_query_walk.specs.Walks.{WalkState, OpensWith, Repeat, Search, Path, Start, Step, Walk}
use Rattle.td_query_walk.specs.Walks.{searching, passing, refused, repeat, asking, outside}

-- ---- how far some came

first-item : (word : ℕ → ℕ) → ComesSoFar (alike (Search (over Always []))) nowhere word (item.Search 0 0 1 ∷ []) 1 []
first-item word =
    let none : StepsBegin (BeginsIn (alike (Search (over Always [])))) Alone nowhere (course word 1 [])
    (over Always []) [] [] (course word 1 []) = no_more in
    unended refl searching none

without-leave : (word : ℕ → ℕ)
    → ComesSoFar (alike (Path along)) nowhere word (item.Path 0 0 ∷ item.Outside given_there ∷ []) 1
    (one_call (Querying elsewhere (path_query along)) (Replied given_there))
without-leave word =
    let m = course word 1 (one_call (Querying elsewhere (path_query along)) (Replied given_there)) in
    let none : StepsBegin (BeginsIn (alike (Path along))) Alone nowhere m along (answer.Offers given_there ∷ []) [] m =
    no_more in
    let step : Step (BeginsIn (alike (Path along))) nowhere (course word 1 []) (next_of along [])
    (item.Outside given_there ∷ []) (answer.Offers given_there) m =
    subst (λ (n : Next). Step (BeginsIn (alike (Path along))) nowhere (course word 1 []) n
    (item.Outside given_there ∷ []) (answer.Offers given_there) m) (sym next-along)
    (outside refl far_small) in
    let steps : StepsBegin (BeginsIn (alike (Path along))) Alone nowhere (course word 1 []) along []
    (item.Outside given_there ∷ []) m = one_more step none in
    unended refl passing steps

within : (word : ℕ → ℕ)
    → ComesSoFar (group (Search (over Always [])) (Search (search [] []))) at_second word
    (item.Search 0 0 1 ∷ item.Search 1 0 1 ∷ []) 2 []
within word =
    let g = group (Search (over Always [])) (Search (search [] [])) in
    let none : StepsBegin (BeginsIn g) Alone at_second (course word 2 []) (search [] []) [] [] (course word 2 []) =
    no_more in
    let inner : WalkBegins (BeginsIn g) Alone at_second (course word 1 []) 1
    (link_query (over Always []) (Some 1000) (link Always)) (item.Search 1 0 1 ∷ []) (course word 2 []) =
    unended refl searching none in
    let steps : StepsBegin (BeginsIn g) Alone at_second (course word 1 []) (over Always []) [] (item.Search 1 0 1 ∷ [])
    (course word 2 []) = visiting next-over-none refl inner in
    unended refl searching steps

-- ---- what none begins with

search-alone : (l : Local) (k point mark : ℕ) → begins_so (Search l) (Search l) k ≡ Repeat point mark → ⊥
search-alone l zero point mark h = let bad : ⊥ = cc in bad
search-alone l (suc k) point mark h = let bad : ⊥ = cc in bad

module _ (g : Group) (inside : ℕ → Ior → Option ℕ) where
  repeat-opens : (k : ℕ) (l : Local) (start : Start) (head : TraceItem) (trader point mark : ℕ) → OpensWith k l start head
      → head ≡ item.Repeat trader point mark → ⊥
  repeat-opens k l start head trader point mark searching h = let bad : ⊥ = cc in bad
  repeat-opens k l start head trader point mark passing h = let bad : ⊥ = cc in bad

  leave-opens : (k : ℕ) (l : Local) (start : Start) (head : TraceItem) → OpensWith k l start head → head ≡ item.Leave → ⊥
  leave-opens k l start head searching h = let bad : ⊥ = cc in bad
  leave-opens k l start head passing h = let bad : ⊥ = cc in bad

  repeat-walks : (l : Local) (s u : WalkState ℕ) (k : ℕ) (q : Query) (t : List TraceItem) (v : Visit)
      (trader point mark : ℕ) (more : List TraceItem) → Walk (BeginsIn (alike (Search l))) inside s k q t v u
      → t ≡ item.Repeat trader point mark ∷ more → ⊥
  repeat-walks l s u k q t v trader point mark more (refused b) h = let bad : ⊥ = cc in bad
  repeat-walks l s u k q t v trader point mark more (repeat {point = p} {mark = m} b) h =
      search-alone l k p m (ap (λ (x : Start × ℕ). x.0) b)
  repeat-walks l s u k q t v trader point mark more (asking {head = head} b o steps ends) h =
      let e : head ≡ item.Repeat trader point mark = cc in repeat-opens k _ _ head trader point mark o e

  repeat-begins : (l : Local) (s u : WalkState ℕ) (k : ℕ) (q : Query) (t : List TraceItem) (trader point mark : ℕ)
      (more : List TraceItem) → WalkBegins (BeginsIn (alike (Search l))) Alone inside s k q t u
      → t ≡ item.Repeat trader point mark ∷ more → ⊥
  repeat-begins l s u k q t trader point mark more unbegun h = let bad : ⊥ = cc in bad
  repeat-begins l s u k q t trader point mark more (watched w) h = let bad : ⊥ = cc in bad
  repeat-begins l s u k q t trader point mark more (whole w) h =
      repeat-walks l s u k q t _ trader point mark more w h
  repeat-begins l s u k q t trader point mark more (unended {head = head} b o steps) h =
      let e : head ≡ item.Repeat trader point mark = cc in repeat-opens k _ _ head trader point mark o e

  leave-walks : (s u : WalkState ℕ) (k : ℕ) (q : Query) (t : List TraceItem) (v : Visit) (more : List TraceItem)
      → Walk (BeginsIn g) inside s k q t v u → t ≡ item.Leave ∷ more → ⊥
  leave-walks s u k q t v more (refused b) h = let bad : ⊥ = cc in bad
  leave-walks s u k q t v more (repeat b) h = let bad : ⊥ = cc in bad
  leave-walks s u k q t v more (asking {head = head} b o steps ends) h =
      let e : head ≡ item.Leave = cc in leave-opens k _ _ head o e

  leave-begins : (s u : WalkState ℕ) (k : ℕ) (q : Query) (t more : List TraceItem)
      → WalkBegins (BeginsIn g) Alone inside s k q t u → t ≡ item.Leave ∷ more → ⊥
  leave-begins s u k q t more unbegun h = let bad : ⊥ = cc in bad
  leave-begins s u k q t more (watched w) h = let bad : ⊥ = cc in bad
  leave-begins s u k q t more (whole w) h = leave-walks s u k q t _ more w h
  leave-begins s u k q t more (unended {head = head} b o steps) h =
      let e : head ≡ item.Leave = cc in leave-opens k _ _ head o e

-- ---- the examples

pub begun : (word : ℕ → ℕ) → WorkedBeginnings word
begun word = record {
  nothing_done = λ g. unbegun;
  first_item = first-item word;
  without_leave = without-leave word;
  within = within word;
  refusal = λ o. whole (refused refl);
  no_repeat = λ l inside trader point mark more begun calls h.
      repeat-begins (alike (Search l)) inside l (course word 0 []) (course word begun calls) 0 whole_query
      (item.Repeat trader point mark ∷ more) trader point mark more h refl;
  no_leave = λ g inside more begun calls h.
      leave-begins g inside (course word 0 []) (course word begun calls) 0 whole_query (item.Leave ∷ more) more h refl;
}
