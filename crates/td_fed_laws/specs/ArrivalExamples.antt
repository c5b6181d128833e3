-- Worked examples: a ring of two traders that others use too, of which each remembers two identifiers.
use Rattle.std.specs.Prelude.{◌≡◌, ℕ, List, [], ◌∷◌, codes, None, Some}
use Rattle.td_cdr.specs.Marks.{Marks, add_mark, remembered}
use Rattle.td_fed_laws.specs.Arrivals.{Arrival}
use Rattle.td_fed_laws.specs.SharedLaws.{IsFreshUnder, IsRemembered}
use Rattle.td_fed_laws.specs.WalkLaws.{FarApart, NamesSearches, SearchesOnce}
use Rattle.td_ops.specs.declared.call.Query.{Query}
use Rattle.td_trader.specs.Worlds.{View}
use Rattle.td_walk.specs.declared.trace.TraceItem.{TraceItem}
use Rattle.td_walk.specs.declared.trace.TraceItem.TheVariants as item

-- ---- marks

abbrev pub empty_marks : Marks
empty_marks = record { count = 0; counter = 0; ring = 2; kept = [] }

abbrev pub marked_q : Marks
marked_q = add_mark empty_marks (codes "q") 0

-- others marked one identifier since, or two
abbrev pub marked_qa : Marks
marked_qa = add_mark marked_q (codes "a") 0

abbrev pub marked_qab : Marks
marked_qab = add_mark marked_qa (codes "b") 0

-- ---- arrivals of the query q, at the traders 0 and 1

abbrev pub with_marks : View → Marks → View
with_marks v m = record v { marks = m }

-- so many queries have gone outside; the trader had these marks when it was last seen, and has these now
abbrev pub comes : View → Query → TraceItem → (before : List TraceItem) → (gone : ℕ)
    → (last now : Marks) → Arrival
comes v q i before gone last now = record {
  item = i;
  before = before;
  sent = gone;
  query = q;
  last = with_marks v last;
  seen = with_marks v now;
}

abbrev pub in_group : View → List View
in_group v = with_marks v empty_marks ∷ with_marks v empty_marks ∷ []

abbrev pub first_two : View → Query → List Arrival → List Arrival
first_two v q rest =
    comes v q (item.Search 0 0 1) [] 0 empty_marks empty_marks
    ∷ comes v q (item.Search 1 0 1) (item.Search 0 0 1 ∷ []) 0 empty_marks empty_marks
    ∷ rest

-- The query comes from 0 to 1 and back, as others have marked one identifier at 0: it is remembered.
abbrev pub ring : List TraceItem
ring = item.Search 0 0 1 ∷ item.Search 1 0 1 ∷ item.Repeat 0 0 1 ∷ item.Leave ∷ item.Leave ∷ []

abbrev pub in_ring : View → Query → List Arrival
in_ring v q =
    first_two v q
    (comes v q (item.Repeat 0 0 1) (item.Search 0 0 1 ∷ item.Search 1 0 1 ∷ []) 0 marked_q marked_qa
    ∷ [])

-- Others have marked two: it is forgotten, and 0 is searched again.
abbrev pub forgotten_search : List TraceItem
forgotten_search =
    item.Search 0 0 1
    ∷ item.Search 1 0 1
    ∷ item.Search 0 0 4
    ∷ item.Leave
    ∷ item.Leave
    ∷ item.Leave
    ∷ []

abbrev pub in_forgotten : View → Query → List Arrival
in_forgotten v q =
    first_two v q
    (comes v q (item.Search 0 0 4) (item.Search 0 0 1 ∷ item.Search 1 0 1 ∷ [])
    0 marked_q marked_qab ∷ [])

-- Another has marked it at 1 before the query comes there, which is so a repeat.
abbrev pub foreign : List TraceItem
foreign = item.Search 0 0 1 ∷ item.Repeat 1 0 1 ∷ item.Leave ∷ []

abbrev pub in_foreign : View → Query → (gone : ℕ) → List Arrival
in_foreign v q gone =
    comes v q (item.Search 0 0 1) [] 0 empty_marks empty_marks
    ∷ comes v q (item.Repeat 1 0 1) (item.Search 0 0 1 ∷ []) gone empty_marks marked_q
    ∷ []

pub record WorkedArrivals (v : View) (q : Query) : Type 0 where
  -- a ring of two is searched once: both premises hold, and the repeat names the first search
  pub held : remembered marked_qa (codes "q") ≡ Some 1
  pub ring_remembered : IsRemembered (in_ring v q)
  pub ring_fresh : IsFreshUnder (in_group v) 0 (in_ring v q) (codes "q")
  pub ring_once : SearchesOnce ring
  pub ring_named : NamesSearches ring
  -- what isn't remembered is searched twice, though it is fresh
  pub not_held : remembered marked_qab (codes "q") ≡ None
  pub not_remembered : IsRemembered (in_forgotten v q) → ⊥
  pub forgotten_fresh : IsFreshUnder (in_group v) 0 (in_forgotten v q) (codes "q")
  -- its marks are three apart, and no more
  pub not_farther : FarApart (λ k. 3) forgotten_search → ⊥
  pub not_once : SearchesOnce forgotten_search → ⊥
  -- what isn't fresh may be a repeat of another's mark, though it is remembered
  pub foreign_remembered : IsRemembered (in_foreign v q 0)
  pub not_fresh : IsFreshUnder (in_group v) 0 (in_foreign v q 0) (codes "q") → ⊥
  pub not_named : NamesSearches foreign → ⊥
  -- and so may a fresh one of which a query has gone outside
  pub outside_fresh : IsFreshUnder (in_group v) 0 (in_foreign v q 1) (codes "q")
