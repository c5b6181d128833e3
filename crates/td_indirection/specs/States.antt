-- What was read so far of a graph whose nodes are spelled one inside another (CORBA's chapter on the General Inter-ORB
-- Protocol, "TypeCode", on indirections). All places count from one point, whatever encapsulation they stand in.
use Rattle.std.specs.Prelude.{◌≡◌, ℕ, zero, suc, ◌+◌, ◌<◌, ◌≤◌, Bool, true, false, List, [], ◌∷◌, ◌++◌, length, map}
use Rattle.std.specs.Prelude.{slice_index}
use Rattle.td_cdr.specs.Gap.{gap}
use Rattle.td_cdr.specs.Format.{nth}

-- a node: where its kind stands, and what is known of it
pub record Slot (N : Type 0) : Type 0 where
  pub place : ℕ
  pub node : N

pub record CodingState (N : Type 0) : Type 0 where
  -- where the places of the present encapsulation begin
  pub base : ℕ
  -- the nodes that were begun, in order
  pub table : List (Slot N)
  -- whether an indirection was followed
  pub linked : Bool

-- before anything was read
abbrev pub empty : {N : Type 0} → CodingState N
empty = record { base = 0; table = []; linked = false }

abbrev pub nodes : {N : Type 0} → CodingState N → List N
nodes s = map (λ x. x.node) s.table

abbrev pub places : {N : Type 0} → CodingState N → List ℕ
places s = map (λ x. x.place) s.table

-- where the next unsigned long stands
abbrev pub ulong_place : {N : Type 0} → CodingState N → ℕ → ℕ
ulong_place s place = s.base + (place + gap 4 place)

-- the encapsulation whose length stands next; its places begin behind the length
abbrev pub inside_state : {N : Type 0} → CodingState N → ℕ → CodingState N
inside_state s place = record { base = ulong_place s place + 4; table = s.table; linked = s.linked }

-- behind the encapsulation
abbrev pub behind_state : {N : Type 0} → CodingState N → CodingState N → CodingState N
behind_state s inner = record { base = s.base; table = inner.table; linked = inner.linked }

abbrev pub with_link : {N : Type 0} → CodingState N → CodingState N
with_link s = record { base = s.base; table = s.table; linked = true }

-- ---- nodes

abbrev pub with_slots : {N : Type 0} → CodingState N → List (Slot N) → CodingState N
with_slots s more = record { base = s.base; table = s.table ++ more; linked = s.linked }

abbrev pub slot : {N : Type 0} → ℕ → N → Slot N
slot place node = record { place = place; node = node }

-- a node of which nothing is known yet
abbrev pub with_blank : {N : Type 0} → N → ℕ → CodingState N → CodingState N
with_blank blank place s = with_slots s (slot place blank ∷ [])

abbrev pub put : {N : Type 0} → List (Slot N) → ℕ → N → List (Slot N)
put [] n v = []
put (x ∷ xs) zero v = slot x.place v ∷ xs
put (x ∷ xs) (suc n) v = x ∷ put xs n v

abbrev pub with_node : {N : Type 0} → CodingState N → ℕ → N → CodingState N
with_node s n v = record { base = s.base; table = put s.table n v; linked = s.linked }

-- ---- how states compare

-- no node that was there before changes
pub record KeepsSlots {N : Type 0} (s next : CodingState N) : Type 0 where
  pub more : List (Slot N)
  pub table : next.table ≡ s.table ++ more
  pub base : next.base ≡ s.base

-- the same nodes, be they at other places
pub record AreAlike {N : Type 0} (s u : CodingState N) : Type 0 where
  pub nodes : nodes s ≡ nodes u
  pub linked : s.linked ≡ u.linked

-- a graph has the nodes from a number on
pub record IsTableOf {N : Type 0} (graph : List N) (s : CodingState N) (from : ℕ) : Type 0 where
  pub each : (i : ℕ) → from ≤ i → i < length s.table → nth graph i ≡ nth (nodes s) i

-- the places rise from the first to a place of the present encapsulation
pub record IsRising {N : Type 0} (first : ℕ) (s : CodingState N) (place : ℕ) : Type 0 where
  pub rising : (i j : ℕ) → i < j → j < length s.table → slice_index (places s) i
      < slice_index (places s) j
  pub above : (i : ℕ) → i < length s.table → first ≤ slice_index (places s) i
  pub below : (i : ℕ) → i < length s.table → slice_index (places s) i < s.base + place
  pub reached : first ≤ s.base + place
