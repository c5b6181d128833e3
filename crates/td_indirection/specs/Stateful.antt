-- Formats with a state: what a part means may depend on where earlier parts stand, and what they were (CORBA's chapter
-- on the General Inter-ORB Protocol, "TypeCode", on indirections).
use Rattle.std.specs.Prelude.{ℕ, ◌+◌, ◌-◌, ◌^◌, ◌<◌, List, length}
use Rattle.td_cdr.specs.declared.order.Order.{Order}
use Rattle.td_cdr.specs.Place.{At}
use Rattle.td_cdr.specs.Gap.{gap}
use Rattle.td_cdr.specs.Spelling.{Joins}
use Rattle.td_cdr.specs.Format.{Piece, Read}
use Rattle.td_cdr.specs.FormatFaults.{Faults}
use Rattle.td_cdr.specs.Faults.{Refuses}
use Rattle.td_cdr.specs.Lawful.{AreOctets}
use Rattle.td_indirection.specs.States.{CodingState, ulong_place, KeepsSlots, AreAlike, IsTableOf, IsRising}

-- F: the faults, N: what is known of a node, X: the values
pub record StatefulFormat (F N X : Type 0) : Type 1 where
  -- the value with the state behind it, and where the reader then stands; or the first fault
  pub reads : CodingState N → At → Read F (X × CodingState N)
  -- the bytes that spell a value from a place on, with the state behind it
  pub spells : CodingState N → Order → ℕ → X × CodingState N → List ℕ → Type 0
  -- where the bytes are no value, and the fault that this is
  pub faults : CodingState N → Faults F
  -- what is written for a value of a graph, and the state behind it
  pub writes : List N → CodingState N → X → Piece
  pub leaves : List N → CodingState N → X → Order → ℕ → CodingState N

-- What is written spells the value, with the same nodes behind it.
pub record IsWritten {F N X : Type 0} (t : StatefulFormat F N X) (graph : List N) (first : ℕ)
    (next : CodingState N) (x : X) (s : CodingState N) (order : Order) (place : ℕ) : Type 0 where
  pub spelled : t.spells s order place (x, t.leaves graph s x order place)
      (t.writes graph s x order place)
  pub alike : AreAlike next (t.leaves graph s x order place)
  pub good : IsRising first (t.leaves graph s x order place)
      (place + length (t.writes graph s x order place))

-- What has a spelling in one state has one in each state with the same nodes: what is written there. The graph has
-- the nodes of the value.
abbrev pub Transfers : {F N X : Type 0} → StatefulFormat F N X → Type 0
Transfers {N = N} {X = X} t =
    (graph : List N) (first : ℕ) (s u : CodingState N) (order o : Order) (place p : ℕ) (x : X)
    (next : CodingState N) (b : List ℕ)
    → AreOctets b → t.spells s order place (x, next) b → IsTableOf graph next (length s.table)
    → AreAlike s u
    → IsRising first u p → u.base + p + length (t.writes graph u x o p) < first + 2 ^ 32
    → IsWritten t graph first next x u o p

-- a format with its laws
pub record Sound (F N X : Type 0) : Type 1 where
  pub format : StatefulFormat F N X
  -- what is read is spelled so, and what is spelled so is read whatever follows
  pub joins : (s : CodingState N) → Joins (format.spells s) (format.reads s)
  -- it is refused exactly where the bytes are at fault, with that fault
  pub refuses : (s : CodingState N) → Refuses (format.faults s) (format.reads s)
  pub grows : (s : CodingState N) (order : Order) (place : ℕ) (x : X) (next : CodingState N)
      (b : List ℕ)
      → format.spells s order place (x, next) b → KeepsSlots s next
  pub transfers : Transfers format

-- ---- what stands behind a tag

-- a format that knows where its tag stood
pub record TaggedFormat (F N X : Type 0) : Type 1 where
  pub reads : At → CodingState N → At → Read F (X × CodingState N)
  pub spells : ℕ → CodingState N → Order → ℕ → X × CodingState N → List ℕ → Type 0
  pub faults : At → CodingState N → Faults F
  pub writes : ℕ → List N → CodingState N → X → Piece
  pub leaves : ℕ → List N → CodingState N → X → Order → ℕ → CodingState N

-- where a tag stood, as the state counts
abbrev pub tag_place : {N : Type 0} → CodingState N → At → ℕ
tag_place s tag = ulong_place s (tag.place - tag.origin)

pub record IsWrittenBehind {F N X : Type 0} (t : TaggedFormat F N X) (graph : List N) (first : ℕ)
    (next : CodingState N) (x : X) (s : CodingState N) (tag : ℕ) (order : Order) (place : ℕ) :
    Type 0 where
  pub spelled : t.spells tag s order place (x, t.leaves tag graph s x order place)
      (t.writes tag graph s x order place)
  pub alike : AreAlike next (t.leaves tag graph s x order place)
  pub good : IsRising first (t.leaves tag graph s x order place)
      (place + length (t.writes tag graph s x order place))

-- the same, where the tag stood at a place from which on nothing else was spelled
abbrev pub TransfersBehind : {F N X : Type 0} → TaggedFormat F N X → Type 0
TransfersBehind {N = N} {X = X} t =
    (graph : List N) (first m : ℕ) (s u : CodingState N) (order o : Order) (place before p : ℕ)
    (x : X)
    (next : CodingState N) (b : List ℕ)
    → AreOctets b → t.spells m s order place (x, next) b → IsTableOf graph next (length s.table)
    → AreAlike s u → IsRising first u before → before + gap 4 before < p
    → u.base + p + length (t.writes (ulong_place u before) graph u x o p) < first + 2 ^ 32
    → IsWrittenBehind t graph first next x u (ulong_place u before) o p

-- one of the formats that a tag chooses, with its laws
pub record TaggedArm (F N X : Type 0) : Type 1 where
  pub format : TaggedFormat F N X
  pub joins : (tag : At) (s : CodingState N)
      → Joins (format.spells (tag_place s tag) s) (format.reads tag s)
  pub refuses : (tag : At) (s : CodingState N) → Refuses (format.faults tag s) (format.reads tag s)
  pub grows : (m : ℕ) (s : CodingState N) (order : Order) (place : ℕ) (x : X) (next : CodingState N)
      (b : List ℕ)
      → format.spells m s order place (x, next) b → KeepsSlots s next
  pub transfers : TransfersBehind format
