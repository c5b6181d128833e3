-- A list of pairs of places in which no pair stands twice, with a table in which those that it has are marked.
use Rattle.std.specs.Prelude.{ℕ, ◌≡◌, ◌<◌, ◌≤◌, ◌+◌, ◌*◌, Bool, true, false, List, length, slice_index, slice_index_or, not}
use Rattle.std.specs.List.{count_by}
use Rattle.tc_graph.specs.declared.pairs.Pair.{Pair}

-- the pairs, and how many places there are on the left and on the right
pub record PairTable : Type 0 where
  pub rows : ℕ
  pub columns : ℕ
  pub pairs : List Pair

-- what stands past the end of a list
abbrev pub no_pair : Pair
no_pair = record { left = 0; right = 0 }

abbrev pub pair_at : List Pair → ℕ → Pair
pair_at ps k = slice_index_or ps k no_pair

-- the list has the pair
pub record Has (ps : List Pair) (i j : ℕ) : Type 0 where
  pub at : ℕ
  pub below : at < length ps
  pub left : (pair_at ps at).left ≡ i
  pub right : (pair_at ps at).right ≡ j

abbrev pub count_unmarked : List Bool → ℕ
count_unmarked cells = count_by not cells

-- a row of cells for each place on the left: each marked cell's pair is in the list, and each of its pairs has one
pub record IsMarked (rows columns : ℕ) (cells : List Bool) (ps : List Pair) : Type 0 where
  pub size : length cells ≡ rows * columns
  pub lefts : (k : ℕ) → k < length ps → (pair_at ps k).left < rows
  pub rights : (k : ℕ) → k < length ps → (pair_at ps k).right < columns
  pub marked : (i j : ℕ) → i < rows → j < columns → slice_index_or cells (i * columns + j) false
      ≡ true → Has ps i j
  pub room : length ps + count_unmarked cells ≡ rows * columns

-- the pairs of a list come first in another
pub record IsPrefix (ps qs : List Pair) : Type 0 where
  pub longer : length ps ≤ length qs
  pub kept : (k : ℕ) → k < length ps → pair_at qs k ≡ pair_at ps k

-- what a list has behind the pairs of another is this pair
abbrev pub AddsOnly : Pair → List Pair → List Pair → Type 0
AddsOnly p ps qs = (k : ℕ) → length ps ≤ k → k < length qs → pair_at qs k ≡ p

-- the places without aliases to which the two edges of a number lead
abbrev pub ends_of : List ℕ → List ℕ → List ℕ → List ℕ → ℕ → Pair
ends_of left right lefts rights k = record {
  left = slice_index lefts (slice_index left k);
  right = slice_index rights (slice_index right k);
}

-- a list gets the ends of so many edges, and nothing else
pub record AddsEnds (ends : ℕ → Pair) (n : ℕ) (ps qs : List Pair) : Type 0 where
  pub front : IsPrefix ps qs
  pub here : (k : ℕ) → k < n → Has qs (ends k).left (ends k).right
  pub only : (k : ℕ) → length ps ≤ k → k < length qs → (e : ℕ) × (e < n) × (pair_at qs k ≡ ends e)
