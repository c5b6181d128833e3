-- A step of the walk that marks the places that links lead to.
use Rattle.std.specs.Prelude.{◌≡◌, ℕ, ◌+◌, ◌<◌, ◌≤◌, Bool, cond, ◌⊎◌, IsTrue, List, [], ◌∷◌, length, slice_index_or}
use Rattle.td_types.specs.Reaching.{is_in, is_marked}

-- what isn't marked yet
abbrev pub count_unmarked : List Bool → ℕ
count_unmarked [] = 0
count_unmarked (mark ∷ marks) = cond mark 0 1 + count_unmarked marks

-- what is queued is marked
abbrev pub AreMarked : List Bool → List ℕ → Type 0
AreMarked marks queue = (i : ℕ) → i < length queue
    → IsTrue (is_marked marks (slice_index_or queue i 0))

-- what is marked is queued
abbrev pub AreQueued : List Bool → List ℕ → Type 0
AreQueued marks queue = (place : ℕ) → IsTrue (is_marked marks place) → IsTrue (is_in place queue)

-- From marks and a queue to others by marking these places: those that weren't marked stand at the end of the
-- queue, and nothing else has changed.
pub record Marks (places : List ℕ) (marks : List Bool) (queue : List ℕ) (marked : List Bool)
    (queued : List ℕ) : Type 0 where
  pub count : length marked ≡ length marks
  pub kept : (place : ℕ) → IsTrue (is_marked marks place) → IsTrue (is_marked marked place)
  pub all : (place : ℕ) → IsTrue (is_in place places) → IsTrue (is_marked marked place)
  pub only : (place : ℕ) → IsTrue (is_marked marked place)
      → IsTrue (is_marked marks place) ⊎ IsTrue (is_in place places)
  pub longer : length queue + count_unmarked marks ≡ length queued + count_unmarked marked
  pub grows : length queue ≤ length queued
  pub front : (i : ℕ) → i < length queue → slice_index_or queued i 0 ≡ slice_index_or queue i 0
  pub are_marked : AreMarked marks queue → AreMarked marked queued
  pub are_queued : AreQueued marks queue → AreQueued marked queued
