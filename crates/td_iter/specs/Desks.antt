-- Iterators that are kept, oldest first, and the number that the next one gets.
use Rattle.std.specs.Prelude.{ℕ, zero, suc, ◌+◌, ◌-◌, ◌==◌, ◌&&◌, Bool, if◌then◌else◌, List, [], ◌∷◌, ◌++◌, length}
use Rattle.std.specs.Prelude.{take, drop, find, Option, option_map, slice_get}
use Rattle.std.specs.List.{list_any}
use Rattle.std.specs.Str.{bytes_eq}
use Rattle.td_iter.specs.declared.desk.DeskEntry.{DeskEntry}
use Rattle.td_iter.specs.declared.item.Item.{Item}

-- the live iterators over X, and the next number
abbrev pub LiveOf : Type 0 → Type 0
LiveOf X = List (DeskEntry X) × ℕ

-- those over what is left of an answer
abbrev pub Live : Type 0
Live = LiveOf Item

module _ {X : Type 0} where
  -- it has this number and is of this trader
  abbrev pub is_called : List ℕ → ℕ → DeskEntry X → Bool
  is_called trader number e = (e.number == number) && bytes_eq e.trader trader

  -- the place of the first that is called so; behind the last where there is none
  abbrev pub place_of : List ℕ → ℕ → List (DeskEntry X) → ℕ
  place_of trader number [] = 0
  place_of trader number (e ∷ es) = if is_called trader number e then 0
      else suc (place_of trader number es)

  -- what is left of it, where it is live
  abbrev pub item_of : List ℕ → ℕ → LiveOf X → Option X
  item_of trader number d = option_map (λ e. e.item) (find (is_called trader number) d.0)

  abbrev pub is_live : List ℕ → ℕ → LiveOf X → Bool
  is_live trader number d = list_any (is_called trader number) d.0

  -- one more at the end, with the next number; of 256 the oldest is dropped
  abbrev pub with_added : List ℕ → X → LiveOf X → LiveOf X
  with_added trader item d = (
    drop (length d.0 - 255) d.0 ++ record { trader = trader; number = d.1; item = item } ∷ [],
    d.1 + 1,
  )

  -- all but the first that is called so
  abbrev pub without_item : List ℕ → ℕ → LiveOf X → LiveOf X
  without_item trader number d = (
    take (place_of trader number d.0) d.0
        ++ drop (place_of trader number d.0 + 1) d.0,
    d.1,
  )

  -- all but the oldest
  abbrev pub without_oldest : LiveOf X → LiveOf X
  without_oldest d = (drop 1 d.0, d.1)

  -- the one at a place has this left
  abbrev pub with_item_at : List (DeskEntry X) → ℕ → X → List (DeskEntry X)
  with_item_at [] place item = []
  with_item_at (e ∷ es) zero item = record e { item = item } ∷ es
  with_item_at (e ∷ es) (suc place) item = e ∷ with_item_at es place item

  -- what is left at a place
  abbrev pub item_at : List (DeskEntry X) → ℕ → Option X
  item_at es place = option_map (λ e. e.item) (slice_get es place)

  abbrev pub with_live_item : ℕ → LiveOf X → X → LiveOf X
  with_live_item place d item = (with_item_at d.0 place item, d.1)

  -- the first that is called so has this left
  abbrev pub with_item : List ℕ → ℕ → LiveOf X → X → LiveOf X
  with_item trader number d item = with_live_item (place_of trader number d.0) d item

-- ---- runs of calls

-- a call that changes a desk, but for one that numbers it anew
pub data DeskEvent (X : Type 0) : Type 0 where
  Add : (trader : List ℕ) (item : X) → DeskEvent X
  Remove : (trader : List ℕ) (number : ℕ) → DeskEvent X
  Change : (trader : List ℕ) (number : ℕ) (item : X) → DeskEvent X
  PopFront : DeskEvent X

-- the numbers that calls in this order give
abbrev pub numbers_given : {X : Type 0} → List (DeskEvent X) → LiveOf X → List ℕ
numbers_given [] d = []
numbers_given (Add trader item ∷ events) d = d.1 ∷ numbers_given events (with_added trader item d)
numbers_given (Remove trader number ∷ events) d = numbers_given events
    (without_item trader number d)
numbers_given (Change trader number item ∷ events) d = numbers_given events
    (with_item trader number d item)
numbers_given (PopFront ∷ events) d = numbers_given events (without_oldest d)
