-- The history of a desk, and what stands on it then.
use Rattle.std.specs.Prelude.{◌≡◌, ℕ, ◌+◌, ◌-◌, ◌^◌, ◌≤◌, Bool, if◌then◌else◌, nat_le, List, [], ◌∷◌, ◌++◌, length, drop}
use Rattle.std.specs.Prelude.{fold, find, Option, option_map}
use Rattle.td_iter.specs.Desks.{is_called}
use Rattle.td_iter.specs.declared.desk.DeskEntry.{DeskEntry}
use Rattle.td_iter.specs.declared.item.Item.{Item}
use Rattle.td_desk.specs.Batching.{left_behind}
use Rattle.td_desk.specs.declared.event.Event.{Event}
use Rattle.td_desk.specs.declared.event.Event.TheVariants.{Draw, Add, Left, Next, Destroy}

-- the iterators, oldest first, and how many numbers were drawn, iterators put on the desk, and other calls done
pub record DeskState : Type 0 where
  pub entries : List (DeskEntry Item)
  pub draws : ℕ
  pub adds : ℕ
  pub calls : ℕ

abbrev pub empty_desk : DeskState
empty_desk = record { entries = []; draws = 0; adds = 0; calls = 0 }

-- one more at the end; of 4,096 the oldest is dropped
abbrev pub put : DeskEntry Item → List (DeskEntry Item) → List (DeskEntry Item)
put e es = drop (length es - 4095) es ++ e ∷ []

module _ (trader : List ℕ) (number : ℕ) where
  -- the first that is called so has this left
  abbrev pub change_first : (Item → Item) → List (DeskEntry Item) → List (DeskEntry Item)
  change_first f [] = []
  change_first f (e ∷ es) = if is_called trader number e then record e { item = f e.item } ∷ es
      else e
      ∷ change_first f es

  -- all but the first that is called so
  abbrev pub without : List (DeskEntry Item) → List (DeskEntry Item)
  without [] = []
  without (e ∷ es) = if is_called trader number e then es else e ∷ without es

  -- what is left of the first that is called so
  abbrev pub item_in : List (DeskEntry Item) → Option Item
  item_in es = option_map (λ e. e.item) (find (is_called trader number) es)

-- what stands there after one call more
abbrev pub after : DeskState → Event → DeskState
after s Draw = record s { draws = s.draws + 1 }
after s (Add e) = record s { entries = put e s.entries; adds = s.adds + 1 }
after s (Left trader number) = record s { calls = s.calls + 1 }
after s (Next trader number n order) = record s {
  entries = change_first trader number (left_behind n order) s.entries;
  calls = s.calls + 1;
}
after s (Destroy trader number) = record s {
  entries = without trader number s.entries;
  calls = s.calls + 1;
}

-- what stands there after these calls
abbrev pub state_after : List Event → DeskState
state_after h = fold after empty_desk h

-- ---- what a desk keeps

abbrev pub most : ℕ
most = 2 ^ 40

-- it keeps what stands there after these calls
pub record IsReplayed (h : List Event) (entries : List (DeskEntry Item))
    (draws adds calls : ℕ) : Type 0 where
  pub stands : state_after h
      ≡ record { entries = entries; draws = draws; adds = adds; calls = calls }
  pub few : length entries ≤ 4096
  pub few_draws : draws ≤ most
  pub few_adds : adds ≤ most
  pub few_calls : calls ≤ most

abbrev pub is_full : ℕ → Bool
is_full count = nat_le most count
