-- What calls leave at a place.
use Rattle.std.specs.Prelude.{◌≡◌, ℕ, suc, Bool, List, ◌++◌, take, drop, Option, Some, None, Result, Ok, Err, slice_get}
use Rattle.std.specs.Prelude.{slice_set}
use Rattle.td_cdr.specs.Writing.{Draft}
use Rattle.td_cdr.specs.declared.memory.Memory.{Memory}
use Rattle.td_iter.specs.declared.desk.DeskEntry.{DeskEntry}
use Rattle.td_iter.specs.declared.item.Item.{Item}
use Rattle.td_desk.specs.declared.fault.DeskFault.{DeskFault}
use Rattle.td_desk.specs.declared.fault.DeskFault.TheVariants.{Absent}
use Rattle.td_desk.specs.Batching.{body_of, left_behind, more_behind}

-- all but the one at a place
abbrev pub cut_out : {X : Type 0} → ℕ → List X → List X
cut_out place xs = take place xs ++ drop (suc place) xs

-- an item has given its batch for n, and this is left
pub record IsNext (n : ℕ) (w back : Draft) (item left : Item) (more : Bool) : Type 0 where
  pub left_is : left ≡ left_behind n w.order item
  pub more_is : more ≡ more_behind n w.order item
  pub bytes : back.bytes ≡ w.bytes ++ body_of n w.order item

module _ (n place : ℕ) (es left : List (DeskEntry Item)) (w back : Draft) where
  -- the one at the place has given its batch for n items
  pub record IsGivenAt (e : DeskEntry Item) (more : Bool) : Type 0 where
    pub left_is : left ≡ slice_set es place (record e { item = left_behind n w.order e.item })
    pub more_is : more ≡ more_behind n w.order e.item
    pub bytes : back.bytes ≡ w.bytes ++ body_of n w.order e.item

  pub record IsKeptAt : Type 0 where
    pub left_is : left ≡ es
    pub bytes : back.bytes ≡ w.bytes

  abbrev pub GivesAtBy : Option (DeskEntry Item) → Result (Option Bool) Memory → Type 0
  GivesAtBy (Some e) (Ok (Some more)) = IsGivenAt e more
  GivesAtBy (Some e) (Ok None) = ⊥
  GivesAtBy (Some e) (Err memory) = IsKeptAt
  GivesAtBy None (Ok (Some more)) = ⊥
  GivesAtBy None (Ok None) = IsKeptAt
  GivesAtBy None (Err memory) = ⊥

  -- whether something is left behind the batch at a place; nothing where none stands there
  abbrev pub GivesAt : Result (Option Bool) Memory → Type 0
  GivesAt r = GivesAtBy (slice_get es place) r

-- whether something is left behind what was given, where an iterator was there
abbrev pub or_absent : Option Bool → Result Bool DeskFault
or_absent (Some more) = Ok more
or_absent None = Err Absent
