-- What a call on the desk answers, and what it leaves of the history.
use Rattle.std.specs.Prelude.{◌≡◌, ℕ, ◌+◌, Bool, true, false, if◌then◌else◌, nat_le, List, [], ◌∷◌, ◌++◌, length, Option}
use Rattle.std.specs.Prelude.{Some, None, Result, Ok, Err, slice_get, find}
use Rattle.td_cdr.specs.Marks.{Marks}
use Rattle.td_cdr.specs.Writing.{Draft}
use Rattle.td_iter.specs.Desks.{is_called}
use Rattle.td_iter.specs.declared.desk.DeskEntry.{DeskEntry}
use Rattle.td_iter.specs.declared.item.Item.{Item}
use Rattle.td_desk.specs.Batching.{body_of, is_offers, more_behind, size_of}
use Rattle.td_desk.specs.Standings.{is_full, state_after}
use Rattle.td_desk.specs.declared.act.Act.{Act}
use Rattle.td_desk.specs.declared.act.Act.TheVariants as act
use Rattle.td_desk.specs.declared.act.Reply.{Reply}
use Rattle.td_desk.specs.declared.act.Reply.TheVariants as reply
use Rattle.td_desk.specs.declared.event.Event.{Event}
use Rattle.td_desk.specs.declared.event.Event.TheVariants as event
use Rattle.td_desk.specs.declared.fault.DeskFault.{DeskFault}
use Rattle.td_desk.specs.declared.fault.DeskFault.TheVariants.{Absent, Full, Memory}

-- a desk makes no marks
abbrev pub no_marks : Marks
no_marks = record { count = 0; counter = 0; ring = 0; kept = [] }

-- the second history begins with the first
pub record ExtendsHistory (h k : List Event) : Type 0 where
  pub rest : List Event
  pub is : k ≡ h ++ rest

-- the call is an entry of the history, but where it was full
abbrev pub note_act : Bool → Event → List Event → List Event
note_act true e h = h
note_act false e h = h ++ e ∷ []

-- the iterator that a call finds; full comes before absent
abbrev pub found_by : Bool → Option (DeskEntry Item) → Result (DeskEntry Item) DeskFault
found_by true e = Err Full
found_by false None = Err Absent
found_by false (Some e) = Ok e

-- what it is answered with
abbrev pub result_of : {X : Type 0} → (DeskEntry Item → X) → Result (DeskEntry Item) DeskFault
    → Result X DeskFault
result_of f (Ok e) = Ok (f e)
result_of f (Err fault) = Err fault

-- the one that is dropped for a new one
abbrev pub dropped_entry : List (DeskEntry Item) → Option (DeskEntry Item)
dropped_entry es = if nat_le 4096 (length es) then slice_get es 0 else None

abbrev pub draws_by : Bool → ℕ → Result ℕ DeskFault
draws_by true drawn = Err Full
draws_by false drawn = Ok (drawn + 1)

-- what comes back for an iterator that is put on the desk: the one that it dropped, or itself where it was full
abbrev pub back_by : Bool → DeskEntry Item → List (DeskEntry Item) → Option (DeskEntry Item)
back_by true e es = Some e
back_by false e es = dropped_entry es

module _ (h : List Event) where
  -- a number is drawn
  pub record DrawsNumber (r : Result ℕ DeskFault) (k : List Event) : Type 0 where
    pub result : r ≡ draws_by (is_full (state_after h).draws) (state_after h).draws
    pub history : k ≡ note_act (is_full (state_after h).draws) event.Draw h

  -- an iterator is put on the desk
  pub record AddsIterator (e : DeskEntry Item) (r : Option (DeskEntry Item)) (k : List Event) :
      Type 0 where
    pub result : r ≡ back_by (is_full (state_after h).adds) e (state_after h).entries
    pub history : k ≡ note_act (is_full (state_after h).adds) (event.Add e) h

  module _ (trader : List ℕ) (number : ℕ) where
    -- the iterator of this trader and number
    abbrev pub finds : Result (DeskEntry Item) DeskFault
    finds = found_by (is_full (state_after h).calls)
        (find (is_called trader number) (state_after h).entries)

    -- how many are left, and whether they are offers
    pub record Counts (r : Result (ℕ × Bool) DeskFault) (k : List Event) : Type 0 where
      pub result : r ≡ result_of (λ e. (size_of e.item, is_offers e.item)) finds
      pub history : k ≡ note_act (is_full (state_after h).calls) (event.Left trader number) h

    -- it is taken off
    pub record DestroysIterator (r : Result (DeskEntry Item) DeskFault) (k : List Event) :
        Type 0 where
      pub result : r ≡ finds
      pub history : k ≡ note_act (is_full (state_after h).calls) (event.Destroy trader number) h

    module _ (n : ℕ) (w back : Draft) (k : List Event) where
      -- the batch for n items is given
      pub record IsBatchGiven (e : DeskEntry Item) (more : Bool) : Type 0 where
        pub more_is : more ≡ more_behind n w.order e.item
        pub order : back.order ≡ w.order
        pub bytes : back.bytes ≡ w.bytes ++ body_of n w.order e.item
        pub history : k ≡ h ++ event.Next trader number n w.order ∷ []

      -- nothing is given
      pub record IsUnchangedBut (fault : DeskFault) (f : DeskFault) (left : List Event) :
          Type 0 where
        pub fault_is : f ≡ fault
        pub order : back.order ≡ w.order
        pub bytes : back.bytes ≡ w.bytes
        pub history : k ≡ left

      abbrev pub GivesBy : Result (DeskEntry Item) DeskFault → Result Bool DeskFault → Type 0
      GivesBy (Ok e) (Ok more) = IsBatchGiven e more
      GivesBy (Ok e) (Err f) = IsUnchangedBut Memory f h
      GivesBy (Err fault) (Ok more) = ⊥
      GivesBy (Err fault) (Err f) = IsUnchangedBut fault f (note_act (is_full (state_after h).calls)
          (event.Next trader number n w.order) h)

      -- its batch for n items is appended to what the writer holds, which is handed back
      abbrev pub GivesBatch : Result Bool DeskFault → Type 0
      GivesBatch r = GivesBy finds r

abbrev pub DeskActs : List Event → Act → Reply → List Event → Type 0
DeskActs h act.Draw (reply.Drawn r) k = DrawsNumber h r k
DeskActs h act.Draw (reply.Added r) k = ⊥
DeskActs h act.Draw (reply.Left r) k = ⊥
DeskActs h act.Draw (reply.Next back r) k = ⊥
DeskActs h act.Draw (reply.Destroyed r) k = ⊥
DeskActs h (act.Add e) (reply.Drawn r) k = ⊥
DeskActs h (act.Add e) (reply.Added r) k = AddsIterator h e r k
DeskActs h (act.Add e) (reply.Left r) k = ⊥
DeskActs h (act.Add e) (reply.Next back r) k = ⊥
DeskActs h (act.Add e) (reply.Destroyed r) k = ⊥
DeskActs h (act.Left trader number) (reply.Drawn r) k = ⊥
DeskActs h (act.Left trader number) (reply.Added r) k = ⊥
DeskActs h (act.Left trader number) (reply.Left r) k = Counts h trader number r k
DeskActs h (act.Left trader number) (reply.Next back r) k = ⊥
DeskActs h (act.Left trader number) (reply.Destroyed r) k = ⊥
DeskActs h (act.Next trader number n begun) (reply.Drawn r) k = ⊥
DeskActs h (act.Next trader number n begun) (reply.Added r) k = ⊥
DeskActs h (act.Next trader number n begun) (reply.Left r) k = ⊥
DeskActs h (act.Next trader number n begun)
    (reply.Next back r) k = GivesBatch h trader number n begun.writer back k r
DeskActs h (act.Next trader number n begun) (reply.Destroyed r) k = ⊥
DeskActs h (act.Destroy trader number) (reply.Drawn r) k = ⊥
DeskActs h (act.Destroy trader number) (reply.Added r) k = ⊥
DeskActs h (act.Destroy trader number) (reply.Left r) k = ⊥
DeskActs h (act.Destroy trader number) (reply.Next back r) k = ⊥
DeskActs h (act.Destroy trader number) (reply.Destroyed r) k = DestroysIterator h trader number r k
