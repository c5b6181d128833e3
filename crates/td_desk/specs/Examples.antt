-- A worked history: an answer of seven ids gave two of them at once. Two connections ask for the rest.
use Rattle.std.specs.Prelude.{◌≡◌, List, [], ◌∷◌, codes, take, Ok, Err, true, false}
use Rattle.td_cdr.specs.declared.order.Order.TheVariants.{Big, Little}
use Rattle.td_iter.specs.declared.desk.DeskEntry.{DeskEntry}
use Rattle.td_iter.specs.declared.item.Item.{Item}
use Rattle.td_iter.specs.declared.item.Item.TheVariants.{Ids}
use Rattle.td_desk.specs.Acting.{finds}
use Rattle.td_desk.specs.Batching.{more_behind}
use Rattle.td_desk.specs.Giving.{AnId, given, places_at}
use Rattle.td_desk.specs.Standings.{empty_desk}
use Rattle.td_desk.specs.declared.event.Event.{Event}
use Rattle.td_desk.specs.declared.event.Event.TheVariants.{Draw, Add, Next, Destroy}
use Rattle.td_desk.specs.declared.fault.DeskFault.TheVariants.{Absent}

-- what is left of the answer
abbrev pub five_left : DeskEntry Item
five_left = record {
  trader = codes "A";
  number = 1;
  item = Ids (codes "3" ∷ codes "4" ∷ codes "5" ∷ codes "6" ∷ codes "7" ∷ []);
}

-- one connection keeps it, and the other asks for three; the first asks for three, and the other destroys it
abbrev pub in_turns : List Event
in_turns = Draw ∷ Add five_left ∷ Next (codes "A") 1 3 Big ∷ Next (codes "A") 1 3 Little
    ∷ Destroy (codes "A") 1 ∷ []

pub record WorkedTurns : Type 0 where
  -- what each call gives
  pub gives : given (codes "A") 1 empty_desk in_turns ≡
      [] ∷ [] ∷ (AnId (codes "3") ∷ AnId (codes "4") ∷ AnId (codes "5") ∷ [])
      ∷ (AnId (codes "6") ∷ AnId (codes "7") ∷ []) ∷ [] ∷ []
  -- from which places of the list
  pub first_places : places_at in_turns five_left 2 ≡ 0 ∷ 1 ∷ 2 ∷ []
  pub then_places : places_at in_turns five_left 3 ≡ 3 ∷ 4 ∷ []
  -- what is left before the last call, and behind it
  pub before : finds (take 4 in_turns) (codes "A") 1 ≡ Ok (record five_left { item = Ids [] })
  pub behind : finds in_turns (codes "A") 1 ≡ Err Absent
  -- no iterator of another trader, or of another number
  pub other_trader : finds (take 4 in_turns) (codes "B") 1 ≡ Err Absent
  pub other_number : finds (take 4 in_turns) (codes "A") 2 ≡ Err Absent
  -- whether more are left behind three, of five and of two
  pub more : more_behind 3 Big five_left.item ≡ true
  pub no_more : more_behind 3 Big (Ids (codes "6" ∷ codes "7" ∷ [])) ≡ false
