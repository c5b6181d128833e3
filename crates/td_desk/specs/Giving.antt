-- What the iterator of a trader and a number gives over a history (OMG's Trading Object Service, next_n of the
-- interfaces OfferIterator and OfferIdIterator).
use Rattle.std.specs.Prelude.{◌≡◌, ℕ, ◌+◌, ◌==◌, ◌&&◌, Bool, false, if◌then◌else◌, List, [], ◌∷◌, ◌++◌, length, map, find}
use Rattle.std.specs.Prelude.{Option, Some, None, slice_index_or}
use Rattle.std.specs.Str.{bytes_eq}
use Rattle.td_cdr.specs.Format.{upwards}
use Rattle.td_iter.specs.Desks.{is_called}
use Rattle.td_iter.specs.declared.desk.DeskEntry.{DeskEntry}
use Rattle.td_iter.specs.declared.item.Item.{Item}
use Rattle.td_iter.specs.declared.item.Item.TheVariants.{Offers, Ids}
use Rattle.td_value.specs.declared.structures.Offer.{Offer}
use Rattle.td_desk.specs.Batching.{given_of}
use Rattle.td_desk.specs.Standings.{DeskState, after, empty_desk, state_after}
use Rattle.td_desk.specs.declared.event.Event.{Event}
use Rattle.td_desk.specs.declared.event.Event.TheVariants.{Draw, Add, Left, Next, Destroy}

-- an offer or an id
pub data IteratorItem : Type 0 where
  AnOffer : Offer → IteratorItem
  AnId : List ℕ → IteratorItem

-- what is left of an answer
abbrev pub things_of : Item → List IteratorItem
things_of (Offers xs) = map AnOffer xs
things_of (Ids xs) = map AnId xs

module _ (trader : List ℕ) (number : ℕ) where
  abbrev pub is_its : List ℕ → ℕ → Bool
  is_its name n = (n == number) && bytes_eq name trader

  -- what the batch of the first that is called so has
  abbrev pub batch_by : (Item → Item) → Option (DeskEntry Item) → List IteratorItem
  batch_by f None = []
  batch_by f (Some e) = things_of (f e.item)

  -- what a call gives of it
  abbrev pub given_at : DeskState → Event → List IteratorItem
  given_at s Draw = []
  given_at s (Add e) = []
  given_at s (Left name n) = []
  given_at s (Next name n count order) = if is_its name n then batch_by (given_of count order)
      (find (is_called trader number) s.entries) else []
  given_at s (Destroy name n) = []

  -- what each of these calls gives of it, from what stands there before them
  abbrev pub given : DeskState → List Event → List (List IteratorItem)
  given s [] = []
  given s (e ∷ es) = given_at s e ∷ given (after s e) es

  -- none of these calls puts an iterator on the desk that is called so
  abbrev pub puts_others : Event → Type 0
  puts_others Draw = Unit {0}
  puts_others (Add e) = is_called trader number e ≡ false
  puts_others (Left name n) = Unit {0}
  puts_others (Next name n count order) = Unit {0}
  puts_others (Destroy name n) = Unit {0}

  abbrev pub PutOthers : List Event → Type 0
  PutOthers [] = Unit {0}
  PutOthers (e ∷ es) = puts_others e × PutOthers es

-- one list after another
abbrev pub join_lists : {X : Type 0} → List (List X) → List X
join_lists [] = []
join_lists (xs ∷ xss) = xs ++ join_lists xss

-- the places in its list of what each call gives, from a place on
abbrev pub places_by : {X : Type 0} → ℕ → List (List X) → List (List ℕ)
places_by from [] = []
places_by from (xs ∷ xss) = upwards from (length xs) ∷ places_by (from + length xs) xss

-- Of an iterator that is put on the desk once, under a number of its own: what the calls of the history have given is
-- the front of its list, and what is left of it, while it is there, is the rest.
pub record IsFrontOfList (h : List Event) (e : DeskEntry Item) (rest : List IteratorItem) :
    Type 0 where
  pub front : join_lists (given e.trader e.number empty_desk h) ++ rest ≡ things_of e.item
  pub left : (x : DeskEntry Item) → find (is_called e.trader e.number) (state_after h).entries
      ≡ Some x
      → rest ≡ things_of x.item

-- the places in its list of what the call at this place of the history has given
abbrev pub places_at : List Event → DeskEntry Item → ℕ → List ℕ
places_at h e place = slice_index_or (places_by 0 (given e.trader e.number empty_desk h)) place []

-- the places in its list of what the calls at these places of the history have given
abbrev pub places_through : List Event → DeskEntry Item → List ℕ → List ℕ
places_through h e own = join_lists (map (places_at h e) own)
