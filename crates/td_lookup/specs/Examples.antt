-- Worked examples: the properties that are chosen of three, whether a call that memory ran out for may have been
-- done in part, and the first of two offers.
use Rattle.std.specs.Prelude.{◌≡◌, List, [], ◌∷◌, codes}
use Rattle.td_typecode.specs.declared.code.Any.{Any}
use Rattle.td_iter.specs.Heads.{nil}
use Rattle.td_objects.specs.References.{offer_iterator}
use Rattle.td_lookup.specs.Choosing.{chosen_of}
use Rattle.td_lookup.specs.Querying.{first_offers}
use Rattle.td_lookup.specs.Answering.{no_memory_entry}
use Rattle.td_lookup.specs.NoMemory.{completion_of}
use Rattle.td_ops.specs.declared.outcome.Outcome.TheVariants.{Done}
use Rattle.td_ops.specs.declared.outcome.Reply.TheVariants.{Found}
use Rattle.td_servant.specs.declared.entry.Entry.TheVariants.{Plain, Point, Walk}
use Rattle.td_trader.specs.Worlds.{View}
use Rattle.td_value.specs.declared.structures.Offer.{Offer}
use Rattle.td_value.specs.declared.structures.Property.{Property}
use Rattle.td_value.specs.declared.unions.SpecifiedProps.TheVariants as props
use Rattle.td_walk.specs.declared.trace.Address.{Address}
use Rattle.td_walk.specs.declared.trace.TraceItem.TheVariants as item

module _ (v : Any) where
  abbrev pub cost : Property
  cost = record { name = codes "Cost"; value = v }

  abbrev pub size : Property
  size = record { name = codes "Size"; value = v }

  abbrev pub three : List Property
  three = size ∷ record { name = codes "Name"; value = v } ∷ cost ∷ []

  pub record WorkedChoosing : Type 0 where
    pub none : chosen_of props.None three ≡ []
    pub some : chosen_of (props.Some (codes "Cost" ∷ codes "Rank" ∷ codes "Size" ∷ [])) three
        ≡ cost ∷ size ∷ []
    pub all : chosen_of props.All three ≡ three

pub record WorkedCompletion (w : List View) : Type 0 where
  pub marked : completion_of
      (Walk (record { items = item.Path 0 3 ∷ item.Search 1 5 7 ∷ item.Leave ∷ [] })) ≡ 2
  pub unmarked : completion_of
      (Walk (record { items = item.Path 0 3 ∷ item.Repeat 1 5 7 ∷ item.Leave ∷ [] })) ≡ 1
  pub no_walk : completion_of (Point 0 3) ≡ 1
  pub no_memory_entry : no_memory_entry w 0 (Point 0 3) ≡ Plain

pub record WorkedFirst (home : Address) (o p : Offer) : Type 0 where
  pub one : first_offers home (codes "A") 4 [] (o ∷ p ∷ []) 1
      ≡ Done (Found (o ∷ []) (offer_iterator home (codes "A") 4) [])
  pub both : first_offers home (codes "A") 4 [] (o ∷ p ∷ []) 2 ≡ Done (Found (o ∷ p ∷ []) nil [])
