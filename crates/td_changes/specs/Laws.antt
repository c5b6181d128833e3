-- What holds of every trader's changes and of its history.
use Rattle.std.specs.Prelude.{◌≡◌, ℕ, ◌+◌, List, [], ◌∷◌, ◌++◌, length, Ok, Err}
use Rattle.td_typecode.specs.declared.reference.Ior.{Ior}
use Rattle.td_ops.specs.declared.call.Change.{Change}
use Rattle.td_ops.specs.declared.outcome.Outcome.TheVariants.{Done}
use Rattle.td_ops.specs.declared.outcome.Reply.{Reply}
use Rattle.td_ops.specs.declared.outcome.Reply.TheVariants as reply
use Rattle.td_value.specs.declared.structures.Property.{Property}
use Rattle.td_changes.specs.Applying.{apply_counted}
use Rattle.td_register.specs.Causes.{Effect, ChangeResult}
use Rattle.td_changes.specs.Histories.{after_all, Legal, StandsAt}
use Rattle.td_register.specs.Ids.{id_of}
use Rattle.td_register.specs.Registers.{exported_offer}
use Rattle.td_register.specs.Stores.{Store}
use Rattle.td_changes.specs.declared.bounds.Bounds.{Bounds}
use Rattle.td_register.specs.declared.history.Accepted.{Accepted}
use Rattle.td_register.specs.declared.refusal.Refusal.TheVariants.{Limit}

-- The reply is the next number as an id, and that offer is the last one in the store.
pub record TakesNext (s : Store) (reference : Ior) (type_name : List ℕ) (properties : List Property)
    (content : Reply) (after : Store) : Type 0 where
  pub number : after.last_offer ≡ s.last_offer + 1
  pub content_is : content ≡ reply.Id (id_of after.last_offer)
  pub offers : after.offers ≡ s.offers ++ exported_offer s reference type_name properties ∷ []

-- What a change comes to at the end of a history, and the history behind it: it is legal again, the store behind it is
-- the one that the change left, and an accepted change is the entry at the point where it was made.
pub record ExtendsLegally (bounds : Bounds) (opening : Store) (history : List Accepted) (c : Change)
    (a : Effect) (after : List Accepted) : Type 0 where
  pub legal : Legal bounds opening after
  pub store : after_all opening after ≡ a.store
  pub stands : (content : Reply) → a.outcome ≡ Done content
      → StandsAt after (length history) c content

-- what a change comes to after a history
abbrev pub applied_after : Bounds → (opening : Store) → List Accepted → Change → Effect
applied_after bounds opening history c = apply_counted bounds (length history)
    (after_all opening history) c

-- what a change comes to where none is accepted: what else refuses it comes first, and IMP_LIMIT last
abbrev pub refused_at_limit : ChangeResult → ChangeResult
refused_at_limit (Ok accepted) = Err Limit
refused_at_limit (Err f) = Err f
