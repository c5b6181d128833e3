-- A refusal isn't done, and leaves the store as it was.
use Rattle.std.proofs.Common.{◌≡◌, ℕ, ◌+◌, false, List, Some, None, Ok, Err, refl, ap}
use Rattle.td_typecode.specs.declared.reference.Ior.{Ior}
use Rattle.td_ops.specs.declared.call.Change.TheVariants as change
use Rattle.td_ops.specs.declared.outcome.Outcome.TheVariants.{Done}
use Rattle.td_ops.specs.declared.outcome.Reply.{Reply}
use Rattle.td_ops.specs.declared.outcome.Reply.TheVariants as reply
use Rattle.td_value.specs.declared.structures.Property.{Property}
use Rattle.td_changes.specs.Applying.{apply, comes_to}
use Rattle.td_register.specs.Causes.{Cause, ChangeResult, effect_of, refusal_outcome, unless}
use Rattle.td_changes.specs.Histories.{is_done}
use Rattle.td_register.specs.Ids.{id_of}
use Rattle.td_changes.specs.Laws.{TakesNext}
use Rattle.td_register.specs.Registers.{export_cause, exported_offer, with_offer}
use Rattle.td_register.specs.Stores.{Store}
use Rattle.td_register.specs.declared.refusal.Refusal.{Refusal}
use Rattle.td_register.specs.declared.refusal.Refusal.TheVariants.{Raised, NotSupported, Limit}

pub refused-not_done : (f : Refusal) (content : Reply) → refusal_outcome f ≡ Done content → ⊥
refused-not_done (Raised e) content h = cc
refused-not_done NotSupported content h = cc
refused-not_done Limit content h = cc

pub left : (s : Store) (r : ChangeResult) → is_done (effect_of s r).outcome ≡ false → (effect_of s r).store ≡ s
left s (Ok accepted) h = absurd cc
left s (Err f) h = refl

-- a change that is done was accepted, with that reply
pub record Accepts (s : Store) (r : ChangeResult) (content : Reply) : Type 0 where
  pub after : Store
  pub is : r ≡ Ok (content, after)

pub done : (s : Store) (r : ChangeResult) (content : Reply) → (effect_of s r).outcome ≡ Done content → Accepts s r content
done s (Ok accepted) content h = record { after = accepted.1; is = ap (λ (x : Reply). Ok (x, accepted.1)) (reply_in h) }
  where
    reply_in : Done accepted.0 ≡ Done content → accepted.0 ≡ content
    reply_in e = cc
done s (Err f) content h = absurd (refused-not_done f content h)

unless-next : (s : Store) (reference : Ior) (type_name : List ℕ) (properties : List Property) (cause : Cause) (content :
    Reply) →
    (effect_of s (unless cause (reply.Id (id_of (s.last_offer + 1))) (with_offer s (exported_offer s reference type_name
    properties)))).outcome ≡ Done content →
    TakesNext s reference type_name properties content
    (effect_of s (unless cause (reply.Id (id_of (s.last_offer + 1))) (with_offer s (exported_offer s reference type_name
    properties)))).store
unless-next s reference type_name properties None content h = record { number = refl; content_is = cc; offers = refl }
unless-next s reference type_name properties (Some f) content h = absurd (refused-not_done f content h)

pub next : (s : Store) (reference : Ior) (type_name : List ℕ) (properties : List Property) (content : Reply) →
    (apply s (change.Export reference type_name properties)).outcome ≡ Done content →
    TakesNext s reference type_name properties content (apply s (change.Export reference type_name properties)).store
unfolding comes_to
next s reference type_name properties content h = unless-next s reference type_name properties (export_cause s reference
    type_name properties) content h
