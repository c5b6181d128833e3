-- The causes of a modify, joined.
use Rattle.std.proofs.Common.{◌≡◌, ℕ, List, [], None, sym, subst, ◌∙◌}
use Rattle.td_store.specs.declared.record.OfferRecord.{OfferRecord}
use Rattle.td_value.specs.declared.structures.Property.{Property}
use Rattle.td_register.specs.Causes.{Cause, limit_if, ◌otherwise◌}
use Rattle.td_register.specs.Judged.{IsMet}
use Rattle.td_register.specs.Named.{type_properties}
use Rattle.td_register.specs.Properties.{is_too_large}
use Rattle.td_register.specs.Registers.{changes_cause, deletions_cause, modified_properties}
use Rattle.td_register.specs.Registers.{offer_changes_cause}
use Rattle.td_register.specs.Stores.{Store}
use Rattle.td_register.specs.declared.refusal.Fault.{Fault}
use Rattle.td_register.proofs.Otherwise.{first, grouped, neither}

-- ---- the offer's own causes

abbrev pub names_cause : Store → List (List ℕ) → List Property → OfferRecord → Cause
names_cause s deleted changed o =
    deletions_cause (type_properties s.types.types o) o [] deleted
    otherwise changes_cause s.attributes.supports_dynamic_properties (type_properties s.types.types o) o deleted changed

abbrev pub large_cause : List (List ℕ) → List Property → OfferRecord → Cause
large_cause deleted changed o = limit_if (is_too_large o.reference (modified_properties o.properties deleted changed))

by_offer : (s : Store) (deleted : List (List ℕ)) (changed : List Property) (o : OfferRecord) →
    (names_cause s deleted changed o otherwise large_cause deleted changed o) ≡ offer_changes_cause s deleted changed o
by_offer s deleted changed o =
    grouped (deletions_cause (type_properties s.types.types o) o [] deleted)
    (changes_cause s.attributes.supports_dynamic_properties (type_properties s.types.types o) o deleted changed)
    (large_cause deleted changed o)

pub bad_names : (s : Store) (deleted : List (List ℕ)) (changed : List Property) (o : OfferRecord) (f : Fault) →
    IsMet (names_cause s deleted changed o) f → IsMet (offer_changes_cause s deleted changed o) f
bad_names s deleted changed o f h =
    subst (λ (c : Cause). IsMet c f) (by_offer s deleted changed o)
    (first (names_cause s deleted changed o) (large_cause deleted changed o) f h)

pub fits : (s : Store) (deleted : List (List ℕ)) (changed : List Property) (o : OfferRecord) →
    names_cause s deleted changed o ≡ None → large_cause deleted changed o ≡ None →
    offer_changes_cause s deleted changed o ≡ None
fits s deleted changed o e h =
    sym (by_offer s deleted changed o) ∙ neither (names_cause s deleted changed o) (large_cause deleted changed o) e h
