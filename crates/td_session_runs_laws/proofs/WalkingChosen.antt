-- Offers with the properties that a query asks for.
use Rattle.std.proofs.Common.{◌≡◌, ℕ, ◌^◌, ◌<◌, List, [], length, map, subst, arith}
use Rattle.std.specs.Str.{bytes_eq}
use Rattle.td_cdr.specs.Sound.{sequence}
use Rattle.td_lookup.specs.Choosing.{chosen, chosen_of, named_in, property_named}
use Rattle.td_types.proofs.Sequences.{sequence-each, sequence-from}
use Rattle.td_value.specs.Structures.{offer, property}
use Rattle.td_value.specs.Unions.{specified_props}
use Rattle.td_value.specs.declared.structures.Offer.{Offer}
use Rattle.td_value.specs.declared.structures.Property.{Property}
use Rattle.td_value.specs.declared.unions.SpecifiedProps.{SpecifiedProps}
use Rattle.td_value.specs.declared.unions.SpecifiedProps.TheVariants as props
use Rattle.td_session_runs_laws.proofs.WalkingItems.{each-made, mapped-length, no-longer, sequence-map, there-found}

same-names : (xs ys : List (List ℕ)) → props.Some xs ≡ props.Some ys → xs ≡ ys
same-names xs ys h = cc

pub properties-chosen : (desired : SpecifiedProps) (properties : List Property) → specified_props.format.admits desired
    → (sequence property).format.admits properties
    → (sequence property).format.admits (chosen_of desired properties)
properties-chosen props.None properties h k = sequence-from property [] (omega arith) tt
properties-chosen props.All properties h k = k
properties-chosen (props.Some names) properties h k =
    let few : length names < 2 ^ 32 =
    subst (λ (ns : List (List ℕ)). length ns < 2 ^ 32) (same-names h.1.0 names h.1.1) h.1.2.0 in
    let find = λ (name : List ℕ). property_named name properties in
    sequence-from property (named_in names properties)
    (no-longer (length (named_in names properties)) (length names) (mapped-length find names) few)
    (each-made property.format.admits find names (λ name.
    there-found property.format.admits (λ p. bytes_eq p.name name) properties (sequence-each property properties k)))

pub offers-chosen : (desired : SpecifiedProps) (offers : List Offer) → specified_props.format.admits desired
    → (sequence offer).format.admits offers → (sequence offer).format.admits (map (chosen desired) offers)
offers-chosen desired offers h k =
    sequence-map offer offer (chosen desired) offers (λ o a. (a.0, properties-chosen desired o.properties h a.1)) k
