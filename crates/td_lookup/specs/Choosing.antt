-- Which properties of its offers a query asks for (OMG's Trading Object Service, interface Lookup, query,
-- desired_props).
use Rattle.std.specs.Prelude.{ℕ, List, [], Option}
use Rattle.std.specs.List.{filter_map, find}
use Rattle.std.specs.Str.{bytes_eq}
use Rattle.td_value.specs.declared.structures.Offer.{Offer}
use Rattle.td_value.specs.declared.structures.Property.{Property}
use Rattle.td_value.specs.declared.unions.SpecifiedProps.{SpecifiedProps}
use Rattle.td_value.specs.declared.unions.SpecifiedProps.TheVariants as props

-- the first property of a name
abbrev pub property_named : (name : List ℕ) → List Property → Option Property
property_named name properties = find (λ p. bytes_eq p.name name) properties

-- of the names in their order each property that there is
abbrev pub named_in : (names : List (List ℕ)) → List Property → List Property
named_in names properties = filter_map (λ name. property_named name properties) names

-- of an offer's properties those of the list that it has, in the list's order
abbrev pub chosen_of : SpecifiedProps → List Property → List Property
chosen_of props.None properties = []
chosen_of (props.Some names) properties = named_in names properties
chosen_of props.All properties = properties

abbrev pub chosen : SpecifiedProps → Offer → Offer
chosen desired o = record o { properties = chosen_of desired o.properties }
