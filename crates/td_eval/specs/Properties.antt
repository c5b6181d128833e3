-- Trading Object Service, "The Constraint Language", on property names.
use Rattle.std.specs.Prelude.{ℕ, List, Option, option_map, option_and_then}
use Rattle.std.specs.List.{find}
use Rattle.std.specs.Str.{bytes_eq}
use Rattle.td_typecode.specs.declared.code.Any.{Any}
use Rattle.td_value.specs.declared.structures.Property.{Property}
use Rattle.td_eval.specs.Kinds.{LangValue, content_of}

-- the value of the property of a name; of two of one name the first counts
unfoldable pub property : List Property → List ℕ → Option Any
property map name = option_map (λ p. p.value) (find (λ p. bytes_eq p.name name) map)

-- what the property of a name is in the languages
unfoldable pub content_named : List Property → List ℕ → Option LangValue
content_named map name = option_and_then content_of (property map name)
