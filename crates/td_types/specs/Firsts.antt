-- The first definition of each property's name, as a map keeps it.
use Rattle.std.specs.Prelude.{◌≡◌, ℕ, List, Option}
use Rattle.std.specs.BTreeMap.{BTreeMap}
use Rattle.std.specs.Borrow.{Bor}
use Rattle.std.specs.Map.{lookup}
use Rattle.std.specs.Option.{option_map}
use Rattle.std.specs.Str.{bytes_eq}
use Rattle.td_types.specs.Adding.{Definition, earlier_of}
use Rattle.td_types.specs.declared.redefining.Given.{Given}

abbrev pub definition_of : Given → Definition
definition_of g = record { type = g.type_name.now; property = g.property.now; own = g.own }

-- the definition that the map keeps for a name
abbrev pub first_at : BTreeMap (Bor (List ℕ)) Given → List ℕ → Option Definition
first_at firsts name = option_map definition_of (lookup (λ k. bytes_eq name k.now) firsts.entries)

-- the map keeps the first of these definitions for each name
abbrev pub AreFirsts : BTreeMap (Bor (List ℕ)) Given → List Definition → Type 0
AreFirsts firsts definitions = (name : List ℕ) → first_at firsts name ≡ earlier_of definitions name
