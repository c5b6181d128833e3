-- The items of a service type: `super=NAME` and `prop=NAME:MODE:VALUETYPE`.
use Rattle.std.specs.Prelude.{ℕ, List, [], ◌∷◌, ◌++◌, take, drop, codes, if◌then◌else◌, Option, Some, None}
use Rattle.std.specs.Str.{bytes_eq}
use Rattle.td_forms.specs.Types.{code_of, value_type_of}
use Rattle.td_forms.specs.Words.{mode_named}
use Rattle.td_forms.specs.declared.value_type.ValueType.{ValueType}
use Rattle.td_ior.specs.Keys.{◌>>=◌}
use Rattle.td_value.specs.declared.enumerations.PropertyMode.{PropertyMode}
use Rattle.td_value.specs.declared.structures.PropStruct.{PropStruct}
use Rattle.td_cli_request.specs.Cuts.{cut_first}
use Rattle.td_cli_request.specs.declared.types.TypeItems.{TypeItems}

abbrev pub nothing_yet : TypeItems
nothing_yet = record { supers = []; props = [] }

-- ---- one item

abbrev pub with_super : TypeItems → List ℕ → Option TypeItems
with_super items name = Some (record items { supers = items.supers ++ name ∷ [] })

abbrev pub prop_with : List ℕ → PropertyMode → ValueType → PropStruct
prop_with name mode type = record { name = name; value_type = code_of type; mode = mode }

abbrev pub prop_in : List ℕ → Option PropStruct
prop_in text = do
  first ← cut_first 58 text
  second ← cut_first 58 first.1
  mode ← mode_named second.0
  type ← value_type_of second.1
  Some (prop_with first.0 mode type)

abbrev pub with_prop : TypeItems → List ℕ → Option TypeItems
with_prop items text = prop_in text >>= λ p. Some (record items { props = items.props ++ p ∷ [] })

abbrev pub with_word : TypeItems → List ℕ → Option TypeItems
with_word items word =
    if bytes_eq (take 6 word) (codes "super=") then with_super items (drop 6 word)
    else (if bytes_eq (take 5 word) (codes "prop=") then with_prop items (drop 5 word)
    else None)

-- ---- all items: these, and those that the words spell

abbrev pub items_behind : TypeItems → List (List ℕ) → Option TypeItems
items_behind items [] = Some items
items_behind items (word ∷ words) = with_word items word >>= λ more. items_behind more words
