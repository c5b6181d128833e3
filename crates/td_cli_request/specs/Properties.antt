-- Properties with their values: `NAME=VALUETYPE:VALUE`.
use Rattle.std.specs.Prelude.{ℕ, List, [], ◌∷◌, ◌++◌, Option, Some}
use Rattle.td_typecode.specs.declared.code.Value.{Value}
use Rattle.td_forms.specs.Types.{code_of, value_type_of}
use Rattle.td_forms.specs.Values.{value_of}
use Rattle.td_forms.specs.declared.value_type.ValueType.{ValueType}
use Rattle.td_ior.specs.Keys.{◌>>=◌}
use Rattle.td_value.specs.declared.structures.Property.{Property}
use Rattle.td_cli_request.specs.Cuts.{cut_first, cut_type}

abbrev pub value_in : ValueType → List ℕ → Option Value
value_in type text = value_of type text

abbrev pub property_with : List ℕ → ValueType → Value → Property
property_with name type v = record {
  name = name;
  value = record { code = code_of type; value = v };
}

abbrev pub typed_property : (name : List ℕ) → ValueType → (text : List ℕ) → Option Property
typed_property name type text = value_in type text >>= λ v. Some (property_with name type v)

abbrev pub property_in : List ℕ → Option Property
property_in word = do
  cut ← cut_first 61 word
  typed ← cut_type cut.1
  type ← value_type_of typed.0
  typed_property cut.0 type typed.1

abbrev pub with_property : List Property → List ℕ → Option (List Property)
with_property ps word = property_in word >>= λ p. Some (ps ++ p ∷ [])

-- these, and those that the words spell
abbrev pub properties_behind : List Property → List (List ℕ) → Option (List Property)
properties_behind ps [] = Some ps
properties_behind ps (word ∷ words) = with_property ps word >>= λ more. properties_behind more words
