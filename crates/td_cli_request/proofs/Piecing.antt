-- A property from the pieces of its word.
use Rattle.std.proofs.Common.{◌≡◌, ℕ, List, Option, Some, Result, sym, subst}
use Rattle.td_forms.specs.Types.{value_type_of}
use Rattle.td_forms.specs.declared.value_type.ValueType.{ValueType}
use Rattle.td_ior.specs.Keys.{◌>>=◌}
use Rattle.td_value.specs.declared.structures.Property.{Property}
use Rattle.td_cli_request.specs.Cuts.{cut_first, cut_type}
use Rattle.td_cli_request.specs.Forms.{ParsesTo}
use Rattle.td_cli_request.specs.Properties.{property_in, typed_property}
use Rattle.td_cli_request.specs.declared.fault.AskFault.{AskFault}

abbrev with_type : (name text : List ℕ) → Option ValueType → Option Property
with_type name text found = found >>= λ type. typed_property name type text

abbrev with_text : (name : List ℕ) → Option (List ℕ × List ℕ) → Option Property
with_text name found = found >>= λ typed. with_type name typed.1 (value_type_of typed.0)

abbrev with_name : Option (List ℕ × List ℕ) → Option Property
with_name found = found >>= λ cut. with_text cut.0 (cut_type cut.1)

pub pieced : (word name typed type_word text : List ℕ) (type : ValueType) (r : Result Property AskFault)
    → cut_first 61 word ≡ Some (name, typed) → cut_type typed ≡ Some (type_word, text)
    → value_type_of type_word ≡ Some type → ParsesTo (typed_property name type text) r → ParsesTo (property_in word) r
pieced word name typed type_word text type r first second third g =
    subst (λ (o : Option (List ℕ × List ℕ)). ParsesTo (with_name o) r) (sym first)
    (subst (λ (o : Option (List ℕ × List ℕ)). ParsesTo (with_text name o) r) (sym second)
    (subst (λ (o : Option ValueType). ParsesTo (with_type name text o) r) (sym third) g))
