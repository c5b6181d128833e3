-- The lines of offers: `offer` and the reference, and a line for each property, with its type and its value.
use Rattle.std.specs.Prelude.{ℕ, List, [], ◌∷◌, ◌++◌, codes, Option, Some, None}
use Rattle.td_typecode.specs.declared.code.Any.{Any}
use Rattle.td_typecode.specs.declared.code.Value.{Value}
use Rattle.td_typecode.specs.declared.reference.Ior.{Ior}
use Rattle.td_forms.specs.declared.value_type.ValueType.{ValueType}
use Rattle.td_ior.specs.Texts.{printed_ior}
use Rattle.td_value.specs.declared.structures.Offer.{Offer}
use Rattle.td_value.specs.declared.structures.Property.{Property}
use Rattle.td_cli_printing.specs.Types.{type_of, type_word}
use Rattle.td_cli_printing.specs.Values.{value_text}

-- ---- properties

abbrev pub typed_text : ValueType → Value → List ℕ
typed_text type v = codes " " ++ (type_word type ++ (codes " " ++ value_text v))

-- a value behind the word for its type, or `other` where there is none; a space before it
abbrev pub typed_or_other : Option ValueType → Value → List ℕ
typed_or_other (Some type) v = typed_text type v
typed_or_other None v = codes " other"

abbrev pub any_text : Any → List ℕ
any_text any = typed_or_other (type_of any.code) any.value

abbrev pub property_line : Property → List ℕ
property_line p = codes "  " ++ (p.name ++ (any_text p.value ++ codes "\n"))

abbrev pub property_lines : List Property → List ℕ
property_lines [] = []
property_lines (p ∷ ps) = property_line p ++ property_lines ps

-- ---- offers

abbrev pub described_lines : Ior → List Property → List ℕ
described_lines reference properties =
    codes "offer " ++ (printed_ior reference ++ (codes "\n" ++ property_lines properties))

abbrev pub offer_lines : Offer → List ℕ
offer_lines o = described_lines o.reference o.properties

abbrev pub offers_lines : List Offer → List ℕ
offers_lines [] = []
offers_lines (o ∷ os) = offer_lines o ++ offers_lines os
