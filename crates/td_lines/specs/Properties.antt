-- Properties of types and of offers.
use Rattle.std.specs.Prelude.{ℕ, List, [], ◌∷◌, codes, Result, Ok}
use Rattle.td_cdr.specs.Reading.{◌>>=◌}
use Rattle.td_typecode.specs.declared.code.Any.{Any}
use Rattle.td_typecode.specs.declared.code.Member.{Member}
use Rattle.td_typecode.specs.declared.code.TypeCode.{TypeCode}
use Rattle.td_typecode.specs.declared.code.TypeCode.TheVariants as code
use Rattle.td_typecode.specs.declared.code.Value.{Value}
use Rattle.td_typecode.specs.declared.code.Value.TheVariants as value
use Rattle.td_typecode.specs.declared.reference.Ior.{Ior}
use Rattle.td_forms.specs.Types.{code_of, value_type_of}
use Rattle.td_forms.specs.Values.{value_of}
use Rattle.td_forms.specs.Words.{mode_named}
use Rattle.td_forms.specs.declared.value_type.ValueType.{ValueType}
use Rattle.td_value.specs.Dynamic.{dynamic_id}
use Rattle.td_value.specs.declared.enumerations.PropertyMode.{PropertyMode}
use Rattle.td_value.specs.declared.structures.PropStruct.{PropStruct}
use Rattle.td_value.specs.declared.structures.Property.{Property}
use Rattle.td_lines.specs.Causes.{or_cause}
use Rattle.td_lines.specs.References.{parse_reference}
use Rattle.td_lines.specs.declared.cause.LineCause.{LineCause}
use Rattle.td_lines.specs.declared.cause.LineCause.TheVariants as cause

abbrev pub prop_with : PropertyMode → ValueType → List ℕ → PropStruct
prop_with mode value_type name = record {
  name = name;
  value_type = code_of value_type;
  mode = mode;
}

-- MODE VALUETYPE NAME
abbrev pub parse_prop : (mode value_type name : List ℕ) → Result PropStruct LineCause
parse_prop mode value_type name = do
  known ← or_cause cause.Name (mode_named mode)
  type ← or_cause cause.Name (value_type_of value_type)
  Ok (prop_with known type name)

abbrev pub parse_value : ValueType → List ℕ → Result Value LineCause
parse_value value_type text = or_cause cause.Value (value_of value_type text)

abbrev pub plain_any : ValueType → Value → Any
plain_any value_type v = record { code = code_of value_type; value = v }

abbrev pub property_named_as : List ℕ → Any → Property
property_named_as name any = record { name = name; value = any }

-- VALUETYPE NAME VALUE
abbrev pub parse_property : (value_type name text : List ℕ) → Result Property LineCause
parse_property value_type name text = do
  type ← or_cause cause.Name (value_type_of value_type)
  v ← parse_value type text
  Ok (property_named_as name (plain_any type v))

-- ---- dynamic properties

abbrev pub evaluator_code : TypeCode
evaluator_code =
    code.ObjRef (codes "IDL:omg.org/CosTradingDynamic/DynamicPropEval:1.0")
    (codes "DynamicPropEval")

abbrev pub member : List ℕ → TypeCode → Member
member name c = record { name = name; code = c }

-- the structure DynamicProp (OMG's Trading Object Service, module CosTradingDynamic)
abbrev pub dynamic_code : TypeCode
dynamic_code =
    code.Struct dynamic_id (codes "DynamicProp")
    (member (codes "eval_if") evaluator_code ∷ member (codes "returned_type") code.Code
    ∷ member (codes "extra_info") code.AnyCode ∷ [])

abbrev pub null_any : Any
null_any = record { code = code.Null; value = value.Empty }

-- an evaluator, the type that it returns, and a null extra_info
abbrev pub dynamic_any : Ior → TypeCode → Any
dynamic_any evaluator returned = record {
  code = dynamic_code;
  value = value.Struct (value.ObjRef evaluator ∷ value.Code returned ∷ value.AnyValue null_any
      ∷ []);
}

-- VALUETYPE NAME REF
abbrev pub parse_dynamic : (value_type name word : List ℕ) → Result Property LineCause
parse_dynamic value_type name word = do
  type ← or_cause cause.Name (value_type_of value_type)
  evaluator ← parse_reference word
  Ok (property_named_as name (dynamic_any evaluator (code_of type)))
