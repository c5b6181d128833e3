-- The properties of an offer while a query is served (OMG's Trading Object Service, module CosTradingDynamic,
-- interface DynamicPropEval): a dynamic property has the value that its evaluation gave, or is absent.
use Rattle.std.specs.Prelude.{ℕ, nat_le, Bool, ◌&&◌, if◌then◌else◌, List, [], ◌∷◌, length, Option, None, Some, is_some}
use Rattle.std.specs.Prelude.{option_map, option_and_then}
use Rattle.std.specs.List.{find, filter_map}
use Rattle.std.specs.Str.{bytes_eq}
use Rattle.td_cdr.specs.declared.order.Order.TheVariants.{Big}
use Rattle.td_typecode.specs.Labels.{ValueLayer}
use Rattle.td_typecode.specs.Same.{same}
use Rattle.td_typecode.specs.Values.{any_in, any_value, code_in, reference_in}
use Rattle.td_typecode.specs.declared.code.Any.{Any}
use Rattle.td_typecode.specs.declared.code.TypeCode.{TypeCode}
use Rattle.td_typecode.specs.declared.code.TypeCode.TheOpen as c
use Rattle.td_typecode.specs.declared.code.Value.{Value, out-Value}
use Rattle.td_typecode.specs.declared.reference.Ior.{Ior}
use Rattle.td_eval.specs.Properties.{property}
use Rattle.td_ior.specs.Profiles.{iiop_of}
use Rattle.td_store.specs.Candidates.{is_dynamic}
use Rattle.td_value.specs.declared.structures.DynamicProp.{DynamicProp}
use Rattle.td_value.specs.declared.structures.Property.{Property}
use Rattle.td_walk.specs.declared.answer.StepAnswer.{StepAnswer}
use Rattle.td_walk.specs.declared.answer.StepAnswer.TheVariants as answer
use Rattle.td_walk.specs.declared.evaluation.Evaluation.{Evaluation}

-- ---- dynamic properties

abbrev pub members_in : ValueLayer → List Value
members_in (c.Value::Struct members) = members
members_in l = []

abbrev pub dynamic_from : Option Ior → Option TypeCode → Option Any → Option DynamicProp
dynamic_from (Some r) (Some t)
    (Some a) = Some (record { eval_if = r; returned_type = t; extra_info = a })
dynamic_from r t a = None

-- the evaluator, the type of the values that it returns, and what it is handed
abbrev pub dynamic_among : List Value → Option DynamicProp
dynamic_among (r ∷ t ∷ a ∷ []) =
    dynamic_from (reference_in (out-Value r)) (code_in (out-Value t)) (any_in (out-Value a))
dynamic_among members = None

-- the DynamicProp that an any holds
unfoldable pub dynamic_of : Any → Option DynamicProp
dynamic_of a = if is_dynamic a then dynamic_among (members_in (out-Value a.value)) else None

-- that of a property of this name
unfoldable pub dynamic_named : List Property → (name : List ℕ) → Option DynamicProp
dynamic_named properties name = option_and_then dynamic_of (property properties name)

-- ---- what an evaluation gives

-- 16 KiB
abbrev pub longest_value : ℕ
longest_value = 16384

-- of the returned type, and not too long from place 0 on
unfoldable pub may_stand : DynamicProp → Any → Bool
may_stand d a = same a.code d.returned_type
    && nat_le (length (any_value.format.writes a Big 0)) longest_value

-- the value that an answer gives: one whose evaluator can be reached
unfoldable pub value_from : DynamicProp → StepAnswer → Option Any
value_from d (answer.Evaluated a) = if is_some (iiop_of d.eval_if)
    && may_stand d a then Some a else None
value_from d other = None

-- ---- resolved properties

-- what was evaluated under this name
abbrev pub evaluation_of : List Evaluation → (name : List ℕ) → Option Evaluation
evaluation_of made name = find (λ e. bytes_eq e.name name) made

abbrev pub is_evaluated : List Evaluation → (name : List ℕ) → Bool
is_evaluated made name = is_some (evaluation_of made name)

-- a dynamic property's value is what its evaluation gave
abbrev pub resolved_value : List Evaluation → Property → Option Any
resolved_value made p =
    if is_dynamic p.value then option_and_then (λ e. e.value)
    (evaluation_of made p.name) else Some p.value

abbrev pub resolved_property : List Evaluation → Property → Option Property
resolved_property made p = option_map (λ v. record { name = p.name; value = v })
    (resolved_value made p)

-- the properties after these evaluations; a dynamic one without a value is absent
unfoldable pub resolved : List Evaluation → List Property → List Property
resolved made properties = filter_map (resolved_property made) properties
