-- The shapes of some TypeCodes.
use Rattle.std.proofs.Common.{◌≡◌, ℕ, List, [], ◌∷◌, map, refl, sym, ap, ◌∙◌}
use Rattle.td_typecode.specs.Same.{Shape, Component, kind_shape, object_shape, fields_shape, entry_without_label}
use Rattle.td_typecode.specs.Same.{member_entry}
use Rattle.td_typecode.specs.Same.{shape, shape_layer, any_layer, arm_layer, member_layer}
use Rattle.td_typecode.specs.Labels.{label_of_layer}
use Rattle.td_typecode.specs.declared.label.Label.{Label}
use Rattle.td_typecode.specs.declared.code.Member.{Member, fold-roll-Member}
use Rattle.td_typecode.specs.declared.code.TypeCode.{fold-roll-TypeCode}
use Rattle.td_typecode.specs.declared.code.TypeCode.TheOpen as c
use Rattle.td_typecode.specs.declared.code.TypeCode.TheVariants as code
use Rattle.td_typecode.specs.declared.kinds.CodeKind.TheVariants as kind
use Rattle.td_value.specs.Dynamic.{dynamic_id}
use Rattle.td_store.specs.Examples.{dynamic_code, member}

pub shape-ulong : shape code.ULong ≡ kind_shape kind.ULong
shape-ulong = ap shape (sym code.rolls-ULong) ∙ fold-roll-TypeCode Shape Label Label Component Component shape_layer
    label_of_layer any_layer arm_layer member_layer c.TypeCode::ULong

pub shape-code : shape code.Code ≡ kind_shape kind.Code
shape-code = ap shape (sym code.rolls-Code) ∙ fold-roll-TypeCode Shape Label Label Component Component shape_layer
    label_of_layer any_layer arm_layer member_layer c.TypeCode::Code

pub shape-any : shape code.AnyCode ≡ kind_shape kind.AnyCode
shape-any = ap shape (sym code.rolls-AnyCode) ∙ fold-roll-TypeCode Shape Label Label Component Component shape_layer
    label_of_layer any_layer arm_layer member_layer c.AnyCode

pub shape-object : (id name : List ℕ) → shape (code.ObjRef id name) ≡ object_shape id
shape-object id name =
    ap shape (sym (code.rolls-ObjRef id name)) ∙ fold-roll-TypeCode Shape Label Label Component Component shape_layer
    label_of_layer any_layer arm_layer member_layer (c.TypeCode::ObjRef id name)

pub shape-struct : (id name : List ℕ) (members : List Member)
    → shape (code.Struct id name members) ≡ fields_shape kind.Struct id (map member_entry members)
shape-struct id name members =
    ap shape (sym (code.rolls-Struct id name members)) ∙ fold-roll-TypeCode Shape Label Label Component Component shape_layer
    label_of_layer any_layer arm_layer member_layer (c.TypeCode::Struct id name members)

pub entry-is : (m : Member) → member_entry m ≡ entry_without_label (shape m.code)
entry-is m =
    fold-roll-Member Shape Label Label Component Component shape_layer label_of_layer any_layer arm_layer member_layer
    (record { name = m.name; code = m.code })

-- a structure with an object reference, a TypeCode and an any
pub dynamic-shape : shape dynamic_code ≡ fields_shape kind.Struct dynamic_id
    (entry_without_label (object_shape []) ∷ entry_without_label (kind_shape kind.Code)
    ∷ entry_without_label (kind_shape kind.AnyCode) ∷ [])
dynamic-shape =
    shape-struct dynamic_id [] (member (code.ObjRef [] []) ∷ member code.Code ∷ member code.AnyCode ∷ [])
    ∙ rw (
      entry-is (member (code.ObjRef [] [])),
      entry-is (member code.Code),
      entry-is (member code.AnyCode),
      shape-object [] [],
      shape-code,
      shape-any,
    ) refl
