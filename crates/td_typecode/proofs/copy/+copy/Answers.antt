use Rattle.std.proofs.Common.{ℕ, List, Some, None, sym, ap, ◌∙◌}
use Rattle.std.proofs.lemmas.List.{take_all}
use Rattle.td_typecode.specs.declared.code.TypeCode.{TypeCode}
use Rattle.td_typecode.specs.declared.code.TypeCode.TheVariants as code
use Rattle.td_typecode.specs.declared.code.Value.{Value}
use Rattle.td_typecode.specs.declared.code.Value.TheVariants as variant
use Rattle.td_typecode.proofs.CopiedParts.{took-more, any-same, arm-same, member-same}
use Rattle.td_typecode.proofs.copy.+copy.Goals as goal

pub copy_members-loop-member-preserved : goal.copy_members-loop-member-preserved
copy_members-loop-member-preserved t c =
    took-more c.args.members.now c.loop-member.member-index c.member-item.result _ c.loop-member.twin _
    c.loop-member-test.true c.member-item.is
    c.loop-member.invariant c.in_ok-copy.ensures c.in_ok-push.ensures.ok

pub copy_members-returns : goal.copy_members-returns
copy_members-returns t c =
    let all = c.loop-member.invariant ∙ take_all c.loop-member.member-index c.args.members.now c.loop-member-test.false in
    rw (← all) c.new.ensures

pub copy_arms-loop-arm-preserved : goal.copy_arms-loop-arm-preserved
copy_arms-loop-arm-preserved t c =
    took-more c.args.arms.now c.loop-arm.arm-index c.arm-item.result _ c.loop-arm.twin _ c.loop-arm-test.true
    c.arm-item.is
    c.loop-arm.invariant c.in_ok-copy.ensures c.in_ok-push.ensures.ok

pub copy_arms-returns : goal.copy_arms-returns
copy_arms-returns t c =
    let all = c.loop-arm.invariant ∙ take_all c.loop-arm.arm-index c.args.arms.now c.loop-arm-test.false in
    rw (← all) c.new.ensures

pub copy_values-loop-value-preserved : goal.copy_values-loop-value-preserved
copy_values-loop-value-preserved t c =
    took-more c.args.values.now c.loop-value.value-index c.value-item.result _ c.loop-value.twin _
    c.loop-value-test.true c.value-item.is
    c.loop-value.invariant c.in_ok-copy.ensures c.in_ok-push.ensures.ok

pub copy_values-returns : goal.copy_values-returns
copy_values-returns t c =
    c.loop-value.invariant ∙ take_all c.loop-value.value-index c.args.values.now c.loop-value-test.false

pub copy_boxed-returns : goal.copy_boxed-returns
copy_boxed-returns t c = rw (← c.in_ok-twin.ensures) c.new.ensures

pub copy_boxed_value-returns : goal.copy_boxed_value-returns
copy_boxed_value-returns t c = rw (← c.in_ok-twin.ensures) c.new.ensures

pub copy_any-returns : goal.copy_any-returns
copy_any-returns t c = ap variant.AnyValue (c.in_ok-new.ensures ∙ c.in_ok-any.ensures)

pub copy_struct-returns : goal.copy_struct-returns
copy_struct-returns t c =
    ap (λ (p : List ℕ × List ℕ). code.Struct p.0 p.1 c.in_ok-members.members) c.in_ok-id.ensures
    ∙ ap (code.Struct c.args.id.now c.args.name.now) c.in_ok-members.ensures

pub copy_except-returns : goal.copy_except-returns
copy_except-returns t c =
    ap (λ (p : List ℕ × List ℕ). code.Except p.0 p.1 c.in_ok-members.members) c.in_ok-id.ensures
    ∙ ap (code.Except c.args.id.now c.args.name.now) c.in_ok-members.ensures

pub copy_alias-returns : goal.copy_alias-returns
copy_alias-returns t c =
    ap (λ (p : List ℕ × List ℕ). code.Alias p.0 p.1 c.in_ok-item.item) c.in_ok-id.ensures
    ∙ ap (code.Alias c.args.id.now c.args.name.now) c.in_ok-item.ensures

pub AnyTwin::copy-returns-in-Ok : goal.AnyTwin::copy-returns-in-Ok
AnyTwin::copy-returns-in-Ok t c =
    any-same c.args.self.now c.in_ok-code.code c.in-Ok.value c.in_ok-code.ensures c.in-Ok.ensures

pub ArmTwin::copy-returns-in-Ok : goal.ArmTwin::copy-returns-in-Ok
ArmTwin::copy-returns-in-Ok t c =
    arm-same c.args.self.now c.in_ok-label.label c.in_ok-name.name c.in-Ok.code c.in_ok-label.ensures
    c.in_ok-name.ensures c.in-Ok.ensures

pub MemberTwin::copy-returns : goal.MemberTwin::copy-returns
MemberTwin::copy-returns t c =
    member-same c.args.self.now c.in_ok-name.name c.in_ok-code.code c.in_ok-name.ensures c.in_ok-code.ensures

pub TypeCodeTwin::copy-returns-in-Null : goal.TypeCodeTwin::copy-returns-in-Null
TypeCodeTwin::copy-returns-in-Null t c = sym c.in-Null.is

pub TypeCodeTwin::copy-returns-in-Void : goal.TypeCodeTwin::copy-returns-in-Void
TypeCodeTwin::copy-returns-in-Void t c = sym c.in-Void.is

pub TypeCodeTwin::copy-returns-in-Short : goal.TypeCodeTwin::copy-returns-in-Short
TypeCodeTwin::copy-returns-in-Short t c = sym c.in-Short.is

pub TypeCodeTwin::copy-returns-in-Long : goal.TypeCodeTwin::copy-returns-in-Long
TypeCodeTwin::copy-returns-in-Long t c = sym c.in-Long.is

pub TypeCodeTwin::copy-returns-in-UShort : goal.TypeCodeTwin::copy-returns-in-UShort
TypeCodeTwin::copy-returns-in-UShort t c = sym c.in-UShort.is

pub TypeCodeTwin::copy-returns-in-ULong : goal.TypeCodeTwin::copy-returns-in-ULong
TypeCodeTwin::copy-returns-in-ULong t c = sym c.in-ULong.is

pub TypeCodeTwin::copy-returns-in-Boolean : goal.TypeCodeTwin::copy-returns-in-Boolean
TypeCodeTwin::copy-returns-in-Boolean t c = sym c.in-Boolean.is

pub TypeCodeTwin::copy-returns-in-Char : goal.TypeCodeTwin::copy-returns-in-Char
TypeCodeTwin::copy-returns-in-Char t c = sym c.in-Char.is

pub TypeCodeTwin::copy-returns-in-Octet : goal.TypeCodeTwin::copy-returns-in-Octet
TypeCodeTwin::copy-returns-in-Octet t c = sym c.in-Octet.is

pub TypeCodeTwin::copy-returns-in-AnyCode : goal.TypeCodeTwin::copy-returns-in-AnyCode
TypeCodeTwin::copy-returns-in-AnyCode t c = sym c.in-AnyCode.is

pub TypeCodeTwin::copy-returns-in-Code : goal.TypeCodeTwin::copy-returns-in-Code
TypeCodeTwin::copy-returns-in-Code t c = sym c.in-Code.is

pub TypeCodeTwin::copy-returns-in-LongLong : goal.TypeCodeTwin::copy-returns-in-LongLong
TypeCodeTwin::copy-returns-in-LongLong t c = sym c.in-LongLong.is

pub TypeCodeTwin::copy-returns-in-ULongLong : goal.TypeCodeTwin::copy-returns-in-ULongLong
TypeCodeTwin::copy-returns-in-ULongLong t c = sym c.in-ULongLong.is

pub TypeCodeTwin::copy-returns-in-Str : goal.TypeCodeTwin::copy-returns-in-Str
TypeCodeTwin::copy-returns-in-Str t c = sym c.in-Str.is

pub TypeCodeTwin::copy-returns-in-ObjRef : goal.TypeCodeTwin::copy-returns-in-ObjRef
TypeCodeTwin::copy-returns-in-ObjRef t c = rw c.in-ObjRef.is c.copy_object.ensures

pub TypeCodeTwin::copy-returns-in-Enum : goal.TypeCodeTwin::copy-returns-in-Enum
TypeCodeTwin::copy-returns-in-Enum t c = rw c.in-Enum.is c.copy_enum.ensures

pub TypeCodeTwin::copy-returns-in-Linked : goal.TypeCodeTwin::copy-returns-in-Linked
TypeCodeTwin::copy-returns-in-Linked t c = rw c.in-Linked.is c.copy_graph.ensures

pub TypeCodeTwin::copy-returns-in-Struct : goal.TypeCodeTwin::copy-returns-in-Struct
TypeCodeTwin::copy-returns-in-Struct t c = rw c.in-Struct.is (rw c.as_slice.ensures at c.copy_struct.ensures)

pub TypeCodeTwin::copy-returns-in-Except : goal.TypeCodeTwin::copy-returns-in-Except
TypeCodeTwin::copy-returns-in-Except t c = rw c.in-Except.is (rw c.as_slice-in-Except.ensures at c.copy_except.ensures)

pub TypeCodeTwin::copy-returns-in-Alias : goal.TypeCodeTwin::copy-returns-in-Alias
TypeCodeTwin::copy-returns-in-Alias t c = rw c.in-Alias.is (rw c.get-in-Alias.ensures at c.copy_alias.ensures)

pub TypeCodeTwin::copy-returns-in_ok-copy_boxed-in-Sequence :
    goal.TypeCodeTwin::copy-returns-in_ok-copy_boxed-in-Sequence
TypeCodeTwin::copy-returns-in_ok-copy_boxed-in-Sequence t c =
    ap (λ (x : TypeCode). code.Sequence x c.in-Sequence.bound)
    (c.in_ok-copy_boxed-in-Sequence.ensures ∙ c.get-in-Sequence.ensures)
    ∙ sym c.in-Sequence.is

pub TypeCodeTwin::copy-returns-in_ok-copy_boxed-in-Array : goal.TypeCodeTwin::copy-returns-in_ok-copy_boxed-in-Array
TypeCodeTwin::copy-returns-in_ok-copy_boxed-in-Array t c =
    ap (λ (x : TypeCode). code.Array x c.in-Array.len) (c.in_ok-copy_boxed-in-Array.ensures ∙ c.get-in-Array.ensures)
    ∙ sym c.in-Array.is

pub ValueTwin::copy-returns-in-Empty : goal.ValueTwin::copy-returns-in-Empty
ValueTwin::copy-returns-in-Empty t c = sym c.in-Empty.is

pub ValueTwin::copy-returns-in-UShort : goal.ValueTwin::copy-returns-in-UShort
ValueTwin::copy-returns-in-UShort t c = sym c.in-UShort.is

pub ValueTwin::copy-returns-in-ULong : goal.ValueTwin::copy-returns-in-ULong
ValueTwin::copy-returns-in-ULong t c = sym c.in-ULong.is

pub ValueTwin::copy-returns-in-Boolean : goal.ValueTwin::copy-returns-in-Boolean
ValueTwin::copy-returns-in-Boolean t c = sym c.in-Boolean.is

pub ValueTwin::copy-returns-in-Char : goal.ValueTwin::copy-returns-in-Char
ValueTwin::copy-returns-in-Char t c = sym c.in-Char.is

pub ValueTwin::copy-returns-in-Octet : goal.ValueTwin::copy-returns-in-Octet
ValueTwin::copy-returns-in-Octet t c = sym c.in-Octet.is

pub ValueTwin::copy-returns-in-ULongLong : goal.ValueTwin::copy-returns-in-ULongLong
ValueTwin::copy-returns-in-ULongLong t c = sym c.in-ULongLong.is

pub ValueTwin::copy-returns-in-Enum : goal.ValueTwin::copy-returns-in-Enum
ValueTwin::copy-returns-in-Enum t c = sym c.in-Enum.is

pub ValueTwin::copy-returns-in_ok-copy-in-Str : goal.ValueTwin::copy-returns-in_ok-copy-in-Str
ValueTwin::copy-returns-in_ok-copy-in-Str t c = ap variant.Str c.in_ok-copy-in-Str.ensures ∙ sym c.in-Str.is

pub ValueTwin::copy-returns-in_ok-copy-in-ObjRef : goal.ValueTwin::copy-returns-in_ok-copy-in-ObjRef
ValueTwin::copy-returns-in_ok-copy-in-ObjRef t c = ap variant.ObjRef c.in_ok-copy-in-ObjRef.ensures ∙ sym c.in-ObjRef.is

pub ValueTwin::copy-returns-in_ok-copy_boxed-in-Code : goal.ValueTwin::copy-returns-in_ok-copy_boxed-in-Code
ValueTwin::copy-returns-in_ok-copy_boxed-in-Code t c =
    ap variant.Code (c.in_ok-copy_boxed-in-Code.ensures ∙ c.get-in-Code.ensures) ∙ sym c.in-Code.is

pub ValueTwin::copy-returns-in-AnyValue : goal.ValueTwin::copy-returns-in-AnyValue
ValueTwin::copy-returns-in-AnyValue t c = rw c.in-AnyValue.is (rw c.get.ensures at c.copy_any.ensures)

pub ValueTwin::copy-returns-in_ok-copy_values-in-Struct : goal.ValueTwin::copy-returns-in_ok-copy_values-in-Struct
ValueTwin::copy-returns-in_ok-copy_values-in-Struct t c =
    ap variant.Struct (c.in_ok-copy_values-in-Struct.ensures ∙ c.as_slice.ensures) ∙ sym c.in-Struct.is

pub ValueTwin::copy-returns-in_ok-copy_values-in-Items : goal.ValueTwin::copy-returns-in_ok-copy_values-in-Items
ValueTwin::copy-returns-in_ok-copy_values-in-Items t c =
    ap variant.Items (c.in_ok-copy_values-in-Items.ensures ∙ c.as_slice-in-Items.ensures) ∙ sym c.in-Items.is

pub ValueTwin::copy-returns-in_ok-value-in-Some : goal.ValueTwin::copy-returns-in_ok-value-in-Some
ValueTwin::copy-returns-in_ok-value-in-Some t c =
    let u = c.in-Union in
    ap (λ (x : Value). variant.Union x (Some c.in_ok-value-in-Some.value))
    (c.in_ok-label-in-Union.ensures ∙ c.get-in-Union.ensures)
    ∙ ap (λ (x : Value). variant.Union u.label (Some x)) (c.in_ok-value-in-Some.ensures ∙ c.get-in-Some.ensures)
    ∙ ap (variant.Union u.label) (sym c.in-Some.is) ∙ sym u.is

pub ValueTwin::copy-returns-in-None : goal.ValueTwin::copy-returns-in-None
ValueTwin::copy-returns-in-None t c =
    let u = c.in-Union in
    ap (λ (x : Value). variant.Union x None) (c.in_ok-label-in-Union.ensures ∙ c.get-in-Union.ensures)
    ∙ ap (variant.Union u.label) (sym c.in-None.is) ∙ sym u.is
