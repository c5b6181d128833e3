use Rattle.std.proofs.lemmas.Result.{err_from_is_err_and}
use Rattle.td_cdr.specs.Format.{array_format}
use Rattle.td_cdr.specs.ValueFaults.{is_memory}
use Rattle.td_cdr.proofs.SequenceReading.{goes_on, ends, is_done}
use Rattle.td_typecode.specs.declared.mode.Mode.TheVariants.{Inner}
use Rattle.td_typecode.specs.Labels.{labels}
use Rattle.td_typecode.specs.Codes.{codes, header, member, arm_of}
use Rattle.std.proofs.Common.{◌≡◌, ◌-◌, ◌∙◌, refl, sym, true≢false, arith}
use Rattle.std.specs.Int.{w32}
use Rattle.std.proofs.Math.Facts.{to_z-of_z}
use mir.Val.{to_z, of_z}
use Rattle.td_typecode.proofs.AtLayers.{union-fails, union-read, codes-reads, kind-fails, kind-read}
use Rattle.td_typecode.proofs.ReadParts.{begins, both-read, struct-read, except-read}
use Rattle.td_typecode.proofs.ReadParts.{sequence-read, array-read, alias-read}
use Rattle.td_typecode.proofs.ReadParts.{member-read, arm-read, arm-fails, nonempty-fails, nonempty-read, within}
use Rattle.td_typecode.proofs.OfEnclosed.{enclosed-reads, enclosed-none}
use Rattle.td_typecode.specs.Enclosed.{enclosed_code}
use Rattle.td_typecode.proofs.reading.+reading.Goals as goal

pub members_of-returns-in_err-member : goal.members_of-returns-in_err-member
members_of-returns-in_err-member t c =
    let p = err_from_is_err_and c.from_residual.result c.from_residual.ensures.1 in
    let g = (member (codes c.args.levels Inner)).format in
    rw (p.1, p.2) (ends is_memory g c.loop.members c.args.count c.loop.counter c.loop.r c.member_of.new.r _
    ((array_format g c.args.count).reads c.args.r.now) c.loop-test.true c.in_err-member.ensures c.loop.invariant)

pub members_of-loop-preserved : goal.members_of-loop-preserved
members_of-loop-preserved t c =
    let g = (member (codes c.args.levels Inner)).format in
    rw c.in_ok-push.ensures.ok
    (goes_on g c.loop.members c.args.count c.loop.counter c.loop.r _ _
    ((array_format g c.args.count).reads c.args.r.now) c.loop-test.true c.in_ok-member.ensures c.loop.invariant)

pub members_of-returns : goal.members_of-returns
members_of-returns t c =
    let g = (member (codes c.args.levels Inner)).format in
    rw c.in_ok-new.ensures (is_done g c.loop.members c.args.count c.loop.counter c.loop.r
    ((array_format g c.args.count).reads c.args.r.now) c.loop-test.false c.loop.invariant)

pub arms_of-returns-in_err-arm : goal.arms_of-returns-in_err-arm
arms_of-returns-in_err-arm t c =
    let p = err_from_is_err_and c.from_residual.result c.from_residual.ensures.1 in
    let g = (arm_of (labels c.args.levels c.args.switch.now) (codes c.args.levels Inner)).format in
    rw (p.1, p.2) (ends is_memory g c.loop.arms c.args.count c.loop.counter c.loop.r c.arm_at.new.r _
    ((array_format g c.args.count).reads c.args.r.now) c.loop-test.true c.in_err-arm.ensures c.loop.invariant)

pub arms_of-loop-preserved : goal.arms_of-loop-preserved
arms_of-loop-preserved t c =
    let g = (arm_of (labels c.args.levels c.args.switch.now) (codes c.args.levels Inner)).format in
    rw c.in_ok-push.ensures.ok
    (goes_on g c.loop.arms c.args.count c.loop.counter c.loop.r _ _
    ((array_format g c.args.count).reads c.args.r.now) c.loop-test.true c.in_ok-arm.ensures c.loop.invariant)

pub arms_of-returns : goal.arms_of-returns
arms_of-returns t c =
    let g = (arm_of (labels c.args.levels c.args.switch.now) (codes c.args.levels Inner)).format in
    rw c.in_ok-new.ensures (is_done g c.loop.arms c.args.count c.loop.counter c.loop.r
    ((array_format g c.args.count).reads c.args.r.now) c.loop-test.false c.loop.invariant)

pub code_at-returns-in_err-kind : goal.code_at-returns-in_err-kind
code_at-returns-in_err-kind t c =
    let p = err_from_is_err_and c.from_residual.result c.from_residual.ensures.1 in
    rw (p.1, p.2, codes-reads c.args.levels c.args.mode c.args.r.now c.if-levels-eq0.false)
    (kind-fails (c.args.levels - 1) (codes (c.args.levels - 1)) c.args.mode c.args.r.now c.kind_at.new.r _
    c.in_err-kind.ensures)

pub code_at-returns : goal.code_at-returns
code_at-returns t c =
    rw (
      codes-reads c.args.levels c.args.mode c.args.r.now c.if-levels-eq0.false,
      kind-read (c.args.levels - 1) (codes (c.args.levels - 1)) c.args.mode c.args.r.now c.kind_at.new.r
          c.in_ok-kind.kind c.in_ok-kind.ensures,
    )
    c.parameters_of.ensures

pub union_of-returns-in_err-choices : goal.union_of-returns-in_err-choices
union_of-returns-in_err-choices t c =
    let p = err_from_is_err_and c.from_residual-in_err-choices.result c.from_residual-in_err-choices.ensures.1 in
    rw (p.1, p.2) (union-fails c.args.levels (codes c.args.levels) c.args.r.now c.front_of.new.r c.choices_of.new.r
    (c.in_ok-header.header, c.in_ok-header.switch) _ c.in_ok-header.ensures
    (rw c.get.ensures at c.in_err-choices.ensures.read))

pub union_of-returns : goal.union_of-returns
union_of-returns t c =
    let whole : c.in_ok-choices.choices.0 ≡ to_z w32 (of_z w32 c.in_ok-choices.choices.0) =
    sym (to_z-of_z c.in_ok-choices.ensures.fits) in
    rw (← whole) (union-read c.args.levels (codes c.args.levels) c.args.r.now c.front_of.new.r c.choices_of.new.r
    (c.in_ok-header.header, c.in_ok-header.switch) c.in_ok-choices.choices c.in_ok-header.ensures
    (rw c.get.ensures at c.in_ok-choices.ensures.read))

pub parameters_of-returns-in-Null : goal.parameters_of-returns-in-Null
parameters_of-returns-in-Null t c = rw c.in-Null.is refl

pub parameters_of-returns-in-Void : goal.parameters_of-returns-in-Void
parameters_of-returns-in-Void t c = rw c.in-Void.is refl

pub parameters_of-returns-in-Short : goal.parameters_of-returns-in-Short
parameters_of-returns-in-Short t c = rw c.in-Short.is refl

pub parameters_of-returns-in-Long : goal.parameters_of-returns-in-Long
parameters_of-returns-in-Long t c = rw c.in-Long.is refl

pub parameters_of-returns-in-UShort : goal.parameters_of-returns-in-UShort
parameters_of-returns-in-UShort t c = rw c.in-UShort.is refl

pub parameters_of-returns-in-ULong : goal.parameters_of-returns-in-ULong
parameters_of-returns-in-ULong t c = rw c.in-ULong.is refl

pub parameters_of-returns-in-Boolean : goal.parameters_of-returns-in-Boolean
parameters_of-returns-in-Boolean t c = rw c.in-Boolean.is refl

pub parameters_of-returns-in-Char : goal.parameters_of-returns-in-Char
parameters_of-returns-in-Char t c = rw c.in-Char.is refl

pub parameters_of-returns-in-Octet : goal.parameters_of-returns-in-Octet
parameters_of-returns-in-Octet t c = rw c.in-Octet.is refl

pub parameters_of-returns-in-AnyCode : goal.parameters_of-returns-in-AnyCode
parameters_of-returns-in-AnyCode t c = rw c.in-AnyCode.is refl

pub parameters_of-returns-in-Code : goal.parameters_of-returns-in-Code
parameters_of-returns-in-Code t c = rw c.in-Code.is refl

pub parameters_of-returns-in-LongLong : goal.parameters_of-returns-in-LongLong
parameters_of-returns-in-LongLong t c = rw c.in-LongLong.is refl

pub parameters_of-returns-in-ULongLong : goal.parameters_of-returns-in-ULongLong
parameters_of-returns-in-ULongLong t c = rw c.in-ULongLong.is refl

pub front_of-returns : goal.front_of-returns
front_of-returns t c =
    both-read header (codes c.args.levels c.args.mode) c.args.r.now c.header_of.new.r c.boxed_at.new.r
    c.in_ok-header.header c.in_ok-code.code c.in_ok-header.ensures c.in_ok-code.ensures

pub boxed_at-returns : goal.boxed_at-returns
boxed_at-returns t c = rw c.in_ok-new.ensures c.in_ok-code.ensures

pub struct_of-returns : goal.struct_of-returns
struct_of-returns t c =
    struct-read (codes c.args.levels Inner) c.args.r.now c.header_of.new.r c.fields_of.new.r c.in_ok-header.header
    c.in_ok-members.members c.in_ok-header.ensures c.in_ok-members.ensures

pub except_of-returns : goal.except_of-returns
except_of-returns t c =
    except-read (codes c.args.levels Inner) c.args.r.now c.header_of.new.r c.members_at.new.r c.in_ok-header.header
    c.in_ok-members.members c.in_ok-header.ensures c.in_ok-members.ensures

pub sequence_of-returns : goal.sequence_of-returns
sequence_of-returns t c =
    sequence-read (codes c.args.levels Inner) c.args.r.now c.boxed_at.new.r c.u32.new.self c.in_ok-item.item
    c.in_ok-bound.bound c.in_ok-item.ensures c.in_ok-bound.ensures.gives

pub array_of-returns : goal.array_of-returns
array_of-returns t c =
    array-read (codes c.args.levels Inner) c.args.r.now c.boxed_at.new.r c.count_of.new.r c.in_ok-item.item
    c.in_ok-len.len c.in_ok-item.ensures c.in_ok-len.ensures

pub alias_of-returns : goal.alias_of-returns
alias_of-returns t c =
    alias-read (codes c.args.levels c.args.mode) c.args.r.now c.front_of.new.r c.in_ok-header.header
    c.in_ok-header.item c.in_ok-header.ensures

pub member_of-returns : goal.member_of-returns
member_of-returns t c =
    member-read (codes c.args.levels Inner) c.args.r.now c.read.new.r c.code_at.new.r c.in_ok-name.name
    c.in_ok-code.code c.in_ok-name.ensures c.in_ok-code.ensures

pub arm_at-returns-in-Ok : goal.arm_at-returns-in-Ok
arm_at-returns-in-Ok t c =
    rw c.labelled.ensures (arm-read (labels c.args.levels c.args.switch.now) (codes c.args.levels Inner) c.args.r.now
    c.label_at.new.r c.member_of.new.r c.in_ok-label.label c.in-Ok.member c.in_ok-label.ensures c.in-Ok.ensures)

pub fields_of-returns-then-is_empty : goal.fields_of-returns-then-is_empty
fields_of-returns-then-is_empty t c =
    rw c.aligned-place.ensures (nonempty-fails (member (codes c.args.levels Inner)) c.args.r.now c.members_at.new.r
    c.in_ok-members.members c.in_ok-members.ensures (c.is_empty.ensures.0 c.if-is_empty.true))

pub fields_of-returns : goal.fields_of-returns
fields_of-returns t c =
    nonempty-read (member (codes c.args.levels Inner)) c.args.r.now c.members_at.new.r c.in_ok-members.members
    c.in_ok-members.ensures (λ none. true≢false (sym (c.is_empty.ensures.1 none) ∙ c.if-is_empty.false))

pub members_of-loop-init : goal.members_of-loop-init
members_of-loop-init t c =
    begins (member (codes c.args.levels Inner)).format c.new-members.result c.args.count (c.args.count - 0)
    c.args.r.now c.new-members.ensures (omega arith)

pub arms_of-loop-init : goal.arms_of-loop-init
arms_of-loop-init t c =
    begins (arm_of (labels c.args.levels c.args.switch.now) (codes c.args.levels Inner)).format c.new-arms.result
    c.args.count (c.args.count - 0) c.args.r.now c.new-arms.ensures (omega arith)

pub enclosed_of-returns-in-ObjRef : goal.enclosed_of-returns-in-ObjRef
enclosed_of-returns-in-ObjRef t c = rw c.in-ObjRef.is c.object_of.ensures

pub enclosed_of-returns-in-Struct : goal.enclosed_of-returns-in-Struct
enclosed_of-returns-in-Struct t c = rw c.in-Struct.is c.struct_of.ensures

pub enclosed_of-returns-in-Union : goal.enclosed_of-returns-in-Union
enclosed_of-returns-in-Union t c = rw c.in-Union.is c.union_of.ensures

pub enclosed_of-returns-in-Enum : goal.enclosed_of-returns-in-Enum
enclosed_of-returns-in-Enum t c = rw c.in-Enum.is c.enum_of.ensures

pub enclosed_of-returns-in-Sequence : goal.enclosed_of-returns-in-Sequence
enclosed_of-returns-in-Sequence t c = rw c.in-Sequence.is c.sequence_of.ensures

pub enclosed_of-returns-in-Array : goal.enclosed_of-returns-in-Array
enclosed_of-returns-in-Array t c = rw c.in-Array.is c.array_of.ensures

pub enclosed_of-returns-in-Except : goal.enclosed_of-returns-in-Except
enclosed_of-returns-in-Except t c = rw c.in-Except.is c.except_of.ensures

pub enclosed_of-returns-in-Alias : goal.enclosed_of-returns-in-Alias
enclosed_of-returns-in-Alias t c = rw (c.in-Alias.is, ← c.under.ensures) c.alias_of.ensures

pub enclosed_of-returns-in_default : goal.enclosed_of-returns-in_default
enclosed_of-returns-in_default t c =
    let n = c.in_default in
    rw (
      enclosed-none c.args.levels (codes c.args.levels) c.args.mode c.args.kind n.not-ObjRef n.not-Struct n.not-Union
          n.not-Enum n.not-Sequence n.not-Array n.not-Alias n.not-Except c.args.r.now,
      c.aligned.ensures,
    )
    refl

pub parameters_of-returns-in_ok-encapsulation-in_default : goal.parameters_of-returns-in_ok-encapsulation-in_default
parameters_of-returns-in_ok-encapsulation-in_default t c =
    let n = c.in_default in
    let k = c.args.kind in
    rw
    (enclosed-reads c.args.levels (codes c.args.levels) c.args.mode k n.not-Null n.not-Void n.not-Short n.not-Long
    n.not-UShort n.not-ULong n.not-Boolean n.not-Char n.not-Octet n.not-AnyCode n.not-Code n.not-LongLong
    n.not-ULongLong n.not-Str c.args.r.now)
    (within (enclosed_code c.args.levels (codes c.args.levels) c.args.mode k) c.args.r.now
    c.in_ok-encapsulation-in_default.field-0 c.encapsulation.new.self c.enclosed_of.new.r c.enclosed_of.result
    c.in_ok-encapsulation-in_default.ensures c.enclosed_of.ensures)

pub parameters_of-returns-in_err-encapsulation-in_default : goal.parameters_of-returns-in_err-encapsulation-in_default
parameters_of-returns-in_err-encapsulation-in_default t c =
    let n = c.in_default in
    let r = c.from_residual-in_err-encapsulation-in_default in
    let p = err_from_is_err_and r.result r.ensures.1 in
    rw (
      p.1,
      p.2,
      enclosed-reads c.args.levels (codes c.args.levels) c.args.mode c.args.kind n.not-Null n.not-Void n.not-Short
          n.not-Long n.not-UShort n.not-ULong n.not-Boolean n.not-Char n.not-Octet n.not-AnyCode n.not-Code
          n.not-LongLong n.not-ULongLong n.not-Str c.args.r.now,
      c.in_err-encapsulation-in_default.ensures.0,
    )
    refl

pub arm_at-returns-in-Err : goal.arm_at-returns-in-Err
arm_at-returns-in-Err t c =
    arm-fails (labels c.args.levels c.args.switch.now) (codes c.args.levels Inner) c.args.r.now c.label_at.new.r
    c.member_of.new.r c.in_ok-label.label c.in-Err.fault c.in_ok-label.ensures c.in-Err.ensures

pub parameters_of-returns-in_ok-u32-in-Str : goal.parameters_of-returns-in_ok-u32-in-Str
parameters_of-returns-in_ok-u32-in-Str t c = rw (c.in-Str.is, c.in_ok-u32-in-Str.ensures.gives) refl
