-- What stands in the encapsulation behind a kind.
use Rattle.std.specs.Prelude.{ℕ}
use Rattle.td_cdr.specs.Sound.{Sound, failure}
use Rattle.td_cdr.specs.declared.value_fault.ValueFault.{ValueFault}
use Rattle.td_typecode.specs.declared.code.TypeCode.{TypeCode}
use Rattle.td_typecode.specs.declared.kinds.CodeKind.{CodeKind}
use Rattle.td_typecode.specs.declared.kinds.CodeKind.TheVariants as kind
use Rattle.td_typecode.specs.declared.mode.Mode.{Mode}
use Rattle.td_typecode.specs.declared.mode.Mode.TheVariants.{Inner}
use Rattle.td_typecode.specs.Kinds.{under}
use Rattle.td_typecode.specs.Labels.{no_value}
use Rattle.td_typecode.specs.Codes.{object_code, struct_code, except_code, enum_code}
use Rattle.td_typecode.specs.Codes.{sequence_code, array_code, alias_code}
use Rattle.td_typecode.specs.Codes.{union_code}

-- nothing where the kind has none
module _ (levels : ℕ) (inner : Mode → Sound ValueFault TypeCode) (mode : Mode) where
  abbrev pub enclosed_code : CodeKind → Sound ValueFault TypeCode
  enclosed_code kind.ObjRef = object_code
  enclosed_code kind.Struct = struct_code (inner Inner)
  enclosed_code kind.Union = union_code levels inner
  enclosed_code kind.Enum = enum_code
  enclosed_code kind.Sequence = sequence_code (inner Inner)
  enclosed_code kind.Array = array_code (inner Inner)
  enclosed_code kind.Alias = alias_code (inner (under mode))
  enclosed_code kind.Except = except_code (inner Inner)
  enclosed_code k = failure no_value
