-- The kinds whose parameters stand in an encapsulation, and the others.
use Rattle.std.proofs.Common.{◌≡◌, ℕ, Err, refl}
use Rattle.td_cdr.specs.Place.{At}
use Rattle.td_cdr.specs.Sound.{Sound, encapsulation}
use Rattle.td_cdr.specs.declared.value_fault.ValueFault.{ValueFault}
use Rattle.td_typecode.specs.declared.code.TypeCode.{TypeCode}
use Rattle.td_typecode.specs.declared.kinds.CodeKind.{CodeKind}
use Rattle.td_typecode.specs.declared.kinds.CodeKind.TheVariants as kind
use Rattle.td_typecode.specs.declared.mode.Mode.{Mode}
use Rattle.td_typecode.specs.Labels.{no_value}
use Rattle.td_typecode.specs.Codes.{parameters}
use Rattle.td_typecode.specs.Enclosed.{enclosed_code}

module _ (levels : ℕ) (inner : Mode → Sound ValueFault TypeCode) (mode : Mode) where
  pub enclosed-reads : (k : CodeKind)
      → (k ≡ kind.Null → ⊥) → (k ≡ kind.Void → ⊥) → (k ≡ kind.Short → ⊥)
      → (k ≡ kind.Long → ⊥) → (k ≡ kind.UShort → ⊥) → (k ≡ kind.ULong → ⊥)
      → (k ≡ kind.Boolean → ⊥) → (k ≡ kind.Char → ⊥) → (k ≡ kind.Octet → ⊥)
      → (k ≡ kind.AnyCode → ⊥) → (k ≡ kind.Code → ⊥) → (k ≡ kind.LongLong → ⊥)
      → (k ≡ kind.ULongLong → ⊥) → (k ≡ kind.Str → ⊥)
      → (a : At)
      → (parameters levels inner mode k).format.reads a ≡ (encapsulation (enclosed_code levels inner mode k)).format.reads a
  enclosed-reads kind.Null n0 n1 n2 n3 n4 n5 n6 n7 n8 n9 n10 n11 n12 n13 a = absurd (n0 refl)
  enclosed-reads kind.Void n0 n1 n2 n3 n4 n5 n6 n7 n8 n9 n10 n11 n12 n13 a = absurd (n1 refl)
  enclosed-reads kind.Short n0 n1 n2 n3 n4 n5 n6 n7 n8 n9 n10 n11 n12 n13 a = absurd (n2 refl)
  enclosed-reads kind.Long n0 n1 n2 n3 n4 n5 n6 n7 n8 n9 n10 n11 n12 n13 a = absurd (n3 refl)
  enclosed-reads kind.UShort n0 n1 n2 n3 n4 n5 n6 n7 n8 n9 n10 n11 n12 n13 a = absurd (n4 refl)
  enclosed-reads kind.ULong n0 n1 n2 n3 n4 n5 n6 n7 n8 n9 n10 n11 n12 n13 a = absurd (n5 refl)
  enclosed-reads kind.Boolean n0 n1 n2 n3 n4 n5 n6 n7 n8 n9 n10 n11 n12 n13 a = absurd (n6 refl)
  enclosed-reads kind.Char n0 n1 n2 n3 n4 n5 n6 n7 n8 n9 n10 n11 n12 n13 a = absurd (n7 refl)
  enclosed-reads kind.Octet n0 n1 n2 n3 n4 n5 n6 n7 n8 n9 n10 n11 n12 n13 a = absurd (n8 refl)
  enclosed-reads kind.AnyCode n0 n1 n2 n3 n4 n5 n6 n7 n8 n9 n10 n11 n12 n13 a = absurd (n9 refl)
  enclosed-reads kind.Code n0 n1 n2 n3 n4 n5 n6 n7 n8 n9 n10 n11 n12 n13 a = absurd (n10 refl)
  enclosed-reads kind.ObjRef n0 n1 n2 n3 n4 n5 n6 n7 n8 n9 n10 n11 n12 n13 a = refl
  enclosed-reads kind.Struct n0 n1 n2 n3 n4 n5 n6 n7 n8 n9 n10 n11 n12 n13 a = refl
  enclosed-reads kind.Union n0 n1 n2 n3 n4 n5 n6 n7 n8 n9 n10 n11 n12 n13 a = refl
  enclosed-reads kind.Enum n0 n1 n2 n3 n4 n5 n6 n7 n8 n9 n10 n11 n12 n13 a = refl
  enclosed-reads kind.Str n0 n1 n2 n3 n4 n5 n6 n7 n8 n9 n10 n11 n12 n13 a = absurd (n13 refl)
  enclosed-reads kind.Sequence n0 n1 n2 n3 n4 n5 n6 n7 n8 n9 n10 n11 n12 n13 a = refl
  enclosed-reads kind.Array n0 n1 n2 n3 n4 n5 n6 n7 n8 n9 n10 n11 n12 n13 a = refl
  enclosed-reads kind.Alias n0 n1 n2 n3 n4 n5 n6 n7 n8 n9 n10 n11 n12 n13 a = refl
  enclosed-reads kind.Except n0 n1 n2 n3 n4 n5 n6 n7 n8 n9 n10 n11 n12 n13 a = refl
  enclosed-reads kind.LongLong n0 n1 n2 n3 n4 n5 n6 n7 n8 n9 n10 n11 n12 n13 a = absurd (n11 refl)
  enclosed-reads kind.ULongLong n0 n1 n2 n3 n4 n5 n6 n7 n8 n9 n10 n11 n12 n13 a = absurd (n12 refl)

  pub enclosed-none : (k : CodeKind)
      → (k ≡ kind.ObjRef → ⊥) → (k ≡ kind.Struct → ⊥) → (k ≡ kind.Union → ⊥)
      → (k ≡ kind.Enum → ⊥) → (k ≡ kind.Sequence → ⊥) → (k ≡ kind.Array → ⊥)
      → (k ≡ kind.Alias → ⊥) → (k ≡ kind.Except → ⊥)
      → (a : At) → (enclosed_code levels inner mode k).format.reads a ≡ Err (no_value a)
  enclosed-none kind.Null n0 n1 n2 n3 n4 n5 n6 n7 a = refl
  enclosed-none kind.Void n0 n1 n2 n3 n4 n5 n6 n7 a = refl
  enclosed-none kind.Short n0 n1 n2 n3 n4 n5 n6 n7 a = refl
  enclosed-none kind.Long n0 n1 n2 n3 n4 n5 n6 n7 a = refl
  enclosed-none kind.UShort n0 n1 n2 n3 n4 n5 n6 n7 a = refl
  enclosed-none kind.ULong n0 n1 n2 n3 n4 n5 n6 n7 a = refl
  enclosed-none kind.Boolean n0 n1 n2 n3 n4 n5 n6 n7 a = refl
  enclosed-none kind.Char n0 n1 n2 n3 n4 n5 n6 n7 a = refl
  enclosed-none kind.Octet n0 n1 n2 n3 n4 n5 n6 n7 a = refl
  enclosed-none kind.AnyCode n0 n1 n2 n3 n4 n5 n6 n7 a = refl
  enclosed-none kind.Code n0 n1 n2 n3 n4 n5 n6 n7 a = refl
  enclosed-none kind.ObjRef n0 n1 n2 n3 n4 n5 n6 n7 a = absurd (n0 refl)
  enclosed-none kind.Struct n0 n1 n2 n3 n4 n5 n6 n7 a = absurd (n1 refl)
  enclosed-none kind.Union n0 n1 n2 n3 n4 n5 n6 n7 a = absurd (n2 refl)
  enclosed-none kind.Enum n0 n1 n2 n3 n4 n5 n6 n7 a = absurd (n3 refl)
  enclosed-none kind.Str n0 n1 n2 n3 n4 n5 n6 n7 a = refl
  enclosed-none kind.Sequence n0 n1 n2 n3 n4 n5 n6 n7 a = absurd (n4 refl)
  enclosed-none kind.Array n0 n1 n2 n3 n4 n5 n6 n7 a = absurd (n5 refl)
  enclosed-none kind.Alias n0 n1 n2 n3 n4 n5 n6 n7 a = absurd (n6 refl)
  enclosed-none kind.Except n0 n1 n2 n3 n4 n5 n6 n7 a = absurd (n7 refl)
  enclosed-none kind.LongLong n0 n1 n2 n3 n4 n5 n6 n7 a = refl
  enclosed-none kind.ULongLong n0 n1 n2 n3 n4 n5 n6 n7 a = refl
