-- When an any holds a DynamicProp (OMG's Trading Object Service, module CosTradingDynamic): by its
-- TypeCode, without aliases at every level.
use Rattle.std.specs.Prelude.{ℕ, Bool, true, false, ◌&&◌, List, [], ◌∷◌, nat_eq, codes}
use Rattle.std.specs.Cmp.Lexicographic.{pointwise}
use Rattle.td_typecode.specs.declared.code.TypeCode.{TypeCode}
use Rattle.td_typecode.specs.declared.kinds.CodeKind.TheVariants as kind
use Rattle.td_typecode.specs.Kinds.{number_of}
use Rattle.td_typecode.specs.Same.{Shapes, empty, node, Shape, shape}

abbrev pub dynamic_id : List ℕ
dynamic_id = codes "IDL:omg.org/CosTradingDynamic/DynamicProp:1.0"

-- these are the kinds, in order, and there are no more
abbrev pub has_kinds : List ℕ → Shapes → Bool
has_kinds [] empty = true
has_kinds [] (node l k n i x xs) = false
has_kinds (kind ∷ kinds) empty = false
has_kinds (kind ∷ kinds) (node l k n i x xs) = nat_eq k kind && has_kinds kinds xs

-- an object reference, a TypeCode and an any
abbrev pub dynamic_kinds : List ℕ
dynamic_kinds = number_of kind.ObjRef ∷ number_of kind.Code ∷ number_of kind.AnyCode ∷ []

-- a structure of that id with an object reference, a TypeCode and an any
abbrev pub dynamic_shape : Shape → Bool
dynamic_shape s =
    nat_eq s.kind (number_of kind.Struct)
    && (pointwise nat_eq s.id dynamic_id && has_kinds dynamic_kinds s.inner)
