-- What the format of TypeCodes without indirections says, the one with indirections says too, up to the first
-- indirection: so it extends the other.
use Rattle.std.specs.Prelude.{◌≡◌, ℕ, true, zero, suc, ◌+◌, List, [], ◌∷◌, ◌++◌, length, Option, Ok, Err}
use Rattle.td_cdr.specs.Place.{At}
use Rattle.td_cdr.specs.Format.{Read}
use Rattle.td_cdr.specs.declared.value_fault.ValueFault.{ValueFault}
use Rattle.td_cdr.specs.declared.value_fault.ValueFault.TheVariants as fault
use Rattle.td_typecode.specs.declared.code.TypeCode.{TypeCode, out-TypeCode}
use Rattle.td_typecode.specs.declared.code.TypeCode.TheOpen as c
use Rattle.td_typecode.specs.declared.code.Arm.{Arm}
use Rattle.td_typecode.specs.declared.code.Member.{Member}
use Rattle.td_typecode.specs.declared.kinds.CodeKind.{CodeKind}
use Rattle.td_typecode.specs.declared.mode.Mode.{Mode}
use Rattle.td_typecode.specs.Labels.{Layer}
use Rattle.td_typecode.specs.Codes.{codes}
use Rattle.td_indirection.specs.States.{slot, with_slots}
use Rattle.td_typecode.specs.Known.{MemberNode, ArmNode, Numbers, KnownState, KnownSlot, node_with_layer}
use Rattle.td_typecode.specs.GraphCodes.{edges}

abbrev pub PlainReading : Type 0 → Type 0
PlainReading X = At → Read ValueFault X

abbrev pub StatefulReading : Type 0 → Type 0
StatefulReading X = KnownState → At → Read ValueFault (X × KnownState)

abbrev pub IsIndirection : ValueFault → Type 0
IsIndirection (fault.Indirection p) = Unit {0}
IsIndirection e = ⊥

-- a level or a node too many
abbrev pub IsDepth : ValueFault → Type 0
IsDepth (fault.Depth p) = Unit {0}
IsDepth e = ⊥

pub data FaultsAgree (e d : ValueFault) : Type 0 where
  indirection : IsIndirection e → FaultsAgree e d
  depth : IsDepth d → FaultsAgree e d
  same : e ≡ d → FaultsAgree e d

-- what the one answers, and then the other: what is read agrees by R
abbrev pub ReadsLike : {X Z : Type 0} → (X → Z → KnownState → Type 0) → Read ValueFault X
    → Read ValueFault (Z × KnownState) → Type 0
ReadsLike R (Ok x) (Ok v) = R x.0 v.0.0 v.0.1 × (x.1 ≡ v.1)
ReadsLike R (Ok x) (Err e) = IsDepth e
ReadsLike R (Err e) (Ok v) = IsIndirection e × (v.0.1.linked ≡ true)
ReadsLike R (Err e) (Err d) = FaultsAgree e d

abbrev pub ReadsAlike : {X Z : Type 0} → (X → Z → KnownState → Type 0) → KnownState → PlainReading X
    → StatefulReading Z → Type 0
ReadsAlike R s p t = (a : At) → ReadsLike R (p a) (t s a)

-- ---- which nodes stand for a TypeCode

-- items and where they lead, from a number on
module _ {M Z : Type 0} (code_of : M → TypeCode) (item_of : M → ℕ → Z)
    (L : TypeCode → ℕ → List KnownSlot → Type 0) where
  abbrev pub AllLaid : ℕ → List M → List Z → List KnownSlot → Type 0
  AllLaid n [] [] slots = slots ≡ []
  AllLaid n (m ∷ ms) (z ∷ zs) slots =
      (first rest : List KnownSlot) × (slots ≡ first ++ rest) × (z ≡ item_of m n)
      × L (code_of m) n first × AllLaid (n + length first) ms zs rest
  AllLaid n ms zs slots = ⊥

abbrev pub member_item : Member → ℕ → MemberNode
member_item m n = (m.name, n)

abbrev pub arm_item : Arm → ℕ → ArmNode
arm_item a n = (a.label, (a.name, n))

module _ (L : TypeCode → ℕ → List KnownSlot → Type 0) where
  abbrev pub MembersLaid : ℕ → List Member → List MemberNode → List KnownSlot → Type 0
  MembersLaid = AllLaid (λ m. m.code) member_item L

  abbrev pub ArmsLaid : ℕ → List Arm → List ArmNode → List KnownSlot → Type 0
  ArmsLaid = AllLaid (λ a. a.code) arm_item L

  -- the node of a layer, and those that follow it from a number on
  abbrev pub NodeOf : Layer → ℕ → Numbers → List KnownSlot → Type 0
  NodeOf c.Null n v more = (v ≡ c.Null) × (more ≡ [])
  NodeOf c.Void n v more = (v ≡ c.Void) × (more ≡ [])
  NodeOf c.TypeCode::Short n v more = (v ≡ c.TypeCode::Short) × (more ≡ [])
  NodeOf c.TypeCode::Long n v more = (v ≡ c.TypeCode::Long) × (more ≡ [])
  NodeOf c.TypeCode::UShort n v more = (v ≡ c.TypeCode::UShort) × (more ≡ [])
  NodeOf c.TypeCode::ULong n v more = (v ≡ c.TypeCode::ULong) × (more ≡ [])
  NodeOf c.TypeCode::Boolean n v more = (v ≡ c.TypeCode::Boolean) × (more ≡ [])
  NodeOf c.TypeCode::Char n v more = (v ≡ c.TypeCode::Char) × (more ≡ [])
  NodeOf c.TypeCode::Octet n v more = (v ≡ c.TypeCode::Octet) × (more ≡ [])
  NodeOf c.AnyCode n v more = (v ≡ c.AnyCode) × (more ≡ [])
  NodeOf c.TypeCode::Code n v more = (v ≡ c.TypeCode::Code) × (more ≡ [])
  NodeOf c.TypeCode::LongLong n v more = (v ≡ c.TypeCode::LongLong) × (more ≡ [])
  NodeOf c.TypeCode::ULongLong n v more = (v ≡ c.TypeCode::ULongLong) × (more ≡ [])
  NodeOf (c.TypeCode::Str b) n v more = (v ≡ c.TypeCode::Str b) × (more ≡ [])
  NodeOf (c.TypeCode::ObjRef id name) n v more = (v ≡ c.TypeCode::ObjRef id name) × (more ≡ [])
  NodeOf (c.TypeCode::Enum id name names) n v more = (v ≡ c.TypeCode::Enum id name names)
      × (more ≡ [])
  NodeOf (c.Sequence t b) n v more = (v ≡ c.Sequence n b) × L t n more
  NodeOf (c.Array t b) n v more = (v ≡ c.Array n b) × L t n more
  NodeOf (c.Alias id name t) n v more = (v ≡ c.Alias id name n) × L t n more
  NodeOf (c.TypeCode::Struct id name ms) n v more =
      (zs : List MemberNode) × (v ≡ c.TypeCode::Struct id name zs) × MembersLaid n ms zs more
  NodeOf (c.Except id name ms) n v more = (zs : List MemberNode) × (v ≡ c.Except id name zs)
      × MembersLaid n ms zs more
  NodeOf (c.TypeCode::Union id name t d arms) n v more =
      (zs : List ArmNode) × (first rest : List KnownSlot) × (more ≡ first ++ rest)
      × (v ≡ c.TypeCode::Union id name n d zs) × L t n first
      × ArmsLaid (n + length first) arms zs rest
  NodeOf (c.Linked graph) n v more = ⊥

-- the nodes of a TypeCode in the order of their kinds, of which the first has this number
unfoldable pub Laid : ℕ → TypeCode → ℕ → List KnownSlot → Type 0
Laid zero t n slots = ⊥
Laid (suc levels) t n slots =
    (p : ℕ) × (k : CodeKind) × (v : Numbers) × (more : List KnownSlot)
    × (slots ≡ slot p (node_with_layer k v) ∷ more) × NodeOf (Laid levels) (out-TypeCode t)
    (n + 1) v more

-- the state has grown by a TypeCode's nodes, of which the first was answered
abbrev pub GrowsBy : ℕ → KnownState → TypeCode → ℕ → KnownState → Type 0
GrowsBy levels s t j new =
    (more : List KnownSlot) × (new ≡ with_slots s more) × (j ≡ length s.table)
    × Laid levels t (length s.table) more

-- ---- the law

abbrev pub CodesAreExtended : Type 0
CodesAreExtended =
    (levels : ℕ) (mode : Mode) (chain : Option ℕ) (s : KnownState)
    → ReadsAlike (GrowsBy levels s) s (codes levels mode).format.reads
    (edges levels mode chain).format.reads
