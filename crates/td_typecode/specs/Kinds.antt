-- The kinds of TypeCodes (CORBA's chapter on the General Inter-ORB Protocol, "TypeCode"), and where each
-- may stand.
use Rattle.std.specs.Prelude.{◌≡◌, ℕ, ◌==◌, nat_lt, Bool, true, false, if◌then◌else◌, List, [], ◌∷◌, Option, Some, None}
use Rattle.std.specs.Prelude.{refl}
use Rattle.std.proofs.Common.{cond, sym, ap, ◌∙◌}
use Rattle.std.proofs.lemmas.Bool.{eqb-true}
use Rattle.td_cdr.specs.Place.{At}
use Rattle.td_cdr.specs.Reading.{next_aligned}
use Rattle.td_cdr.specs.Format.{partial_format}
use Rattle.td_cdr.specs.LawfulFormats.{partial_format-lawful}
use Rattle.td_cdr.specs.FormatFaults.{PartialFault}
use Rattle.td_cdr.specs.RefusedFormats.{partial_format-refuses}
use Rattle.td_cdr.specs.Sound.{Sound, ulong, restriction}
use Rattle.td_cdr.specs.declared.value_fault.ValueFault.{ValueFault}
use Rattle.td_cdr.specs.declared.value_fault.ValueFault.TheVariants as fault
use Rattle.td_typecode.specs.declared.kinds.CodeKind.{CodeKind}
use Rattle.td_typecode.specs.declared.kinds.CodeKind.TheVariants as kind
use Rattle.td_typecode.specs.declared.mode.Mode.{Mode}
use Rattle.td_typecode.specs.declared.mode.Mode.TheVariants.{Outer, Inner, Switch}

-- the number of each kind; float, double, Principal and those from long double on are left out
abbrev pub number_of : CodeKind → ℕ
number_of kind.Null = 0
number_of kind.Void = 1
number_of kind.Short = 2
number_of kind.Long = 3
number_of kind.UShort = 4
number_of kind.ULong = 5
number_of kind.Boolean = 8
number_of kind.Char = 9
number_of kind.Octet = 10
number_of kind.AnyCode = 11
number_of kind.Code = 12
number_of kind.ObjRef = 14
number_of kind.Struct = 15
number_of kind.Union = 16
number_of kind.Enum = 17
number_of kind.Str = 18
number_of kind.Sequence = 19
number_of kind.Array = 20
number_of kind.Alias = 21
number_of kind.Except = 22
number_of kind.LongLong = 23
number_of kind.ULongLong = 24

abbrev pub all_kinds : List CodeKind
all_kinds =
    kind.Null ∷ kind.Void ∷ kind.Short ∷ kind.Long ∷ kind.UShort ∷ kind.ULong ∷ kind.Boolean
    ∷ kind.Char ∷ kind.Octet
    ∷ kind.AnyCode ∷ kind.Code ∷ kind.ObjRef ∷ kind.Struct ∷ kind.Union ∷ kind.Enum ∷ kind.Str
    ∷ kind.Sequence ∷ kind.Array ∷ kind.Alias ∷ kind.Except ∷ kind.LongLong ∷ kind.ULongLong ∷ []

-- the highest number that CORBA gives to a kind
abbrev pub last_number : ℕ
last_number = 28

-- the number in a kind's place that says that a TypeCode which was spelled before is meant
abbrev pub indirection : ℕ
indirection = 4294967295

-- the first of these that has this number
abbrev pub kind_by_number : List CodeKind → ℕ → Option CodeKind
kind_by_number [] n = None
kind_by_number (k ∷ ks) n = if n == number_of k then Some k else kind_by_number ks n

-- a union's discriminator is of one of these kinds, or of an alias, whose item is looked at
abbrev pub may_switch : CodeKind → Bool
may_switch kind.Short = true
may_switch kind.Long = true
may_switch kind.UShort = true
may_switch kind.ULong = true
may_switch kind.Boolean = true
may_switch kind.Char = true
may_switch kind.Enum = true
may_switch kind.Alias = true
may_switch kind.LongLong = true
may_switch kind.ULongLong = true
may_switch k = false

-- null and void stand in no other TypeCode
abbrev pub may_stand : Mode → CodeKind → Bool
may_stand Outer k = true
may_stand Inner kind.Null = false
may_stand Inner kind.Void = false
may_stand Inner k = true
may_stand Switch k = may_switch k

-- how the item of an alias stands
abbrev pub under : Mode → Mode
under Switch = Switch
under Inner = Inner
under Outer = Inner

-- the fault of a number that is none of these kinds' where one is left out
abbrev pub omission_fault : Mode → ℕ → ℕ → ValueFault
omission_fault Switch n place = fault.BadValue place
omission_fault Inner n place = fault.Unsupported n
omission_fault Outer n place = fault.Unsupported n

-- the fault of a number that is none of these kinds'; that of an indirection is given
abbrev pub number_fault : (ℕ → ValueFault) → Mode → ℕ → At → ValueFault
number_fault indirection_fault mode n a =
    if n == indirection then indirection_fault (next_aligned 4 a)
    else if nat_lt last_number n then fault.BadKind (next_aligned 4 a)
    else omission_fault mode n (next_aligned 4 a)

abbrev pub kind_fault : CodeKind → At → ValueFault
kind_fault k a = fault.BadValue (next_aligned 4 a)

-- ---- the format

kind_by_number-at : (k z : CodeKind) (n : ℕ) (rest : Option CodeKind) (b : Bool)
    → (n == number_of k) ≡ b
    → (rest ≡ Some z → number_of z ≡ n) → cond b (Some k) rest ≡ Some z → number_of z ≡ n
kind_by_number-at k z n rest true is later h =
    let same : k ≡ z = cc in sym (eqb-true n (number_of k) is ∙ ap number_of same)
kind_by_number-at k z n rest false is later h = later h

pub kind_by_number-number : (ks : List CodeKind) (n : ℕ) (k : CodeKind) → kind_by_number ks n
    ≡ Some k → number_of k ≡ n
kind_by_number-number [] n k h = absurd cc
kind_by_number-number (l ∷ ks) n k h =
    kind_by_number-at l k n (kind_by_number ks n)
    (n == number_of l) refl (kind_by_number-number ks n k) h

-- no two kinds have one number
pub each_numbered : (k : CodeKind) → kind_by_number all_kinds (number_of k) ≡ Some k
each_numbered kind.Null = refl
each_numbered kind.Void = refl
each_numbered kind.Short = refl
each_numbered kind.Long = refl
each_numbered kind.UShort = refl
each_numbered kind.ULong = refl
each_numbered kind.Boolean = refl
each_numbered kind.Char = refl
each_numbered kind.Octet = refl
each_numbered kind.AnyCode = refl
each_numbered kind.Code = refl
each_numbered kind.ObjRef = refl
each_numbered kind.Struct = refl
each_numbered kind.Union = refl
each_numbered kind.Enum = refl
each_numbered kind.Str = refl
each_numbered kind.Sequence = refl
each_numbered kind.Array = refl
each_numbered kind.Alias = refl
each_numbered kind.Except = refl
each_numbered kind.LongLong = refl
each_numbered kind.ULongLong = refl

-- a kind by its number, wherever it stands
abbrev pub any_kind : (ℕ → ValueFault) → Mode → Sound ValueFault CodeKind
any_kind indirection_fault mode = record {
  format = partial_format (kind_by_number all_kinds) number_of (number_fault indirection_fault mode)
      ulong.format;
  lawful =
      partial_format-lawful (kind_by_number all_kinds) number_of
      (number_fault indirection_fault mode) ulong.format each_numbered
      (kind_by_number-number all_kinds) ulong.lawful;
  faults =
      PartialFault ulong.format.spells (kind_by_number all_kinds)
      (number_fault indirection_fault mode) ulong.faults;
  refuses =
      partial_format-refuses (kind_by_number all_kinds) number_of
      (number_fault indirection_fault mode) ulong.format ulong.faults ulong.lawful ulong.refuses;
}

-- a kind that may stand there
abbrev pub kind_in : (ℕ → ValueFault) → Mode → Sound ValueFault CodeKind
kind_in indirection_fault mode = restriction (may_stand mode) kind_fault
    (any_kind indirection_fault mode)

-- the fault of an indirection, by whether it is one level too deep
abbrev pub indirection_fault : Bool → ℕ → ValueFault
indirection_fault true place = fault.Depth place
indirection_fault false place = fault.Indirection place

abbrev pub kind_at : Mode → Sound ValueFault CodeKind
kind_at mode = kind_in (indirection_fault false) mode

-- one level too deep: none may stand there
abbrev pub deep_kind : Mode → Sound ValueFault CodeKind
deep_kind mode = restriction (λ k. false) (λ k a. fault.Depth (next_aligned 4 a))
    (kind_in (indirection_fault true) mode)
