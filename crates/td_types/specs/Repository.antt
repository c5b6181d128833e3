-- The repository of service types as a plain value (OMG's Trading Object Service, "Service Type Repository").
pub use Rattle.td_types.specs.declared.entry.ServiceType.{ServiceType}
use Rattle.std.specs.Prelude.{ℕ, ◌<◌, ◌≤◌, ◌%◌, ◌/◌, ◌^◌, Bool, IsTrue, IsFalse, List, [], ◌∷◌, reverse, find, All}
use Rattle.std.specs.Prelude.{Option, None, Some}
use Rattle.std.specs.List.{list_any}
use Rattle.std.specs.Str.{bytes_eq}
use Rattle.td_value.specs.declared.structures.IncarnationNumber.{IncarnationNumber}

-- interfaces by their ids, each with its declared bases
abbrev pub InterfaceBases : Type 0
InterfaceBases = List (List ℕ × List (List ℕ))

-- the types in the order of adding, the declared interfaces, and the last incarnation given, 0 before the first
pub record Repository : Type 0 where
  pub types : List ServiceType
  pub interfaces : InterfaceBases
  pub last : ℕ

-- ---- names

abbrev pub is_named : List ℕ → ServiceType → Bool
is_named name t = bytes_eq t.name name

-- the type of a name
abbrev pub type_named : List ServiceType → List ℕ → Option ServiceType
type_named types name = find (is_named name) types

-- the incarnation of the type of a name
abbrev pub incarnation_in : Option ServiceType → Option ℕ
incarnation_in None = None
incarnation_in (Some t) = Some t.incarnation

abbrev pub incarnation_of : List ServiceType → List ℕ → Option ℕ
incarnation_of types name = incarnation_in (type_named types name)

-- whether the type of a name is masked
abbrev pub mask_in : Option ServiceType → Option Bool
mask_in None = None
mask_in (Some t) = Some t.masked

abbrev pub mask_of : List ServiceType → List ℕ → Option Bool
mask_of types name = mask_in (type_named types name)

abbrev pub has_type : List ServiceType → List ℕ → Bool
has_type types name = list_any (is_named name) types

-- a name is among these
abbrev pub is_among : List ℕ → List (List ℕ) → Bool
is_among name names = list_any (bytes_eq name) names

-- ---- incarnations

-- a number as the two halves of an IncarnationNumber
abbrev pub halves : ℕ → IncarnationNumber
halves n = record { high = n / 2 ^ 32; low = n % 2 ^ 32 }

-- ---- repositories that calls can make

-- the greatest incarnation of types that are listed from the youngest on
abbrev pub top : List ServiceType → ℕ
top [] = 0
top (t ∷ older) = t.incarnation

-- Listed from the youngest on, each type has a name and an incarnation of its own, and its supertypes are older.
pub data IsWellFounded : List ServiceType → Type 0 where
  none : IsWellFounded []
  more : (t : ServiceType) (older : List ServiceType) → IsFalse (has_type older t.name)
      → All (λ s. IsTrue (has_type older s)) t.supers → top older < t.incarnation
      → IsWellFounded older
      → IsWellFounded (t ∷ older)

pub record IsRepository (r : Repository) : Type 0 where
  pub founded : IsWellFounded (reverse r.types)
  pub counted : top (reverse r.types) ≤ r.last
