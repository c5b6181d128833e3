-- What holds of every repository that calls can make (OMG's Trading Object Service, "Service Type Repository").
use Rattle.std.specs.Prelude.{◌≡◌, ℕ, ◌<◌, ◌≤◌, Bool, false, not, ◌&&◌, IsTrue, List, [], ◌∷◌, map, filter, Some}
use Rattle.std.specs.List.{list_any, AllByRecursion}
use Rattle.td_value.specs.declared.structures.PropStruct.{PropStruct}
use Rattle.td_types.specs.Conforming.{ancestors, conforms}
use Rattle.td_types.specs.Modes.{is_at_least}
use Rattle.td_types.specs.Properties.{is_called, full_properties}
use Rattle.td_types.specs.Repository.{Repository, ServiceType, IsRepository, has_type, is_named, type_named, mask_of}
use Rattle.td_types.specs.declared.reply.TypesReply.{TypesReply}
use Rattle.td_types.specs.declared.reply.TypesReply.TheVariants as reply

-- each number is above the one before it
abbrev pub RisesAbove : ℕ → List ℕ → Type 0
RisesAbove below [] = Unit {0}
RisesAbove below (n ∷ ns) = (below < n) × RisesAbove n ns

-- the types of other names, in order
abbrev pub other_types : List ℕ → List ServiceType → List ServiceType
other_types name types = filter (λ t. not (is_named name t)) types

-- a type but for its mask
abbrev pub without_mask : ServiceType → ServiceType
without_mask t = record t { masked = false }

-- what follows from the supertypes of a name is the same among both
pub record IsSameOf (name : List ℕ) (before after : List ServiceType) : Type 0 where
  pub there : has_type after name ≡ has_type before name
  pub properties : full_properties after name ≡ full_properties before name
  pub supertypes : ancestors after name ≡ ancestors before name
  pub bases : (base : List ℕ) → conforms after name base ≡ conforms before name base

-- The type of this name is gone. The others stand in their order as they were: incarnation, interface, own
-- properties, listed supertypes and mask. What follows from their supertypes is as it was, too.
pub record Removes (name : List ℕ) (before after : Repository) : Type 0 where
  pub valid : IsRepository after
  pub gone : has_type after.types name ≡ false
  pub remaining : after.types ≡ other_types name before.types
  pub types : (other : List ℕ) → (other ≡ name → ⊥) → type_named after.types other
      ≡ type_named before.types other
  pub others : (other : List ℕ) → (other ≡ name → ⊥) → IsSameOf other before.types after.types
  pub interfaces : after.interfaces ≡ before.interfaces
  pub last : after.last ≡ before.last

-- The type of this name has this mask, and had the other. But for it all types stand in their order as they were:
-- incarnation, interface, own properties and listed supertypes, and the others their masks. What follows from
-- supertypes is as it was, too.
pub record SetsMask (name : List ℕ) (masked : Bool) (before after : Repository) : Type 0 where
  pub valid : IsRepository after
  pub had : mask_of before.types name ≡ Some (not masked)
  pub has : mask_of after.types name ≡ Some masked
  pub all : map without_mask after.types ≡ map without_mask before.types
  pub types : (other : List ℕ) → (other ≡ name → ⊥) → type_named after.types other
      ≡ type_named before.types other
  pub supertypes : (other : List ℕ) → IsSameOf other before.types after.types
  pub interfaces : after.interfaces ≡ before.interfaces
  pub last : after.last ≡ before.last

-- the new type's incarnation is told, and no type and no call before had one as great
pub record IsNewest (before after : Repository) (content : TypesReply) : Type 0 where
  pub content_is : content ≡ reply.Added after.last
  pub above_last : before.last < after.last
  pub above_all : AllByRecursion (λ t. t.incarnation < after.last) before.types

-- of the types that conform to this name's and aren't it, this is the oldest
pub record IsOldestSubType (r : Repository) (name : List ℕ) (sub : ServiceType) : Type 0 where
  pub conforming : IsTrue (conforms r.types sub.name name)
  pub other : sub.name ≡ name → ⊥
  pub oldest : AllByRecursion
      (λ t. (t.name ≡ name → ⊥) → IsTrue (conforms r.types t.name name) → sub.incarnation
      ≤ t.incarnation) r.types

-- a property of the other's name that demands at least what the other does
abbrev pub is_as_strong : PropStruct → PropStruct → Bool
is_as_strong p q = is_called p.name q && is_at_least q.mode p.mode

-- for each of the lower properties there is one of its name that demands at least as much
abbrev pub AreAsStrong : (props lower : List PropStruct) → Type 0
AreAsStrong props lower = AllByRecursion (λ p. IsTrue (list_any (is_as_strong p) props)) lower
