-- When a service type conforms to another (OMG's Trading Object Service, "Service Types", on subtypes).
use Rattle.std.specs.Prelude.{◌≡◌, ℕ, Bool, IsTrue, ◌&&◌, ◌||◌, if◌then◌else◌, List, [], ◌∷◌, ◌++◌, map, filter}
use Rattle.std.specs.Prelude.{reverse, flat_map, Some}
use Rattle.std.specs.Str.{bytes_eq}
use Rattle.td_types.specs.Repository.{ServiceType, type_named, has_type, is_named, is_among}

-- the second is a declared supertype of the first
pub record IsSuper (types : List ServiceType) (a b : List ℕ) : Type 0 where
  pub type : ServiceType
  pub found : type_named types a ≡ Some type
  pub declared : IsTrue (is_among b type.supers)

-- from a type's name over these to the last, each a declared supertype of the one before
abbrev pub IsSuperPath : List ServiceType → List ℕ → List (List ℕ) → List ℕ → Type 0
IsSuperPath types a [] b = IsTrue (has_type types a) × (a ≡ b)
IsSuperPath types a (c ∷ cs) b = IsSuper types a c × IsSuperPath types c cs b

-- a list of names leads from the one type to the other
pub record Conforms (types : List ServiceType) (a b : List ℕ) : Type 0 where
  pub names : List (List ℕ)
  pub leads : IsSuperPath types a names b

-- ---- ancestors

-- each name once, where it is first met
abbrev pub add_once : List (List ℕ) → List ℕ → List (List ℕ)
add_once names name = if is_among name names then names else names ++ name ∷ []

abbrev pub once : List (List ℕ) → List (List ℕ) → List (List ℕ)
once met [] = met
once met (name ∷ names) = once (add_once met name) names

-- What a depth-first walk from a type over the declared supertypes meets, each as often as it is met. The types
-- are listed from the youngest on, so that a type's supertypes stand behind it.
abbrev pub walk : List ServiceType → List ℕ → List (List ℕ)
walk [] name = []
walk (t ∷ older) name = if is_named name t then flat_map (λ s. s ∷ walk older s)
    t.supers else walk older name

-- all supertypes, declared ones and theirs, in the order in which a depth-first walk first meets them
unfoldable pub ancestors : List ServiceType → List ℕ → List (List ℕ)
ancestors types name = once [] (walk (reverse types) name)

-- whether the first conforms to the second
abbrev pub conforms : List ServiceType → List ℕ → List ℕ → Bool
conforms types a b = has_type types a && (bytes_eq a b || is_among b (ancestors types a))

-- the incarnations of the types that conform to this one, itself among them
abbrev pub subtypes : List ServiceType → List ℕ → List ℕ
subtypes types base = map (λ t. t.incarnation) (filter (λ t. conforms types t.name base) types)
