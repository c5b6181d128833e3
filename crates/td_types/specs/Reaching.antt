-- CORBA, IDL on the inheritance of interfaces.
-- Which declarations an interface leads to, by their places in the list of declarations, and how a
-- table of these answers which interface leads to which.
use Rattle.std.specs.Prelude.{◌≡◌, ℕ, zero, suc, nat_eq, ◌<◌, Bool, false, ◌&&◌, ◌||◌, IsTrue, List, [], ◌∷◌, length}
use Rattle.std.specs.Prelude.{slice_index_or}
use Rattle.std.specs.List.{list_any}
use Rattle.std.specs.Str.{bytes_eq}
use Rattle.td_types.specs.Repository.{InterfaceBases, is_among}
use Rattle.td_types.specs.Interfaces.{leads_within}

-- ---- declarations by their places

-- the id that is declared at a place
abbrev pub id_at : InterfaceBases → ℕ → List ℕ
id_at declared place = (slice_index_or declared place ([], [])).0

-- the bases that are declared there
abbrev pub bases_at : InterfaceBases → ℕ → List (List ℕ)
bases_at declared place = (slice_index_or declared place ([], [])).1

-- whether one of these ids is declared at a place
abbrev pub declares : InterfaceBases → List (List ℕ) → ℕ → Bool
declares [] ids place = false
declares (entry ∷ declared) ids zero = is_among entry.0 ids
declares (entry ∷ declared) ids (suc place) = declares declared ids place

-- whether a place is one of these
abbrev pub is_in : ℕ → List ℕ → Bool
is_in place places = list_any (nat_eq place) places

-- these are the places at which one of the ids is declared
abbrev pub ArePlaces : InterfaceBases → List (List ℕ) → List ℕ → Type 0
ArePlaces declared ids places = (place : ℕ) → is_in place places ≡ declares declared ids place

-- the places behind one place
abbrev pub links_at : List (List ℕ) → ℕ → List ℕ
links_at links place = slice_index_or links place []

-- of each declaration, the places at which its bases are declared
pub record AreLinks (declared : InterfaceBases) (links : List (List ℕ)) : Type 0 where
  pub count : length links ≡ length declared
  pub each : (place : ℕ) → ArePlaces declared (bases_at declared place) (links_at links place)

-- ---- the least set of places

abbrev pub is_marked : List Bool → ℕ → Bool
is_marked marks place = slice_index_or marks place false

-- every link leads to a place that has links
abbrev pub AreWithin : List (List ℕ) → List ℕ → Type 0
AreWithin links places = (place : ℕ) → IsTrue (is_in place places) → place < length links

-- The marks are the least set that holds the starts and with each place those that are linked to it.
pub record IsLeast (links : List (List ℕ)) (starts : List ℕ) (marks : List Bool) : Type 0 where
  pub count : length marks ≡ length links
  pub holds_starts : (place : ℕ) → IsTrue (is_in place starts) → IsTrue (is_marked marks place)
  pub closed : (from to : ℕ) → IsTrue (is_marked marks from)
      → IsTrue (is_in to (links_at links from)) → IsTrue (is_marked marks to)
  pub least : (test : ℕ → Bool) → ((place : ℕ) → IsTrue (is_in place starts) → IsTrue (test place))
      → ((from to : ℕ) → IsTrue (test from) → IsTrue (is_in to (links_at links from))
      → IsTrue (test to)) → (place : ℕ) → IsTrue (is_marked marks place) → IsTrue (test place)

-- ---- the table

-- whether a marked declaration names this base
abbrev pub names_base : InterfaceBases → List Bool → List ℕ → Bool
names_base [] marks base = false
names_base (entry ∷ declared) [] base = false
names_base (entry ∷ declared) (mark ∷ marks) base = (mark && is_among base entry.1)
    || names_base declared marks base

-- by these marks an interface leads where it does
pub record Reaches (declared : InterfaceBases) (id : List ℕ) (marks : List Bool) : Type 0 where
  pub count : length marks ≡ length declared
  pub leads : (last : List ℕ)
      → leads_within (length declared) declared id last
      ≡ (bytes_eq id last || names_base declared marks last)

-- the marks of each declaration's interface
pub record AllReach (declared : InterfaceBases) (reached : List (List Bool)) : Type 0 where
  pub count : length reached ≡ length declared
  pub each : (place : ℕ) → place < length declared
      → Reaches declared (id_at declared place) (slice_index_or reached place [])
