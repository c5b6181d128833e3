-- CORBA, IDL on the inheritance of interfaces; Trading Object Service, on conforming interface types.
-- Declared interfaces, and which of them leads to which. An interface may be declared more than once;
-- all its declarations count. A base need not be declared, and bases may form a cycle.
use Rattle.std.specs.Prelude.{◌≡◌, ℕ, zero, suc, nat_eq, Bool, ◌&&◌, ◌||◌, ◌⊎◌, IsTrue, List, [], ◌∷◌, length}
use Rattle.std.specs.List.{list_any}
use Rattle.std.specs.Str.{bytes_eq}
use Rattle.td_types.specs.Repository.{InterfaceBases}

-- whether some declared base of an interface passes a test
abbrev pub some_base : InterfaceBases → List ℕ → (List ℕ → Bool) → Bool
some_base declared id test = list_any (λ entry. bytes_eq entry.0 id && list_any test entry.1)
    declared

-- whether one interface is a declared base of another
abbrev pub is_base : InterfaceBases → List ℕ → List ℕ → Bool
is_base declared id base = some_base declared id (bytes_eq base)

-- from the first id, over these and no others, to the last one: each a declared base of the one before
abbrev pub IsChain : InterfaceBases → List ℕ → List (List ℕ) → List ℕ → Type 0
IsChain declared first [] last = first ≡ last
IsChain declared first (next ∷ ids) last = IsTrue (is_base declared first next)
    × IsChain declared next ids last

-- there is a list of ids from the first to the last in which each is a declared base of the one before
abbrev pub LeadsTo : InterfaceBases → List ℕ → List ℕ → Type 0
LeadsTo declared first last = (ids : List (List ℕ)) × IsChain declared first ids last

-- An interface conforms to another where either is empty, or declared bases lead from the one to the
-- other; where they are equal, the list of that one id does.
abbrev pub InterfaceConforms : InterfaceBases → List ℕ → List ℕ → Type 0
InterfaceConforms declared sub base = ((sub ≡ []) ⊎ (base ≡ [])) ⊎ LeadsTo declared sub base

-- whether one interface leads to another in at most so many steps
unfoldable pub leads_within : ℕ → InterfaceBases → List ℕ → List ℕ → Bool
leads_within zero declared first last = bytes_eq first last
leads_within (suc steps) declared first last =
    bytes_eq first last || some_base declared first (λ next. leads_within steps declared next last)

-- the same as a test: no more steps are needed than there are declarations
unfoldable pub interface_conforms : InterfaceBases → List ℕ → List ℕ → Bool
interface_conforms declared sub base =
    nat_eq (length sub) 0 || nat_eq (length base) 0
    || leads_within (length declared) declared sub base
