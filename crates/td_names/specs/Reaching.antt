-- Which object a name reaches.
use Rattle.std.specs.Prelude.{◌≡◌, ℕ, true, List, [], ◌∷◌, ◌++◌, Some}
use Rattle.td_typecode.specs.declared.reference.Ior.{Ior}
use Rattle.td_names.specs.declared.component.Bound.{Bound}
use Rattle.td_names.specs.declared.component.NameComponent.{NameComponent}
use Rattle.td_names.specs.References.{context_of_reference}
use Rattle.td_names.specs.Stores.{Store, is_live, bound_in}

-- the live context d is bound in c under the component, as one that names go on through
pub record Leads (s : Store) (c : ℕ) (k : NameComponent) (d : ℕ) : Type 0 where
  pub bound : Bound
  pub there : bound_in s c k ≡ Some bound
  pub context : bound.context ≡ true
  pub to : context_of_reference s.home bound.object ≡ Some d
  pub live : is_live s d ≡ true

-- contexts one after the other from c, each bound in the one before under the next component
abbrev pub ContextChain : Store → ℕ → List NameComponent → List ℕ → Type 0
ContextChain s c [] [] = Unit {0}
ContextChain s c [] (d ∷ ds) = ⊥
ContextChain s c (k ∷ ks) [] = ⊥
ContextChain s c (k ∷ ks) (d ∷ ds) = Leads s c k d × ContextChain s d ks ds

abbrev pub last_context : ℕ → List ℕ → ℕ
last_context c [] = c
last_context c (d ∷ ds) = last_context d ds

-- the name leads from the context c over a list of live contexts, each bound in the one before, to one in which its
-- last component is bound to the object
pub record Reach (s : Store) (c : ℕ) (name : List NameComponent) (object : Ior) : Type 0 where
  pub front : List NameComponent
  pub last : NameComponent
  pub parts : name ≡ front ++ last ∷ []
  pub contexts : List ℕ
  pub chain : ContextChain s c front contexts
  pub bound : Bound
  pub there : bound_in s (last_context c contexts) last ≡ Some bound
  pub is : bound.object ≡ object
