-- What a list of policies states, field by field.
use Rattle.std.proofs.Common.{◌≡◌, Bool, true, false, List, Option, None, Ok, refl, subst, inl, inr}
use Rattle.std.proofs.lemmas.Slice.Eq.{bytes_eq-Decides}
use Rattle.std.specs.List.{AllByRecursion}
use Rattle.std.specs.Str.{bytes_eq}
use Rattle.td_policy.proofs.Fields.{apart, each, listed, none_first, there}
use Rattle.td_policy.specs.Fields.{Field, FieldValue, kind_of, name_of, put, value_in}
use Rattle.td_policy.specs.Stated.{entry, policies, stated}
use Rattle.td_policy.specs.declared.stated.Stated.{Stated}
use Rattle.td_value.specs.declared.structures.Policy.{Policy}
use Rattle.td_walk.specs.Passing.{policy_named}
use Rattle.td_query_walk.proofs.Stating.{IsStatedBy, IsKeeper, other-keeps, stated-is, named-states}

module _ (f : Field) where
  keeper : (g : Field) → IsKeeper (value_in f) (name_of f) (entry g)
  keeper g = by_name (bytes_eq (name_of g) (name_of f)) refl
    where
      by_name : (b : Bool) → bytes_eq (name_of g) (name_of f) ≡ b → IsKeeper (value_in f) (name_of f) (entry g)
      by_name true is = inl ((bytes_eq-Decides (name_of g) (name_of f)).0 is)
      by_name false is = inr (other-keeps (value_in f) (kind_of g) (put g) (apart f g is))

  keepers : AllByRecursion (IsKeeper (value_in f) (name_of f)) policies
  keepers = each (IsKeeper (value_in f) (name_of f)) keeper

  pub is-stated : (ps : List Policy) (s : Stated) → stated ps ≡ Ok s
      → IsStatedBy (kind_of f) (policy_named ps (name_of f)) None (value_in f s)
  is-stated ps s e =
      subst (λ (o : Option (FieldValue f)). IsStatedBy (kind_of f) (policy_named ps (name_of f)) o (value_in f s))
      (none_first f)
      (stated-is (value_in f) (name_of f) (kind_of f) keepers
      (named-states (kind_of f) (put f) (value_in f) (name_of f) (there f) (listed f)) ps s e)
