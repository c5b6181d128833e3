-- What holds of every call of naming contexts, whatever others do meanwhile.
use Rattle.std.specs.Prelude.{◌≡◌, ℕ, ◌≤◌, ◌↔◌, true, List, [], ◌∷◌, ◌++◌, length}
use Rattle.td_typecode.specs.declared.reference.Ior.{Ior}
use Rattle.td_names.specs.Limits.{name_fits}
use Rattle.td_names.specs.Reaching.{Reach}
use Rattle.td_names.specs.Refusing.{is_refusal}
use Rattle.td_names.specs.Stores.{is_live}
use Rattle.td_names.specs.declared.act.NameAct.{NameAct}
use Rattle.td_names.specs.declared.act.NameAct.TheVariants as act
use Rattle.td_names.specs.declared.act.NameAnswer.{NameAnswer}
use Rattle.td_names.specs.declared.act.NameAnswer.TheVariants.{Done}
use Rattle.td_names.specs.declared.act.NameReply.TheVariants.{Object}
use Rattle.td_names.specs.declared.component.NameComponent.{NameComponent}
use Rattle.td_naming.specs.Histories.{Legal, is_accepted}
use Rattle.td_naming.specs.Views.{NamingActs, Meanwhile, View, store_seen}
use Rattle.td_naming.specs.declared.history.NameChange.{NameChange}

module _ (others : List NameChange → Type 0) where
  -- a refused call changes nothing: what is seen then was done by others alone
  abbrev pub RefusalsChangeNothing : Type 0
  RefusalsChangeNothing =
      (v u : View) (c : ℕ) (a : NameAct) (r : NameAnswer) → NamingActs others v c a r u
      → is_refusal r ≡ true → Meanwhile others v u

  -- what is seen stays legal
  abbrev pub StaysLegal : Type 0
  StaysLegal =
      (v u : View) (c : ℕ) (a : NameAct) (r : NameAnswer) → NamingActs others v c a r u
      → Legal v.home v.history → Legal u.home u.history

  -- an accepted change is the last that is seen, in its own place
  pub record Stands (c : ℕ) (a : NameAct) (v u : View) : Type 0 where
    pub before : List NameChange
    pub change : NameChange
    pub is : (change.context ≡ c) × (change.act ≡ a)
    pub history : u.history ≡ before ++ change ∷ []
    pub own : u.own ≡ v.own ++ length before ∷ []
    pub seen : length v.history ≤ length before

  abbrev pub AcceptedStand : Type 0
  AcceptedStand =
      (v u : View) (c : ℕ) (a : NameAct) (r : NameAnswer) → NamingActs others v c a r u
      → is_accepted a r
      ≡ true → Stands c a v u

  -- a name within the limits is resolved to an object exactly where it reaches the object at what is seen then,
  -- whatever the contexts lead to, also back to themselves
  abbrev pub ResolvesByReach : Type 0
  ResolvesByReach =
      (v u : View) (c : ℕ) (name : List NameComponent) (r : NameAnswer) (object : Ior)
      → NamingActs others v c (act.Resolve name) r u → name_fits name ≡ true
      → is_live (store_seen u) c
      ≡ true → (r ≡ Done (Object object)) ↔ Reach (store_seen u) c name object
