-- How everything stands that a session acts on: the contexts as they are seen, and the iterators of the connection.
use Rattle.std.specs.Prelude.{◌≡◌, ◌⊎◌, ℕ, Bool, List}
use Rattle.td_iter.specs.Desks.{LiveOf, is_live as is_kept_by}
use Rattle.td_names.specs.declared.component.NameBinding.{NameBinding}
use Rattle.td_naming.specs.Views.{LooksAtContext, Meanwhile, View}
use Rattle.td_naming.specs.declared.history.NameChange.{NameChange}
use Rattle.td_name_session.specs.Keys.{desk_label}
use Rattle.td_name_session.specs.declared.keys.NameKey.{NameKey}
use Rattle.td_name_session.specs.declared.keys.NameKey.TheVariants.{Context, Iterator}

-- the iterators of a connection, each with the bindings that are left
abbrev pub IteratorList : Type 0
IteratorList = LiveOf (List NameBinding)

pub record Scene : Type 0 where
  pub names : View
  pub desk : IteratorList

abbrev pub scene : View → IteratorList → Scene
scene names desk = record { names = names; desk = desk }

-- an iterator of the connection is live
abbrev pub is_kept : ℕ → IteratorList → Bool
is_kept n d = is_kept_by desk_label n d

-- Whether an object is live: a context at what is seen then, an iterator by the connection alone.
abbrev pub FindsObject : (List NameChange → Type 0) → View → IteratorList → NameKey → Bool → View
    → Type 0
FindsObject others v d (Context n) live u = LooksAtContext others v n live u
FindsObject others v d (Iterator n) live u = (live ≡ is_kept n d) × (u ≡ v)

-- nothing was done to the contexts but by others, if at all
abbrev pub Idles : (List NameChange → Type 0) → View → View → Type 0
Idles others v u = (u ≡ v) ⊎ Meanwhile others v u
