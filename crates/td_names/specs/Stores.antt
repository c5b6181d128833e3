-- A naming store: contexts with their bindings (OMG's Naming Service, interface CosNaming::NamingContext).
use Rattle.std.specs.Prelude.{◌≡◌, ℕ, ◌-◌, ◌≤◌, Bool, cond, ◌&&◌, nat_lt, List, [], ◌∷◌, length}
use Rattle.std.specs.Prelude.{slice_get, Option, Some, None, sum_by}
use Rattle.std.specs.Map.{lookup}
use Rattle.std.specs.Option.{is_some}
use Rattle.std.specs.Str.{bytes_eq}
use Rattle.td_names.specs.declared.address.Address.{Address}
use Rattle.td_names.specs.declared.component.Bound.{Bound}
use Rattle.td_names.specs.declared.component.NameComponent.{NameComponent}
use Rattle.td_names.specs.Limits.{most_bindings, most_changes, most_contexts, no_more_bindings, no_more_changes}
use Rattle.td_names.specs.Limits.{no_more_contexts}
use Rattle.td_names.specs.References.{IsAddress}

abbrev pub same_component : NameComponent → NameComponent → Bool
same_component a b = bytes_eq a.id b.id && bytes_eq a.kind b.kind

-- the bindings of a context, in the order of binding
abbrev pub Bindings : Type 0
Bindings = List (NameComponent × Bound)

-- where its server listens; the contexts in the order in which they were made, of each its bindings, or None where it
-- was destroyed; and how many changes were accepted
pub record Store : Type 0 where
  pub home : Address
  pub contexts : List (Option Bindings)
  pub changes : ℕ

-- the root alone, without bindings
abbrev pub start : Address → Store
start home = record { home = home; contexts = Some [] ∷ []; changes = 0 }

-- ---- contexts and what is bound in them

abbrev pub join_options : {X : Type 0} → Option (Option X) → Option X
join_options None = None
join_options (Some o) = o

-- the bindings of the context of a number, counted from 1, where it is live
abbrev pub bindings_in : List (Option Bindings) → ℕ → Option Bindings
bindings_in contexts n = cond (nat_lt 0 n) (join_options (slice_get contexts (n - 1))) None

abbrev pub bindings_of : Store → ℕ → Option Bindings
bindings_of s n = bindings_in s.contexts n

abbrev pub is_live : Store → ℕ → Bool
is_live s n = is_some (bindings_of s n)

abbrev pub looked_up : NameComponent → Option Bindings → Option Bound
looked_up k None = None
looked_up k (Some bs) = lookup (same_component k) bs

-- what is bound in a context under a component
abbrev pub bound_in : Store → ℕ → NameComponent → Option Bound
bound_in s n k = looked_up k (bindings_of s n)

-- ---- how much there is

abbrev pub count_in : Option Bindings → ℕ
count_in None = 0
count_in (Some bs) = length bs

-- how many bindings there are
abbrev pub binding_count : List (Option Bindings) → ℕ
binding_count contexts = sum_by count_in contexts

-- how many contexts were made, of which the root is none
abbrev pub contexts_made : Store → ℕ
contexts_made s = length s.contexts - 1

abbrev pub changes_full : Store → Bool
changes_full s = no_more_changes s.changes

abbrev pub bindings_full : Store → Bool
bindings_full s = no_more_bindings (binding_count s.contexts)

abbrev pub contexts_full : Store → Bool
contexts_full s = no_more_contexts (contexts_made s)

-- so many bindings and changes, within the limits
pub record AreCounted (contexts : List (Option Bindings)) (count changed : ℕ) : Type 0 where
  pub bindings : count ≡ binding_count contexts
  pub few_bindings : count ≤ most_bindings
  pub few_changes : changed ≤ most_changes
  pub few_contexts : length contexts - 1 ≤ most_contexts

-- the parts of a store that is kept
pub record IsValidStore (home : Address) (contexts : List (Option Bindings))
    (count changed : ℕ) : Type 0 where
  pub address : IsAddress home
  pub counted : AreCounted contexts count changed
