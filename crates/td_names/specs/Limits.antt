-- How much there may be.
use Rattle.std.specs.Prelude.{ℕ, Bool, ◌&&◌, nat_le, List, length}
use Rattle.std.specs.List.{list_all}
use Rattle.td_names.specs.declared.component.NameComponent.{NameComponent}

-- contexts that were made; the root wasn't
abbrev pub most_contexts : ℕ
most_contexts = 65536

-- bindings that there are, in all contexts
abbrev pub most_bindings : ℕ
most_bindings = 1000000

-- changes that were accepted
abbrev pub most_changes : ℕ
most_changes = 1000000

-- components of a name
abbrev pub most_components : ℕ
most_components = 64

-- bytes of an id or of a kind
abbrev pub most_bytes : ℕ
most_bytes = 256

abbrev pub no_more_contexts : ℕ → Bool
no_more_contexts made = nat_le most_contexts made

abbrev pub no_more_bindings : ℕ → Bool
no_more_bindings bindings = nat_le most_bindings bindings

abbrev pub no_more_changes : ℕ → Bool
no_more_changes changes = nat_le most_changes changes

abbrev pub component_fits : NameComponent → Bool
component_fits k = nat_le (length k.id) most_bytes && nat_le (length k.kind) most_bytes

abbrev pub name_fits : List NameComponent → Bool
name_fits name = nat_le (length name) most_components && list_all component_fits name
