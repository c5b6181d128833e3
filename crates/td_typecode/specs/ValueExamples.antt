-- Worked examples: values under graphs.
use Rattle.std.specs.Prelude.{◌≡◌, ℕ, pos, zero, suc, List, [], ◌∷◌, Ok, Err}
use Rattle.td_cdr.specs.Place.{At}
use Rattle.td_cdr.specs.declared.order.Order.TheVariants.{Big}
use Rattle.td_cdr.specs.declared.value_fault.ValueFault.TheVariants as fault
use Rattle.tc_graph.specs.Examples.{recursive_graph}
use Rattle.tc_edges.specs.Examples.{shared_graph}
use Rattle.td_typecode.specs.declared.code.Value.{Value}
use Rattle.td_typecode.specs.declared.code.Value.TheVariants as value
use Rattle.td_typecode.specs.Values.{graph_values}

abbrev pub at_place : ℕ → List ℕ → At
at_place place rest = record { rest = rest; place = place; origin = 0; order = Big }

-- ---- a struct N, whose one member is a sequence of N; the edge from the sequence is an indirection

-- so many of them, one in the other, the innermost of which holds none
abbrev pub nested_structs : ℕ → Value
nested_structs zero = value.Struct (value.Items [] ∷ [])
nested_structs (suc n) = value.Struct (value.Items (nested_structs n ∷ []) ∷ [])

abbrev pub nested_bytes : ℕ → List ℕ
nested_bytes zero = 0 ∷ 0 ∷ 0 ∷ 0 ∷ []
nested_bytes (suc n) = 0 ∷ 0 ∷ 0 ∷ 1 ∷ nested_bytes n

-- ---- a struct of two members of one struct

abbrev pub pair_of : ℕ → ℕ → List ℕ
pair_of x y = 0 ∷ 0 ∷ 0 ∷ x ∷ 0 ∷ 0 ∷ 0 ∷ y ∷ []

abbrev pub long_struct : ℕ → Value
long_struct x = value.Struct (value.Long (pos x) ∷ [])

pub record WorkedValues : Type 0 where
  -- a struct that holds one, which holds none
  pub read : (graph_values 15 recursive_graph).format.reads (at_place 0 (nested_bytes 1))
      ≡ Ok (nested_structs 1, at_place 8 [])
  pub written : (graph_values 15 recursive_graph).format.writes (nested_structs 1) Big 0
      ≡ nested_bytes 1
  -- under an any at level 1 there are 15 levels more, and so 15 indirections may be passed
  pub deepest : (graph_values 15 recursive_graph).format.reads (at_place 0 (nested_bytes 15))
      ≡ Ok (nested_structs 15, at_place 64 [])
  pub too_deep : (graph_values 15 recursive_graph).format.reads (at_place 0 (nested_bytes 16))
      ≡ Err (fault.Depth 64)
  -- under an any at level 16 none may
  pub last_level : (graph_values 0 recursive_graph).format.reads (at_place 0 (nested_bytes 0))
      ≡ Ok (nested_structs 0, at_place 4 [])
  pub passed : (graph_values 0 recursive_graph).format.reads (at_place 0 (nested_bytes 1))
      ≡ Err (fault.Depth 4)
  -- nor where a struct stands twice
  pub twice : (graph_values 1 shared_graph).format.reads (at_place 0 (pair_of 7 9))
      ≡ Ok (value.Struct (long_struct 7 ∷ long_struct 9 ∷ []), at_place 8 [])
  pub twice_too_deep : (graph_values 0 shared_graph).format.reads (at_place 0 (pair_of 7 9))
      ≡ Err (fault.Depth 4)
