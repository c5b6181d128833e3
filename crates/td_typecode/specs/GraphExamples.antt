-- A worked example: struct N, whose one member `next` is a sequence of N. The struct's kind stands at 0 and its
-- encapsulation begins at 8, the member's name at 44, the sequence's kind at 52 and its encapsulation at 60; the
-- indirection stands at 64, and its long at 68 leads 68 bytes back.
use Rattle.std.specs.Prelude.{◌≡◌, ℕ, true, List, [], ◌∷◌, ◌++◌, codes, map, None, Ok, Err}
use Rattle.td_cdr.specs.Place.{At}
use Rattle.td_cdr.specs.declared.order.Order.TheVariants.{Big}
use Rattle.td_cdr.specs.declared.value_fault.ValueFault.TheVariants as fault
use Rattle.tc_graph.specs.Examples.{n_id, recursive_graph}
use Rattle.td_typecode.specs.declared.code.TypeCode.TheOpen as c
use Rattle.td_typecode.specs.declared.kinds.CodeKind.TheVariants as kind
use Rattle.td_typecode.specs.declared.mode.Mode.TheVariants.{Outer}
use Rattle.td_indirection.specs.States.{empty, nodes, slot}
use Rattle.td_typecode.specs.Known.{KnownState, node_with_layer}
use Rattle.td_typecode.specs.GraphCodes.{edges}
use Rattle.td_typecode.specs.GraphNodes.{node_of}

-- up to the indirection
abbrev pub n_front : List ℕ
n_front =
    0 ∷ 0 ∷ 0 ∷ 15 ∷ 0 ∷ 0 ∷ 0 ∷ 68 ∷ 0 ∷ 0 ∷ 0 ∷ 0 ∷ 0 ∷ 0 ∷ 0 ∷ 10 ∷ 73 ∷ 68 ∷ 76 ∷ 58 ∷ 78 ∷ 58
    ∷ 49 ∷ 46 ∷ 48 ∷ 0 ∷ 0 ∷ 0
    ∷ 0 ∷ 0 ∷ 0 ∷ 2 ∷ 78 ∷ 0 ∷ 0 ∷ 0 ∷ 0 ∷ 0 ∷ 0 ∷ 1 ∷ 0 ∷ 0 ∷ 0 ∷ 5 ∷ 110 ∷ 101 ∷ 120 ∷ 116 ∷ 0 ∷ 0
    ∷ 0 ∷ 0 ∷ 0 ∷ 0 ∷ 0 ∷ 19 ∷ 0 ∷ 0 ∷ 0 ∷ 16 ∷ 0 ∷ 0 ∷ 0 ∷ 0 ∷ []

-- with a long of this last octet
abbrev pub n_bytes : ℕ → List ℕ
n_bytes last = n_front ++ 255 ∷ 255 ∷ 255 ∷ 255 ∷ 255 ∷ 255 ∷ 255 ∷ last ∷ 0 ∷ 0 ∷ 0 ∷ 0 ∷ []

abbrev pub n_state : KnownState
n_state = record {
  base = 0;
  table =
      slot 0 (node_with_layer kind.Struct (c.TypeCode::Struct n_id (codes "N") ((codes "next", 1)
      ∷ [])))
      ∷ slot 52 (node_with_layer kind.Sequence (c.Sequence 0 0)) ∷ [];
  linked = true;
}

abbrev pub stands : ℕ → List ℕ → At
stands place rest = record { rest = rest; place = place; origin = 0; order = Big }

pub record WorkedGraph : Type 0 where
  pub read : (edges 16 Outer None).format.reads empty (stands 0 (n_bytes 188))
      ≡ Ok ((0, n_state), stands 76 [])
  pub written : (edges 16 Outer None).format.writes (nodes n_state) empty 0 Big 0 ≡ n_bytes 188
  pub shown : map node_of (nodes n_state) ≡ recursive_graph
  -- a long that leads to no kind
  pub astray : (edges 16 Outer None).format.reads empty (stands 0 (n_bytes 192))
      ≡ Err (fault.Indirection 64)
