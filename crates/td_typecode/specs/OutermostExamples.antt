-- Worked examples of outermost TypeCodes with indirections, beside that of a struct that holds itself: what they are
-- read as, and what graphs are written as.
use Rattle.std.specs.Prelude.{◌≡◌, ℕ, ℤ, pos, List, [], ◌∷◌, length, codes, Ok, Err}
use Rattle.tc_graph.specs.declared.node.Node.{Node}
use Rattle.tc_graph.specs.Examples.{recursive_graph}
use Rattle.td_cdr.specs.Place.{At}
use Rattle.td_cdr.specs.declared.order.Order.{Order}
use Rattle.td_cdr.specs.declared.order.Order.TheVariants.{Big}
use Rattle.td_cdr.specs.declared.value_fault.ValueFault.TheVariants as fault
use Rattle.td_typecode.specs.declared.code.TypeCode.TheVariants as code
use Rattle.td_typecode.specs.GraphExamples.{n_bytes}
use Rattle.td_typecode.specs.Outermost.{outer, graph_piece}

abbrev pub node_with_parts : ℕ → List ℕ → List (List ℕ) → List ℤ → List ℕ → Node
node_with_parts kind id names numbers edges = record {
  kind = kind;
  id = id;
  names = names;
  numbers = numbers;
  edges = edges;
}

-- a struct of three members of one struct, which is spelled once
abbrev pub shared_bytes : List ℕ
shared_bytes =
    0 ∷ 0 ∷ 0 ∷ 15 ∷ 0 ∷ 0 ∷ 0 ∷ 140 ∷ 0 ∷ 0 ∷ 0 ∷ 0 ∷ 0 ∷ 0 ∷ 0 ∷ 10 ∷ 73 ∷ 68 ∷ 76 ∷ 58 ∷ 83 ∷ 58
    ∷ 49 ∷ 46 ∷ 48 ∷ 0 ∷ 0 ∷ 0 ∷ 0 ∷ 0 ∷ 0 ∷ 2 ∷ 83 ∷ 0 ∷ 0 ∷ 0 ∷ 0 ∷ 0 ∷ 0 ∷ 3 ∷ 0 ∷ 0 ∷ 0 ∷ 2
    ∷ 97 ∷ 0 ∷ 0 ∷ 0 ∷ 0 ∷ 0 ∷ 0 ∷ 15 ∷ 0 ∷ 0 ∷ 0 ∷ 60 ∷ 0 ∷ 0 ∷ 0 ∷ 0 ∷ 0 ∷ 0 ∷ 0 ∷ 10 ∷ 73 ∷ 68
    ∷ 76 ∷ 58 ∷ 80 ∷ 58 ∷ 49 ∷ 46 ∷ 48 ∷ 0 ∷ 0 ∷ 0 ∷ 0 ∷ 0 ∷ 0 ∷ 2 ∷ 80 ∷ 0 ∷ 0 ∷ 0 ∷ 0 ∷ 0 ∷ 0 ∷ 2
    ∷ 0 ∷ 0 ∷ 0 ∷ 2 ∷ 120 ∷ 0 ∷ 0 ∷ 0 ∷ 0 ∷ 0 ∷ 0 ∷ 3 ∷ 0 ∷ 0 ∷ 0 ∷ 2 ∷ 121 ∷ 0 ∷ 0 ∷ 0 ∷ 255 ∷ 255
    ∷ 255 ∷ 255 ∷ 255 ∷ 255 ∷ 255 ∷ 240 ∷ 0 ∷ 0 ∷ 0 ∷ 2 ∷ 98 ∷ 0 ∷ 0 ∷ 0 ∷ 255 ∷ 255 ∷ 255 ∷ 255
    ∷ 255 ∷ 255 ∷ 255 ∷ 176
    ∷ 0 ∷ 0 ∷ 0 ∷ 2 ∷ 99 ∷ 0 ∷ 0 ∷ 0 ∷ 255 ∷ 255 ∷ 255 ∷ 255 ∷ 255 ∷ 255 ∷ 255 ∷ 160 ∷ []

abbrev pub shared_graph : List Node
shared_graph =
    node_with_parts 15 (codes "IDL:S:1.0") (codes "S" ∷ codes "a" ∷ codes "b" ∷ codes "c" ∷ []) ([])
    (1 ∷ 1 ∷ 1 ∷ [])
    ∷ node_with_parts 15 (codes "IDL:P:1.0") (codes "P" ∷ codes "x" ∷ codes "y" ∷ []) ([])
    (2 ∷ 2 ∷ [])
    ∷ node_with_parts 3 [] ([]) ([]) ([]) ∷ []

-- two structs that hold sequences of each other, encapsulations of either order in one another
abbrev pub by_turns_bytes : List ℕ
by_turns_bytes =
    0 ∷ 0 ∷ 0 ∷ 15 ∷ 0 ∷ 0 ∷ 0 ∷ 164 ∷ 0 ∷ 0 ∷ 0 ∷ 0 ∷ 0 ∷ 0 ∷ 0 ∷ 10 ∷ 73 ∷ 68 ∷ 76 ∷ 58 ∷ 65 ∷ 58
    ∷ 49 ∷ 46 ∷ 48 ∷ 0 ∷ 0 ∷ 0 ∷ 0 ∷ 0 ∷ 0 ∷ 2 ∷ 65 ∷ 0 ∷ 0 ∷ 0 ∷ 0 ∷ 0 ∷ 0 ∷ 1 ∷ 0 ∷ 0 ∷ 0 ∷ 3
    ∷ 98 ∷ 115 ∷ 0 ∷ 0 ∷ 0 ∷ 0 ∷ 0 ∷ 19 ∷ 0 ∷ 0 ∷ 0 ∷ 116 ∷ 0 ∷ 0 ∷ 0 ∷ 0 ∷ 0 ∷ 0 ∷ 0 ∷ 15 ∷ 0 ∷ 0
    ∷ 0 ∷ 100 ∷ 1 ∷ 0 ∷ 0 ∷ 0 ∷ 10 ∷ 0 ∷ 0 ∷ 0 ∷ 73 ∷ 68 ∷ 76 ∷ 58 ∷ 66 ∷ 58 ∷ 49 ∷ 46 ∷ 48 ∷ 0 ∷ 0
    ∷ 0 ∷ 2 ∷ 0 ∷ 0 ∷ 0 ∷ 66 ∷ 0 ∷ 0 ∷ 0 ∷ 2 ∷ 0 ∷ 0 ∷ 0 ∷ 3 ∷ 0 ∷ 0 ∷ 0 ∷ 97 ∷ 115 ∷ 0 ∷ 0 ∷ 19 ∷ 0
    ∷ 0 ∷ 0 ∷ 16 ∷ 0 ∷ 0 ∷ 0 ∷ 0 ∷ 0 ∷ 0 ∷ 0 ∷ 255 ∷ 255 ∷ 255 ∷ 255 ∷ 255 ∷ 255 ∷ 255 ∷ 132 ∷ 0 ∷ 0
    ∷ 0 ∷ 7
    ∷ 5 ∷ 0 ∷ 0 ∷ 0 ∷ 115 ∷ 101 ∷ 108 ∷ 102 ∷ 0 ∷ 0 ∷ 0 ∷ 0 ∷ 19 ∷ 0 ∷ 0 ∷ 0 ∷ 16 ∷ 0 ∷ 0 ∷ 0 ∷ 1
    ∷ 0 ∷ 0 ∷ 0 ∷ 255 ∷ 255 ∷ 255 ∷ 255 ∷ 156 ∷ 255 ∷ 255 ∷ 255 ∷ 0 ∷ 0 ∷ 0 ∷ 0 ∷ 0 ∷ 0 ∷ 0 ∷ 0 ∷ []

abbrev pub by_turns_graph : List Node
by_turns_graph =
    node_with_parts 15 (codes "IDL:A:1.0") (codes "A" ∷ codes "bs" ∷ []) ([]) (1 ∷ [])
    ∷ node_with_parts 19 [] ([]) (pos 0 ∷ []) (2 ∷ [])
    ∷ node_with_parts 15 (codes "IDL:B:1.0") (codes "B" ∷ codes "as" ∷ codes "self" ∷ []) ([])
    (3 ∷ 4 ∷ [])
    ∷ node_with_parts 19 [] ([]) (pos 7 ∷ []) (0 ∷ [])
    ∷ node_with_parts 19 [] ([]) (pos 0 ∷ []) (2 ∷ []) ∷ []

-- an alias of itself
abbrev pub alias_of_itself_bytes : List ℕ
alias_of_itself_bytes =
    0 ∷ 0 ∷ 0 ∷ 21 ∷ 0 ∷ 0 ∷ 0 ∷ 36 ∷ 0 ∷ 0 ∷ 0 ∷ 0 ∷ 0 ∷ 0 ∷ 0 ∷ 10 ∷ 73 ∷ 68 ∷ 76 ∷ 58 ∷ 77 ∷ 58
    ∷ 49 ∷ 46 ∷ 48 ∷ 0 ∷ 0 ∷ 0 ∷ 0 ∷ 0 ∷ 0 ∷ 2 ∷ 77 ∷ 0 ∷ 0 ∷ 0 ∷ 255 ∷ 255 ∷ 255 ∷ 255 ∷ 255 ∷ 255
    ∷ 255 ∷ 216 ∷ []

-- an indirection to the place of another
abbrev pub to_another_indirection_bytes : List ℕ
to_another_indirection_bytes =
    0 ∷ 0 ∷ 0 ∷ 15 ∷ 0 ∷ 0 ∷ 0 ∷ 96 ∷ 0 ∷ 0 ∷ 0 ∷ 0 ∷ 0 ∷ 0 ∷ 0 ∷ 10 ∷ 73 ∷ 68 ∷ 76 ∷ 58 ∷ 83 ∷ 58
    ∷ 49 ∷ 46 ∷ 48 ∷ 0 ∷ 0 ∷ 0 ∷ 0 ∷ 0 ∷ 0 ∷ 2 ∷ 83 ∷ 0 ∷ 0 ∷ 0 ∷ 0 ∷ 0 ∷ 0 ∷ 3 ∷ 0 ∷ 0 ∷ 0 ∷ 2
    ∷ 97 ∷ 0 ∷ 0 ∷ 0 ∷ 0 ∷ 0 ∷ 0 ∷ 19 ∷ 0 ∷ 0 ∷ 0 ∷ 16 ∷ 0 ∷ 0 ∷ 0 ∷ 0 ∷ 255 ∷ 255 ∷ 255 ∷ 255 ∷ 255
    ∷ 255
    ∷ 255 ∷ 192 ∷ 0 ∷ 0 ∷ 0 ∷ 0 ∷ 0 ∷ 0 ∷ 0 ∷ 2 ∷ 98 ∷ 0 ∷ 0 ∷ 0 ∷ 255 ∷ 255 ∷ 255 ∷ 255 ∷ 255 ∷ 255
    ∷ 255 ∷ 220
    ∷ 0 ∷ 0 ∷ 0 ∷ 2 ∷ 99 ∷ 0 ∷ 0 ∷ 0 ∷ 255 ∷ 255 ∷ 255 ∷ 255 ∷ 255 ∷ 255 ∷ 255 ∷ 216 ∷ []

-- an indirection to where no kind stands
abbrev pub at_an_odd_place_bytes : List ℕ
at_an_odd_place_bytes =
    0 ∷ 0 ∷ 0 ∷ 15 ∷ 0 ∷ 0 ∷ 0 ∷ 68 ∷ 0 ∷ 0 ∷ 0 ∷ 0 ∷ 0 ∷ 0 ∷ 0 ∷ 10 ∷ 73 ∷ 68 ∷ 76 ∷ 58 ∷ 78 ∷ 58
    ∷ 49 ∷ 46 ∷ 48 ∷ 0 ∷ 0 ∷ 0 ∷ 0 ∷ 0 ∷ 0 ∷ 2 ∷ 78 ∷ 0 ∷ 0 ∷ 0 ∷ 0 ∷ 0 ∷ 0 ∷ 1 ∷ 0 ∷ 0 ∷ 0 ∷ 5
    ∷ 110 ∷ 101 ∷ 120 ∷ 116 ∷ 0 ∷ 0 ∷ 0 ∷ 0 ∷ 0 ∷ 0 ∷ 0 ∷ 19 ∷ 0 ∷ 0 ∷ 0 ∷ 16 ∷ 0 ∷ 0 ∷ 0 ∷ 0 ∷ 255
    ∷ 255 ∷ 255 ∷ 255 ∷ 255 ∷ 255 ∷ 255 ∷ 189 ∷ 0 ∷ 0 ∷ 0 ∷ 0 ∷ []

abbrev pub stands_in : Order → List ℕ → At
stands_in order rest = record { rest = rest; place = 0; origin = 0; order = order }

abbrev pub behind : Order → List ℕ → At
behind order rest = record { rest = []; place = length rest; origin = 0; order = order }

pub record WorkedOutermost : Type 0 where
  pub itself : (outer 16).format.reads (stands_in Big (n_bytes 188))
      ≡ Ok (code.Linked recursive_graph, behind Big (n_bytes 188))
  pub written : graph_piece 16 recursive_graph Big 0 ≡ n_bytes 188
  pub astray : (outer 16).format.reads (stands_in Big (n_bytes 192)) ≡ Err (fault.Indirection 64)
  pub shared_read : (outer 16).format.reads (stands_in Big shared_bytes)
      ≡ Ok (code.Linked shared_graph, behind Big shared_bytes)
  pub shared_written : graph_piece 16 shared_graph Big 0 ≡ shared_bytes
  pub by_turns_read : (outer 16).format.reads (stands_in Big by_turns_bytes)
      ≡ Ok (code.Linked by_turns_graph, behind Big by_turns_bytes)
  pub alias_of_itself_read : (outer 16).format.reads (stands_in Big alias_of_itself_bytes)
      ≡ Err (fault.BadValue 0)
  pub to_another : (outer 16).format.reads (stands_in Big to_another_indirection_bytes)
      ≡ Err (fault.Indirection 96)
  pub at_an_odd_place_read : (outer 16).format.reads (stands_in Big at_an_odd_place_bytes)
      ≡ Err (fault.Indirection 64)
