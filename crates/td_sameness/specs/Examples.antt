-- Worked examples: TypeCodes that are no graphs against graphs.
use Rattle.std.specs.Prelude.{◌≡◌, ℕ, pos, negsuc, true, false, List, [], ◌∷◌, codes}
use Rattle.tc_graph.specs.declared.node.Node.{Node}
use Rattle.tc_graph.specs.Examples.{n_id, recursive_graph, alias_of}
use Rattle.td_typecode.specs.declared.kinds.CodeKind.TheVariants as kind
use Rattle.td_typecode.specs.declared.label.Label.{Label}
use Rattle.td_typecode.specs.declared.label.Label.TheVariants.{Four}
use Rattle.td_typecode.specs.Same.{Shape, Component, like, alike_at, kind_shape, str_shape, fields_shape, union_shape}
use Rattle.td_typecode.specs.Same.{enum_shape}
use Rattle.td_typecode.specs.Same.{items_shape, graph_shape, entry_without_label}

-- ---- a structure of two members of one structure, which has a long

abbrev pub p_id : List ℕ
p_id = codes "IDL:P:1.0"

abbrev pub long_node : Node
long_node = record { kind = 3; id = []; names = []; numbers = []; edges = [] }

abbrev pub inner_node : ℕ → Node
inner_node place = record {
  kind = 15;
  id = p_id;
  names = codes "P" ∷ codes "a" ∷ [];
  numbers = [];
  edges = place ∷ [];
}

-- with both its members at one place
abbrev pub outer_node : ℕ → Node
outer_node place = record {
  kind = 15;
  id = [];
  names = codes "S" ∷ codes "x" ∷ codes "y" ∷ [];
  numbers = [];
  edges = place ∷ place ∷ [];
}

abbrev pub shared_graph : List Node
shared_graph = outer_node 1 ∷ inner_node 2 ∷ long_node ∷ []

-- the same with an alias in front of each
abbrev pub behind_aliases : List Node
behind_aliases = alias_of 1 ∷ outer_node 2 ∷ alias_of 3 ∷ inner_node 4 ∷ alias_of 5 ∷ long_node ∷ []

abbrev pub inner_code : List ℕ → Shape → Shape
inner_code id member = fields_shape kind.Struct id (entry_without_label member ∷ [])

abbrev pub outer_code : Shape → Shape → Shape
outer_code x y = fields_shape kind.Struct [] (entry_without_label x ∷ entry_without_label y ∷ [])

abbrev pub long_code : Shape
long_code = kind_shape kind.Long

-- ---- a union of two arms, by a long

abbrev pub union_node : (first second : ℕ) → Node
union_node first second = record {
  kind = 16;
  id = [];
  names = codes "U" ∷ codes "a" ∷ codes "b" ∷ [];
  numbers = negsuc 0 ∷ pos first ∷ pos second ∷ [];
  edges = 1 ∷ 1 ∷ 2 ∷ [];
}

abbrev pub union_graph : (first second : ℕ) → List Node
union_graph first second =
    union_node first second ∷ long_node
    ∷ record { kind = 18; id = []; names = []; numbers = pos 7 ∷ []; edges = [] } ∷ []

abbrev pub arm_at : Label → Shape → Component
arm_at label code = record { label = label ∷ []; shape = code }

abbrev pub union_code : (bound : ℕ) → Shape
union_code bound =
    union_shape [] long_code (negsuc 0)
    (arm_at (Four 1) long_code ∷ arm_at (Four 2) (str_shape bound) ∷ [])

-- ---- an enumeration of two names

abbrev pub enum_graph : List Node
enum_graph =
    record {
      kind = 17;
      id = [];
      names = codes "E" ∷ codes "A" ∷ codes "B" ∷ [];
      numbers = [];
      edges = [];
    } ∷ []

pub record WorkedSameness : Type 0 where
  -- how often it is unrolled doesn't count
  pub unrolled : alike_at shared_graph (outer_code (inner_code p_id long_code)
      (inner_code p_id long_code)) 0 ≡ true
  pub aliases : alike_at behind_aliases (outer_code (inner_code p_id long_code)
      (inner_code p_id long_code)) 0 ≡ true
  pub no_id : alike_at shared_graph (outer_code (inner_code p_id long_code)
      (inner_code [] long_code)) 0
      ≡ true
  pub other_id : alike_at shared_graph (outer_code (inner_code p_id long_code)
      (inner_code n_id long_code)) 0 ≡ false
  pub other_member :
      alike_at shared_graph (outer_code (inner_code p_id long_code)
      (inner_code p_id (kind_shape kind.Short))) 0 ≡ false
  pub fewer : alike_at shared_graph (inner_code [] (inner_code p_id long_code)) 0 ≡ false
  -- a type that holds itself is the same as none that comes to an end
  pub endless :
      alike_at recursive_graph (inner_code n_id
      (items_shape kind.Sequence (inner_code n_id (kind_shape kind.Long)) 0)) 0
      ≡ false
  pub labels : alike_at (union_graph 1 2) (union_code 7) 0 ≡ true
  pub other_label : alike_at (union_graph 1 3) (union_code 7) 0 ≡ false
  pub other_bound : alike_at (union_graph 1 2) (union_code 8) 0 ≡ false
  -- names of an enum don't count, and how many there are does
  pub names : alike_at enum_graph (enum_shape [] 2) 0 ≡ true
  pub count : alike_at enum_graph (enum_shape [] 3) 0 ≡ false
  -- a graph inside another TypeCode is the same as nothing
  pub inside : like (inner_code [] graph_shape) (inner_code [] graph_shape) ≡ false
