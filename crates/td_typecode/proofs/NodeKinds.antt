-- What is read and written at a node of a kind that holds others.
use Rattle.std.proofs.Common.{◌≡◌, ℕ, ◌+◌, ◌<◌, ◌≤◌, Bool, true, false, Result, Ok, Err, List, [], ◌∷◌, ◌++◌, length, drop, map}
use Rattle.std.proofs.Common.{take, min, get_or, refl, ap, ◌∙◌, arith}
use Rattle.std.proofs.lemmas.List.{take_all}
use Rattle.std.specs.Prelude.{◌&&◌, nat_eq, nat_lt, Option, Some, None, if◌then◌else◌}
use Rattle.std.proofs.lemmas.Bool.{ltb-true}
use Rattle.td_cdr.specs.declared.value_fault.ValueFault.{ValueFault}
use Rattle.td_cdr.specs.declared.order.Order.{Order}
use Rattle.td_cdr.specs.Place.{At}
use Rattle.td_cdr.specs.Format.{Piece, Read, Gives, number, row, ◌then◌, upwards}
use Rattle.td_cdr.specs.Sound.{Sound, array}
use Rattle.td_cdr.specs.ValueFaults.{is_memory}
use Rattle.td_cdr.proofs.SequenceReading.{with_front}
use Rattle.td_cdr.proofs.SequenceWriting.{goes_on}
use Rattle.td_cdr.proofs.Unless.{unless-map}
use Rattle.tc_graph.specs.declared.node.Node.{Node}
use Rattle.tc_graph.specs.Nodes.{node_at}
use Rattle.td_typecode.specs.declared.code.Value.{Value, out-Value}
use Rattle.td_typecode.specs.declared.code.Value.TheVariants as value
use Rattle.tc_edges.specs.declared.edges.Edge.{Edge}
use Rattle.td_typecode.specs.declared.code.TypeCode.TheOpen as c
use Rattle.td_typecode.specs.declared.kinds.CodeKind.TheVariants as kind
use Rattle.tc_edges.specs.Edges.{edge_of}
use Rattle.td_typecode.specs.Labels.{plain_piece}
use Rattle.td_typecode.specs.Layers.{value-items, value-struct, value-union}
use Rattle.td_typecode.specs.NodeLabels.{node_labels}
use Rattle.td_typecode.specs.EdgeLayers.{EdgeLayer, first_ulong, bound_of, is_union, arm_count, default_number}
use Rattle.td_typecode.specs.NodeValues.{node_parts, chosen_arm, value_of_node}
use Rattle.td_typecode.specs.Outermost.{outer}
use Rattle.td_typecode.specs.ValueLayers.{union_value, union_piece}
use Rattle.td_typecode.specs.Values.{anys, behind, count_within, edge_values, node_kind, node_each, node_branch}
use Rattle.td_typecode.specs.Values.{node_branch_piece}
use Rattle.td_typecode.proofs.AtLayers.{pairs, pairs-at, pairs-length, each-row}
use Rattle.td_typecode.proofs.OfNodes.{default-back, upwards-length, upwards-is}
use Rattle.td_typecode.proofs.ReadParts.{each-goes-on, each-fails, each-done}

abbrev failed : {A : Type 0} → ValueFault → Result A ValueFault
failed e = Err e

both-first : (a b : Bool) → a && b ≡ true → a ≡ true
both-first true b h = refl
both-first false b h = cc

-- a union has an edge
pub union-edges : (p : Node) → is_union p ≡ true → 0 < length p.edges
union-edges p h =
    ltb-true 0 (length p.edges)
    (both-first (nat_lt 0 (length p.edges)) (nat_eq (length p.numbers) (length p.edges)) h)

module _ (levels : ℕ) (g : List Node) (n i : ℕ) where
  -- ---- unions

  abbrev union_at : Option ℕ → Sound ValueFault Value
  union_at d =
      union_value (node_parts levels g i) (anys levels) (outer levels) (edge_values levels g n) n (edge_of g i 0) d
      (upwards 0 (arm_count (node_at g i)))

  abbrev union_layer : EdgeLayer
  union_layer =
      c.TypeCode::Union (node_at g i).id [] (edge_of g i 0) (default_number (first_ulong (node_at g i).numbers))
      (upwards 0 (arm_count (node_at g i)))

  -- with whether it is one
  abbrev union_where : Bool → Sound ValueFault Value
  union_where b =
      value_of_node levels (anys levels) (outer levels) g (behind levels g) i (edge_values levels g n) n
      (if b then Some union_layer else None)

  abbrev default_arm_of : Option ℕ
  default_arm_of = first_ulong (node_at g i).numbers

  union-reads-at : is_union (node_at g i) ≡ true → (a : At)
      → (node_kind levels g n i kind.Union).format.reads a ≡ (union_at default_arm_of).format.reads a
  union-reads-at one a =
      ap (λ (b : Bool). (union_where b).format.reads a) one
      ∙ ap (λ (d : Option ℕ). (union_at d).format.reads a) (default-back default_arm_of)

  -- no discriminator is read
  pub union-labelless : is_union (node_at g i) ≡ true → (a new : At) (e : ValueFault)
      → Gives is_memory new (failed e) ((node_labels g levels n (edge_of g i 0)).format.reads a)
      → Gives is_memory new (failed e) ((node_kind levels g n i kind.Union).format.reads a)
  union-labelless one a new e = unless-map (is_memory e) _ _ (λ h. rw (union-reads-at one a, h) refl)

  -- behind the discriminator
  pub union-reads : is_union (node_at g i) ≡ true → (a b : At) (label : Value)
      → (node_labels g levels n (edge_of g i 0)).format.reads a ≡ Ok (label, b)
      → (node_kind levels g n i kind.Union).format.reads a
      ≡ (node_branch levels g n i label (chosen_arm (node_at g i) label)).format.reads b
  union-reads one a b label h = rw (union-reads-at one a, h) refl

  pub union-writes : is_union (node_at g i) ≡ true → (v : Value)
      → (node_kind levels g n i kind.Union).format.writes v
      ≡ union_piece (node_parts levels g i) (anys levels) (outer levels) (edge_values levels g n)
      (first_ulong (node_at g i).numbers) (upwards 0 (arm_count (node_at g i))) (out-Value v)
  union-writes one v =
      ap (λ (b : Bool). (union_where b).format.writes v) one
      ∙ ap (λ (d : Option ℕ). (union_at d).format.writes v) (default-back default_arm_of)

  -- what a union that is there is written as
  pub union-of : is_union (node_at g i) ≡ true → (label : Value) (arm : Option Value)
      → (node_kind levels g n i kind.Union).format.writes (value.Union label arm)
      ≡ plain_piece label then node_branch_piece levels g n i (chosen_arm (node_at g i) label) arm
  union-of one label arm = rw (union-writes one (value.Union label arm), value-union label arm) refl

  -- ---- sequences and arrays

  abbrev HasItem : Type 0
  HasItem = nat_lt 0 (length (node_at g i).edges) ≡ true

  abbrev item : Sound ValueFault Value
  item = edge_values levels g n (edge_of g i 0)

  pub sequence-countless : HasItem → (a new : At) (e : ValueFault)
      → Gives is_memory new (failed e) ((count_within (bound_of (node_at g i))).format.reads a)
      → Gives is_memory new (failed e) ((node_kind levels g n i kind.Sequence).format.reads a)
  sequence-countless some a new e = unless-map (is_memory e) _ _ (λ h. rw (some, h) refl)

  pub sequence-fails : HasItem → (a b new : At) (count : ℕ) (e : ValueFault)
      → (count_within (bound_of (node_at g i))).format.reads a ≡ Ok (count, b)
      → Gives is_memory new (failed e) ((array item count).format.reads b)
      → Gives is_memory new (failed e) ((node_kind levels g n i kind.Sequence).format.reads a)
  sequence-fails some a b new count e k = unless-map (is_memory e) _ _ (λ h. rw (some, k, h) refl)

  pub sequence-read : HasItem → (a b new : At) (count : ℕ) (vs : List Value)
      → (count_within (bound_of (node_at g i))).format.reads a ≡ Ok (count, b)
      → (array item count).format.reads b ≡ Ok (vs, new)
      → (node_kind levels g n i kind.Sequence).format.reads a ≡ Ok (value.Items vs, new)
  sequence-read some a b new count vs k h = rw (some, k, h) refl

  pub array-fails : HasItem → (a new : At) (e : ValueFault)
      → Gives is_memory new (failed e) ((array item (bound_of (node_at g i))).format.reads a)
      → Gives is_memory new (failed e) ((node_kind levels g n i kind.Array).format.reads a)
  array-fails some a new e = unless-map (is_memory e) _ _ (λ h. rw (some, h) refl)

  pub array-read : HasItem → (a new : At) (vs : List Value)
      → (array item (bound_of (node_at g i))).format.reads a ≡ Ok (vs, new)
      → (node_kind levels g n i kind.Array).format.reads a ≡ Ok (value.Items vs, new)
  array-read some a new vs h = rw (some, h) refl

  pub alias-writes : HasItem → (v : Value) → (node_kind levels g n i kind.Alias).format.writes v ≡ item.format.writes v
  alias-writes some v = rw some refl

  pub sequence-of : HasItem → (vs : List Value)
      → (node_kind levels g n i kind.Sequence).format.writes (value.Items vs)
      ≡ (number 4).writes (length vs) then row (map item.format.writes vs)
  sequence-of some vs = rw (some, value-items vs) refl

  pub array-of : HasItem → (vs : List Value)
      → (node_kind levels g n i kind.Array).format.writes (value.Items vs) ≡ row (map item.format.writes vs)
  array-of some vs = rw (some, value-items vs) refl

  -- ---- structures

  abbrev pub all_members : List ℕ
  all_members = upwards 0 (length (node_at g i).edges)

  -- the members' values from number m on, behind those in front
  abbrev pub from_member : List Value → ℕ → At → Read ValueFault (List Value)
  from_member front m a = with_front front ((node_each levels g n i (drop m all_members)).format.reads a)

  abbrev pub all_of_them : At → Read ValueFault (List Value)
  all_of_them a = (node_each levels g n i all_members).format.reads a

  pub member-read : (front : List Value) (m : ℕ) (start a b : At) (v : Value) → m < length (node_at g i).edges
      → (edge_values levels g n (edge_of g i m)).format.reads a ≡ Ok (v, b)
      → from_member front m a ≡ all_of_them start
      → from_member (front ++ v ∷ []) (m + 1) b ≡ all_of_them start
  member-read front m start a b v lt =
      each-goes-on (node_parts levels g i) (anys levels) (outer levels) (edge_values levels g n) front all_members m m a b v
      (all_of_them start) (omega (arith, lt, upwards-length 0 (length (node_at g i).edges)))
      (upwards-is (length (node_at g i).edges) m lt)

  pub member-fails : (front : List Value) (m : ℕ) (start a b : At) (e : ValueFault) → m < length (node_at g i).edges
      → Gives is_memory b (failed e) ((edge_values levels g n (edge_of g i m)).format.reads a)
      → from_member front m a ≡ all_of_them start
      → Gives is_memory b (failed e) ((node_kind levels g n i kind.Struct).format.reads start)
  member-fails front m start a b e lt h so_far =
      unless-map (is_memory e) _ _ (λ (k : all_of_them start ≡ failed e). rw k refl)
      (each-fails (node_parts levels g i) (anys levels) (outer levels) (edge_values levels g n) front all_members m m a b e
      (all_of_them start) (omega (arith, lt, upwards-length 0 (length (node_at g i).edges)))
      (upwards-is (length (node_at g i).edges) m lt) h so_far)

  pub members-read : (front : List Value) (m : ℕ) (start a : At) → length (node_at g i).edges ≤ m
      → from_member front m a ≡ all_of_them start
      → (node_kind levels g n i kind.Struct).format.reads start ≡ Ok (value.Struct front, a)
  members-read front m start a le so_far =
      let done =
      each-done (node_parts levels g i) (anys levels) (outer levels) (edge_values levels g n) front all_members m a
      (all_of_them start) (omega (arith, le, upwards-length 0 (length (node_at g i).edges))) so_far in
      rw done refl

  pub struct-of : (vs : List Value)
      → (node_kind levels g n i kind.Struct).format.writes (value.Struct vs)
      ≡ (node_each levels g n i all_members).format.writes vs
  struct-of vs = rw (value-struct vs) refl

  -- ---- the members' values, written

  abbrev pub member_values : List Value → List (Edge × Value)
  member_values vs = pairs (edge_of g i) all_members vs

  abbrev pub field_piece : Edge × Value → Piece
  field_piece p = (edge_values levels g n p.0).format.writes p.1

  pub fields-row : (vs : List Value) (order : Order) (place : ℕ)
      → (node_each levels g n i all_members).format.writes vs order place
      ≡ row (map field_piece (member_values vs)) order place
  fields-row vs =
      each-row (node_parts levels g i) (anys levels) (outer levels) (edge_values levels g n) all_members vs

  -- one member more
  pub field-put : (vs : List Value) (m : ℕ) (v : Value) (order : Order) (base now next : List ℕ)
      → m < length (node_at g i).edges → m < length vs → v ≡ get_or vs m v
      → now ≡ base ++ row (map field_piece (take m (member_values vs))) order (length base)
      → next ≡ now ++ field_piece (edge_of g i m, v) order (length now)
      → next ≡ base ++ row (map field_piece (take (m + 1) (member_values vs))) order (length base)
  field-put vs m v order base now next in_edges in_values is so_far step =
      let long = pairs-length (edge_of g i) all_members vs in
      let all = upwards-length 0 (length (node_at g i).edges) in
      let low : m < length (member_values vs) = omega (arith, long, all, in_edges, in_values) in
      let inside : m < length all_members = omega (arith, all, in_edges) in
      goes_on field_piece (member_values vs) m (edge_of g i m, v) order base now next low
      (pairs-at (edge_of g i) all_members vs m m v inside in_values (upwards-is (length (node_at g i).edges) m in_edges) is)
      so_far step

  -- all of them
  pub fields-put : (vs : List Value) (m : ℕ) (order : Order) (base now : List ℕ)
      → min (length (node_at g i).edges) (length vs) ≤ m
      → now ≡ base ++ row (map field_piece (take m (member_values vs))) order (length base)
      → now ≡ base ++ (node_each levels g n i all_members).format.writes vs order (length base)
  fields-put vs m order base now le so_far =
      let long = pairs-length (edge_of g i) all_members vs in
      let few = upwards-length 0 (length (node_at g i).edges) in
      let all : length (member_values vs) ≤ m = omega (arith, long, few, le) in
      rw (fields-row vs order (length base)) (rw (take_all m (member_values vs) all) at so_far)
