-- What the format of TypeCodes with indirections writes for a graph depends on where kinds stand alone: it is written
-- part by part as pieces that know these places.
use Rattle.std.proofs.Common.{◌≡◌, ℕ, ℤ, zero, suc, ◌+◌, Bool, true, false, cond, List, [], ◌∷◌, ◌++◌, length, map}
use Rattle.std.proofs.Common.{◌-◌, refl, sym, ap, subst, ◌∙◌}
use Rattle.std.specs.Prelude.{nat_eq, Option, Some, None, option_map}
use Rattle.std.proofs.lemmas.List.{append-nil, map-append, length-map}
use Rattle.tc_graph.specs.declared.node.Node.{Node}
use Rattle.td_cdr.specs.declared.order.Order.{Order}
use Rattle.td_cdr.specs.declared.value_fault.ValueFault.{ValueFault}
use Rattle.td_cdr.specs.declared.value_fault.ValueFault.TheVariants as fault
use Rattle.td_cdr.specs.Gap.{flag}
use Rattle.td_cdr.specs.Writing.{written_octets}
use Rattle.td_cdr.specs.Format.{Piece, none, none_or, number, text, nth}
use Rattle.td_cdr.specs.Sound.{Sound as Plain, constant, ulong, text as text_sound}
use Rattle.td_typecode.specs.declared.code.TypeCode.TheOpen as c
use Rattle.td_typecode.specs.declared.code.Value.{Value}
use Rattle.td_typecode.specs.declared.kinds.CodeKind.{CodeKind}
use Rattle.td_typecode.specs.declared.kinds.CodeKind.TheVariants as kind
use Rattle.td_typecode.specs.declared.mode.Mode.{Mode}
use Rattle.td_typecode.specs.declared.mode.Mode.TheVariants.{Inner, Switch}
use Rattle.td_indirection.specs.States.{slot, nodes, places, put, with_blank, with_node, inside_state, ulong_place}
use Rattle.td_indirection.specs.Stateful.{Sound, TaggedArm}
use Rattle.td_indirection.specs.Pairs.{lift, pair_on, ◌&◌}
use Rattle.td_indirection.specs.Variants.{variant, leaves_or, on_nodes}
use Rattle.td_indirection.specs.Choices.{array, sequence_with}
use Rattle.td_indirection.specs.Encapsulations.{encapsulation}
use Rattle.td_indirection.specs.Ulongs.{ulong-sized}
use Rattle.td_typecode.specs.Labels.{plain_piece}
use Rattle.td_typecode.specs.WritingCodes.{header_piece, kind_piece}
use Rattle.td_typecode.specs.Codes.{header, positive, head}
use Rattle.td_typecode.specs.Kinds.{under}
use Rattle.td_typecode.specs.Known.{MemberNode, ArmNode, Numbers, KnownNode, KnownState, KnownSlot, unread_node}
use Rattle.td_typecode.specs.Known.{layer_of}
use Rattle.td_typecode.specs.Known.{chain_under}
use Rattle.td_typecode.specs.GraphCodes.{labels_of, node_labels, nonempty, member_node, arm_node, counted_arms}
use Rattle.td_typecode.specs.GraphCodes.{union_layer, alias_layer, parameters, edges}
use Rattle.td_typecode.specs.GraphCodes.{enum_parameters, kind_of_node, behind, behind_kind, kind_or_indirection}
use Rattle.tc_graph.specs.Nodes.{edge}
use Rattle.td_typecode.specs.GraphKnown.{layer_in, known_in, known_of, switch_in, kind_of_number, own_name}
use Rattle.td_typecode.specs.GraphKnown.{behind_first}
use Rattle.td_typecode.specs.GraphKnown.{natural, number_or_zero, members_of, arms_of}
use Rattle.td_typecode.specs.NodeWriting.{PlacedPiece, plainly, and_then, placed_row, enclosed_piece, member_placed}
use Rattle.td_typecode.specs.NodeWriting.{arm_placed, fields_placed, front_placed, arms_placed, items_placed}
use Rattle.td_typecode.specs.NodeWriting.{layer_placed}
use Rattle.td_typecode.specs.NodeWriting.{node_or_indirection}
use Rattle.td_typecode.specs.NodeWriting.{begins_at, edge_placed}

-- what a format writes for a value of a graph is a placed piece
pub record IsPlaced {X : Type 0} (t : Sound ValueFault KnownNode X) (graph : List KnownNode) (x : X)
    (p : PlacedPiece) : Type 0 where
  pub writes : (s : KnownState) (order : Order) (place : ℕ)
      → t.format.writes graph s x order place ≡ (p s.base (places s) order place).0
  pub leaves : (s : KnownState) (order : Order) (place : ℕ)
      → places (t.format.leaves graph s x order place) ≡ (p s.base (places s) order place).1
  pub base : (s : KnownState) (order : Order) (place : ℕ)
      → (t.format.leaves graph s x order place).base ≡ s.base

lift-placed : {X : Type 0} (g : Plain ValueFault X) (graph : List KnownNode) (x : X)
    → IsPlaced (lift g) graph x (plainly (g.format.writes x))
lift-placed g graph x = record {
  writes = λ s order place. refl;
  leaves = λ s order place. refl;
  base = λ s order place. refl;
}

pair-placed : {X Y : Type 0} (t : Sound ValueFault KnownNode X) (u : X → Sound ValueFault KnownNode Y)
    (graph : List KnownNode) (x : X) (y : Y) (p q : PlacedPiece) → IsPlaced t graph x p
    → IsPlaced (u x) graph y q → IsPlaced (pair_on t u) graph (x, y) (and_then p q)
pair-placed t u graph x y p q one two = record {
  writes = λ s order place.
      let front = t.format.writes graph s x order place in
      let mid = t.format.leaves graph s x order place in
      ap (λ (b : List ℕ). front ++ b) (two.writes mid order (place + length front))
      ∙ ap (λ (n : ℕ). front ++ (q n (places mid) order (place + length front)).0) (one.base s order place)
      ∙ ap (λ (ps : List ℕ). front ++ (q s.base ps order (place + length front)).0) (one.leaves s order place)
      ∙ ap (λ (b : List ℕ). b ++ (q s.base (p s.base (places s) order place).1 order (place + length b)).0)
      (one.writes s order place);
  leaves = λ s order place.
      let front = t.format.writes graph s x order place in
      let mid = t.format.leaves graph s x order place in
      two.leaves mid order (place + length front)
      ∙ ap (λ (n : ℕ). (q n (places mid) order (place + length front)).1) (one.base s order place)
      ∙ ap (λ (ps : List ℕ). (q s.base ps order (place + length front)).1) (one.leaves s order place)
      ∙ ap (λ (b : List ℕ). (q s.base (p s.base (places s) order place).1 order (place + length b)).1)
      (one.writes s order place);
  base = λ s order place.
      two.base (t.format.leaves graph s x order place) order
      (place + length (t.format.writes graph s x order place))
      ∙ one.base s order place;
}

variant-placed : {X Y : Type 0} (to : X → Y) (from : Y → Option X)
    (back : (x : X) → from (to x) ≡ Some x) (t : Sound ValueFault KnownNode X) (graph : List KnownNode)
    (x : X) (y : Y) (p : PlacedPiece) → from y ≡ Some x → IsPlaced t graph x p
    → IsPlaced (variant to from back t) graph y p
variant-placed {X = X} to from back t graph x y p is one = record {
  writes = λ s order place.
      ap (λ (o : Option X). none_or (t.format.writes graph s) o order place) is ∙ one.writes s order place;
  leaves = λ s order place.
      ap (λ (o : Option X). places (leaves_or (λ z. t.format.leaves graph s z order place) s o)) is
      ∙ one.leaves s order place;
  base = λ s order place.
      ap (λ (o : Option X). (leaves_or (λ z. t.format.leaves graph s z order place) s o).base) is
      ∙ one.base s order place;
}

-- whatever the nodes so far are
nodes-placed : {X : Type 0} (f : List KnownNode → Sound ValueFault KnownNode X) (graph : List KnownNode) (x : X)
    (p : PlacedPiece) → ((ns : List KnownNode) → IsPlaced (f ns) graph x p) → IsPlaced (on_nodes f) graph x p
nodes-placed f graph x p each = record {
  writes = λ s order place. (each (nodes s)).writes s order place;
  leaves = λ s order place. (each (nodes s)).leaves s order place;
  base = λ s order place. (each (nodes s)).base s order place;
}

within-placed : {X : Type 0} (t : Sound ValueFault KnownNode X) (graph : List KnownNode) (x : X)
    (p : PlacedPiece) → IsPlaced t graph x p → IsPlaced (encapsulation fault.Cdr t) graph x (enclosed_piece p)
within-placed t graph x p one = record {
  writes = λ s order place.
      ap (λ (b : List ℕ). written_octets order place (flag order ∷ b))
      (one.writes (inside_state s place) order 1);
  leaves = λ s order place. one.leaves (inside_state s place) order 1;
  base = λ s order place. refl;
}

array-placed : {X : Type 0} (t : Sound ValueFault KnownNode X) (graph : List KnownNode) (p : X → PlacedPiece)
    → ((x : X) → IsPlaced t graph x (p x)) → (xs : List X)
    → IsPlaced (array t (length xs)) graph xs (placed_row (map p xs))
array-placed t graph p each [] = record {
  writes = λ s order place. refl;
  leaves = λ s order place. refl;
  base = λ s order place. refl;
}
array-placed t graph p each (x ∷ xs) =
    let both = pair-placed t (λ _. array t (length xs)) graph x xs (p x) (placed_row (map p xs)) (each x)
    (array-placed t graph p each xs) in
    record { writes = both.writes; leaves = both.leaves; base = both.base }

-- a count, and so many items
sequence-placed : {X : Type 0} (t : Sound ValueFault KnownNode X) (graph : List KnownNode)
    (p : X → PlacedPiece) → ((x : X) → IsPlaced t graph x (p x)) → (xs : List X)
    → IsPlaced (sequence_with ulong ulong-sized t) graph xs
    (and_then (plainly ((number 4).writes (length xs))) (placed_row (map p xs)))
sequence-placed t graph p each xs =
    let items = array-placed t graph p each xs in
    record {
      writes = λ s order place.
          ap (λ (b : List ℕ). ulong.format.writes (length xs) order place ++ b)
          (items.writes s order (place + length (ulong.format.writes (length xs) order place)));
      leaves = λ s order place.
          items.leaves s order (place + length (ulong.format.writes (length xs) order place));
      base = λ s order place.
          items.base s order (place + length (ulong.format.writes (length xs) order place));
    }

-- a label is written alike whatever discriminates
label-written : (inner : ℕ → Plain ValueFault Value) (v : Value) (order : Order) (place : ℕ)
    → ((j : ℕ) → (inner j).format.writes v order place ≡ plain_piece v order place)
    → (o : Option Numbers) → (labels_of inner o).format.writes v order place ≡ plain_piece v order place
label-written inner v order place h None = refl
label-written inner v order place h (Some (c.Alias id name item)) = h item
label-written inner v order place h (Some c.TypeCode::Short) = refl
label-written inner v order place h (Some c.TypeCode::Long) = refl
label-written inner v order place h (Some c.TypeCode::UShort) = refl
label-written inner v order place h (Some c.TypeCode::ULong) = refl
label-written inner v order place h (Some c.TypeCode::LongLong) = refl
label-written inner v order place h (Some c.TypeCode::ULongLong) = refl
label-written inner v order place h (Some c.TypeCode::Boolean) = refl
label-written inner v order place h (Some c.TypeCode::Char) = refl
label-written inner v order place h (Some (c.TypeCode::Enum id name names)) = refl
label-written inner v order place h (Some l) = refl

labels-written : (n : ℕ) (ns : List KnownNode) (j : ℕ) (v : Value) (order : Order) (place : ℕ)
    → (node_labels n ns j).format.writes v order place ≡ plain_piece v order place
labels-written zero ns j v order place = refl
labels-written (suc n) ns j v order place =
    label-written (node_labels n ns) v order place
    (λ i. labels-written n ns i v order place) (layer_of (nth ns j))

-- ---- parameters; one: what is written for an edge

module _ (inner : Mode → Option ℕ → Sound ValueFault KnownNode ℕ) (graph : List KnownNode)
    (one : ℕ → PlacedPiece)
    (each : (mode : Mode) (chain : Option ℕ) (j : ℕ) → IsPlaced (inner mode chain) graph j (one j)) where
  member-placed : (m : MemberNode) → IsPlaced (member_node inner) graph m (member_placed one m)
  member-placed m =
      pair-placed (lift text_sound) (λ _. inner Inner None) graph m.0 m.1 (plainly (text.writes m.0))
      (one m.1) (lift-placed text_sound graph m.0) (each Inner None m.1)

  front-placed : (mode : Mode) (chain : Option ℕ) (id name : List ℕ) (item : ℕ)
      → IsPlaced (lift header & inner mode chain) graph ((id, name), item) (front_placed one id name item)
  front-placed mode chain id name item =
      pair-placed (lift header) (λ _. inner mode chain) graph (id, name) item
      (plainly (header_piece id name)) (one item) (lift-placed header graph (id, name)) (each mode chain item)

  fields-placed : (id name : List ℕ) (ms : List MemberNode)
      → IsPlaced (lift header & sequence_with ulong ulong-sized (member_node inner)) graph ((id, name), ms)
      (fields_placed one id name ms)
  fields-placed id name ms =
      pair-placed (lift header) (λ _. sequence_with ulong ulong-sized (member_node inner)) graph (id, name) ms
      (plainly (header_piece id name))
      (and_then (plainly ((number 4).writes (length ms))) (placed_row (map (member_placed one) ms)))
      (lift-placed header graph (id, name))
      (sequence-placed (member_node inner) graph (member_placed one) member-placed ms)

  some-fields-placed : (id name : List ℕ) (ms : List MemberNode)
      → IsPlaced (lift header & nonempty (sequence_with ulong ulong-sized (member_node inner))) graph
      ((id, name), ms) (fields_placed one id name ms)
  some-fields-placed id name ms =
      let all = fields-placed id name ms in
      record { writes = all.writes; leaves = all.leaves; base = all.base }

  -- a label of a union, whatever discriminates
  arm-placed : (label : Plain ValueFault Value)
      → ((v : Value) (order : Order) (place : ℕ) → label.format.writes v order place ≡ plain_piece v order place)
      → (b : ArmNode) → IsPlaced (arm_node inner label) graph b (arm_placed one b)
  arm-placed label h b =
      let front : IsPlaced (lift label) graph b.0 (plainly (plain_piece b.0)) =
      record {
        writes = λ s order place. h b.0 order place;
        leaves = λ s order place. refl;
        base = λ s order place. refl;
      } in
      pair-placed (lift label) (λ _. member_node inner) graph b.0 b.1 (plainly (plain_piece b.0))
      (member_placed one b.1) front (member-placed b.1)

  arms-placed : (label : Plain ValueFault Value)
      → ((v : Value) (order : Order) (place : ℕ) → label.format.writes v order place ≡ plain_piece v order place)
      → (default : ℤ) (bs : List ArmNode)
      → IsPlaced (counted_arms inner label) graph (default, bs) (arms_placed one default bs)
  arms-placed label h default bs =
      let items = array-placed (arm_node inner label) graph (arm_placed one) (arm-placed label h) bs in
      let front = head.format.writes (default, length bs) in
      record {
        writes = λ s order place.
            ap (λ (b : List ℕ). front order place ++ b)
            (items.writes s order (place + length (front order place)));
        leaves = λ s order place. items.leaves s order (place + length (front order place));
        base = λ s order place. items.base s order (place + length (front order place));
      }

  union-placed : (id name : List ℕ) (switch : ℕ) (default : ℤ) (bs : List ArmNode)
      → IsPlaced (union_layer inner) graph (c.TypeCode::Union id name switch default bs)
      (and_then (front_placed one id name switch) (arms_placed one default bs))
  union-placed id name switch default bs =
      let label : List KnownNode → Plain ValueFault Value = λ ns. node_labels (suc (length ns)) ns switch in
      let front = front-placed Switch None id name switch in
      let arms = nodes-placed (λ ns. counted_arms inner (label ns)) graph (default, bs)
      (arms_placed one default bs)
      (λ ns. arms-placed (label ns) (λ v order place. labels-written (suc (length ns)) ns switch v order place) default
      bs) in
      let both = pair-placed (lift header & inner Switch None)
      (λ p. on_nodes (λ ns. counted_arms inner (node_labels (suc (length ns)) ns p.1))) graph ((id, name), switch)
      (default, bs) (front_placed one id name switch) (arms_placed one default bs) front arms in
      variant-placed _ _ _ _ graph (((id, name), switch), (default, bs)) _ _ refl both

  items-placed : (item size : ℕ)
      → IsPlaced (inner Inner None & lift ulong) graph (item, size) (items_placed one item size)
  items-placed item size =
      pair-placed (inner Inner None) (λ _. lift ulong) graph item size (one item)
      (plainly ((number 4).writes size)) (each Inner None item) (lift-placed ulong graph size)

  sized-placed : (item size : ℕ)
      → IsPlaced (inner Inner None & lift positive) graph (item, size) (items_placed one item size)
  sized-placed item size =
      let all = items-placed item size in
      record { writes = all.writes; leaves = all.leaves; base = all.base }

  alias-placed : (mode : Mode) (chain : Option ℕ) (own : ℕ) (id name : List ℕ) (item : ℕ)
      → IsPlaced (encapsulation fault.Cdr (alias_layer inner mode chain own)) graph (c.Alias id name item)
      (enclosed_piece (front_placed one id name item))
  alias-placed mode chain own id name item =
      let on = chain_under chain own in
      let all = within-placed (lift header & inner (under mode) on) graph ((id, name), item)
      (front_placed one id name item) (front-placed (under mode) on id name item) in
      record { writes = all.writes; leaves = all.leaves; base = all.base }

  -- of a kind that has none
  leaf-placed : (l : Numbers) → IsPlaced (lift (constant l)) graph l (plainly none)
  leaf-placed l = record {
    writes = λ s order place. refl;
    leaves = λ s order place. refl;
    base = λ s order place. refl;
  }

  pub parameters-placed : (mode : Mode) (chain : Option ℕ) (switch k : CodeKind) (p : Node)
      → IsPlaced (parameters inner mode chain k) graph (layer_in switch k p)
      (layer_placed one (layer_in switch k p))
  parameters-placed mode chain switch kind.Null p = leaf-placed c.Null
  parameters-placed mode chain switch kind.Void p = leaf-placed c.Void
  parameters-placed mode chain switch kind.Short p = leaf-placed c.TypeCode::Short
  parameters-placed mode chain switch kind.Long p = leaf-placed c.TypeCode::Long
  parameters-placed mode chain switch kind.UShort p = leaf-placed c.TypeCode::UShort
  parameters-placed mode chain switch kind.ULong p = leaf-placed c.TypeCode::ULong
  parameters-placed mode chain switch kind.Boolean p = leaf-placed c.TypeCode::Boolean
  parameters-placed mode chain switch kind.Char p = leaf-placed c.TypeCode::Char
  parameters-placed mode chain switch kind.Octet p = leaf-placed c.TypeCode::Octet
  parameters-placed mode chain switch kind.AnyCode p = leaf-placed c.AnyCode
  parameters-placed mode chain switch kind.Code p = leaf-placed c.TypeCode::Code
  parameters-placed mode chain switch kind.LongLong p = leaf-placed c.TypeCode::LongLong
  parameters-placed mode chain switch kind.ULongLong p = leaf-placed c.TypeCode::ULongLong
  parameters-placed mode chain switch kind.Str p =
      let all = lift-placed ulong graph (natural (number_or_zero p.numbers)) in
      record { writes = all.writes; leaves = all.leaves; base = all.base }
  parameters-placed mode chain switch kind.ObjRef p =
      let x : List ℕ × List ℕ = (p.id, own_name p.names) in
      let all = within-placed (lift header) graph x (plainly (header.format.writes x)) (lift-placed header graph x) in
      record { writes = all.writes; leaves = all.leaves; base = all.base }
  parameters-placed mode chain switch kind.Enum p =
      let x : (List ℕ × List ℕ) × List (List ℕ) = ((p.id, own_name p.names), behind_first p.names) in
      let all = within-placed (lift enum_parameters) graph x (plainly (enum_parameters.format.writes x))
      (lift-placed enum_parameters graph x) in
      record { writes = all.writes; leaves = all.leaves; base = all.base }
  parameters-placed mode chain switch kind.Struct p =
      let id = p.id in
      let name = own_name p.names in
      let ms = members_of (behind_first p.names) p.edges in
      let all = within-placed (lift header & nonempty (sequence_with ulong ulong-sized (member_node inner))) graph
      ((id, name), ms) (fields_placed one id name ms) (some-fields-placed id name ms) in
      record { writes = all.writes; leaves = all.leaves; base = all.base }
  parameters-placed mode chain switch kind.Except p =
      let id = p.id in
      let name = own_name p.names in
      let ms = members_of (behind_first p.names) p.edges in
      let all = within-placed (lift header & sequence_with ulong ulong-sized (member_node inner)) graph
      ((id, name), ms) (fields_placed one id name ms) (fields-placed id name ms) in
      record { writes = all.writes; leaves = all.leaves; base = all.base }
  parameters-placed mode chain switch kind.Union p =
      let id = p.id in
      let name = own_name p.names in
      let default = number_or_zero p.numbers in
      let bs = arms_of switch (behind_first p.numbers) (behind_first p.names) (behind_first p.edges) in
      within-placed (union_layer inner) graph (c.TypeCode::Union id name (edge p 0) default bs)
      (and_then (front_placed one id name (edge p 0)) (arms_placed one default bs))
      (union-placed id name (edge p 0) default bs)
  parameters-placed mode chain switch kind.Sequence p =
      let size = natural (number_or_zero p.numbers) in
      let all = within-placed (inner Inner None & lift ulong) graph (edge p 0, size) (items_placed one (edge p 0) size)
      (items-placed (edge p 0) size) in
      record { writes = all.writes; leaves = all.leaves; base = all.base }
  parameters-placed mode chain switch kind.Array p =
      let size = natural (number_or_zero p.numbers) in
      let all = within-placed (inner Inner None & lift positive) graph (edge p 0, size)
      (items_placed one (edge p 0) size) (sized-placed (edge p 0) size) in
      record { writes = all.writes; leaves = all.leaves; base = all.base }
  parameters-placed mode chain switch kind.Alias p =
      let id = p.id in
      let name = own_name p.names in
      nodes-placed (λ ns. encapsulation fault.Cdr (alias_layer inner mode chain (length ns - 1))) graph
      (c.Alias id name (edge p 0)) (enclosed_piece (front_placed one id name (edge p 0)))
      (λ ns. alias-placed mode chain (length ns - 1) id name (edge p 0))

-- ---- edges

put-places : (xs : List KnownSlot) (n : ℕ) (v : KnownNode)
    → map (λ (x : KnownSlot). x.place) (put xs n v) ≡ map (λ (x : KnownSlot). x.place) xs
put-places [] n v = refl
put-places (x ∷ xs) zero v = refl
put-places (x ∷ xs) (suc n) v = ap (λ (ps : List ℕ). x.place ∷ ps) (put-places xs n v)

nth-map : {X Y : Type 0} (f : X → Y) (xs : List X) (i : ℕ) → nth (map f xs) i ≡ option_map f (nth xs i)
nth-map f [] i = refl
nth-map f (x ∷ xs) zero = refl
nth-map f (x ∷ xs) (suc i) = nth-map f xs i

module _ (levels : ℕ) (g : List Node)
    (each : (mode : Mode) (chain : Option ℕ) (j : ℕ)
    → IsPlaced (edges levels mode chain) (known_of g) j (edge_placed levels (known_of g) j)) (mode : Mode)
    (chain : Option ℕ) (j : ℕ) where
  abbrev graph : List KnownNode
  graph = known_of g

  abbrev inner : ℕ → PlacedPiece
  inner = edge_placed levels graph

  abbrev Arms : Option CodeKind → TaggedArm ValueFault KnownNode ℕ
  Arms = behind (edges levels) mode chain

  abbrev tag_writes : Option CodeKind → Piece
  tag_writes k = (kind_or_indirection mode).format.writes k

  -- what is written behind a tag, and where kinds then stand
  abbrev Behind : KnownState → Order → ℕ → Option CodeKind → PlacedPiece → Type 0
  Behind s order place k p =
      (tag_writes k order place
      ++ (Arms k).format.writes (ulong_place s place) graph s j order
      (place + length (tag_writes k order place)) ≡ (p s.base (places s) order place).0)
      × (places ((Arms k).format.leaves (ulong_place s place) graph s j order
      (place + length (tag_writes k order place))) ≡ (p s.base (places s) order place).1)
      × (((Arms k).format.leaves (ulong_place s place) graph s j order
      (place + length (tag_writes k order place))).base ≡ s.base)

  node-behind : (p : Node) (s : KnownState) (order : Order) (place : ℕ) → nth graph j ≡ Some (known_in g p)
      → Behind s order place (Some (kind_of_number p.kind))
      (node_or_indirection inner j (Some (known_in g p)))
  node-behind p s order place is =
      let k = kind_of_number p.kind in
      let l = layer_in (switch_in g p) k p in
      let front = tag_writes (Some k) order place in
      let on = place + length front in
      let start = with_blank (unread_node k) (ulong_place s place) s in
      let t = behind_kind (edges levels) mode chain k in
      let whole = parameters-placed (edges levels) graph inner each mode chain (switch_in g p) k p in
      let there : places start ≡ places s ++ ulong_place s place ∷ [] =
      map-append (λ (x : KnownSlot). x.place) s.table (slot (ulong_place s place) (unread_node k) ∷ []) in (
        ap (λ (o : Option KnownNode). front ++ none_or (t.format.writes graph start) o order on) is
            ∙ ap (λ (b : List ℕ). front ++ b) (whole.writes start order on)
            ∙ ap (λ (ps : List ℕ). front ++ (layer_placed inner l s.base ps order on).0) there,
        ap
            (λ (o : Option KnownNode).
            places
            (leaves_or (λ n. with_node (t.format.leaves graph start n order on) (length s.table) n) s o)) is
            ∙ put-places (t.format.leaves graph start (known_in g p) order on).table (length s.table) (known_in g p)
            ∙ whole.leaves start order on
            ∙ ap (λ (ps : List ℕ). (layer_placed inner l s.base ps order on).1) there,
        ap
            (λ (o : Option KnownNode).
            (leaves_or (λ n. with_node (t.format.leaves graph start n order on) (length s.table) n) s o).base) is
            ∙ whole.base start order on,
      )

  indirection-behind : (s : KnownState) (order : Order) (place : ℕ)
      → Behind s order place None (node_or_indirection inner j None)
  indirection-behind s order place = (refl, refl, refl)

  content-places : (s : KnownState) (b : Bool) (o : Option KnownNode) (order : Order) (place : ℕ)
      → nth graph j ≡ o → ((n : KnownNode) → o ≡ Some n → (p : Node) × (n ≡ known_in g p))
      → Behind s order place (cond b (option_map (λ n. n.kind) o) None)
      (node_or_indirection inner j (cond b o None))
  content-places s true (Some n) order place is known_there =
      let p = known_there n refl in
      subst (λ (m : KnownNode). Behind s order place (Some m.kind) (node_or_indirection inner j (Some m))) (sym p.1)
      (node-behind p.0 s order place (is ∙ ap (λ (m : KnownNode). Some m) p.1))
  content-places s true None order place is known_there = indirection-behind s order place
  content-places s false o order place is known_there = indirection-behind s order place

  known-there : (ps : List Node) (i : ℕ) (n : KnownNode) → option_map (known_in g) (nth ps i) ≡ Some n
      → (p : Node) × (n ≡ known_in g p)
  known-there [] i n e = absurd (let none : ⊥ = cc (e) in none)
  known-there (p ∷ ps) zero n e = (p, let same : n ≡ known_in g p = cc (e) in same)
  known-there (p ∷ ps) (suc i) n e = known-there ps i n e

  content-all : (s : KnownState) (order : Order) (place : ℕ)
      → Behind s order place (kind_of_node graph s j) (node_or_indirection inner j (begins_at graph j (places s)))
  content-all s order place =
      let long : length (places s) ≡ length s.table = length-map s.table (λ x. x.place) in
      let there = content-places s (nat_eq j (length (places s))) (nth graph j) order place refl
      (λ n e. known-there g j n (sym (nth-map (known_in g) g j) ∙ e)) in
      subst
      (λ (n : ℕ).
      Behind s order place (cond (nat_eq j n) (option_map (λ (k : KnownNode). k.kind) (nth graph j)) None)
      (node_or_indirection inner j (begins_at graph j (places s))))
      long there

pub edges-placed : (levels : ℕ) (g : List Node) (mode : Mode) (chain : Option ℕ) (j : ℕ)
    → IsPlaced (edges levels mode chain) (known_of g) j (edge_placed levels (known_of g) j)
edges-placed zero g mode chain j = record {
  writes = λ s order place. append-nil (kind_piece kind.Null order place);
  leaves = λ s order place. refl;
  base = λ s order place. refl;
}
edges-placed (suc levels) g mode chain j =
    let all = content-all levels g (edges-placed levels g) mode chain j in
    record {
      writes = λ s order place. (all s order place).0;
      leaves = λ s order place. (all s order place).1;
      base = λ s order place. (all s order place).2;
    }
