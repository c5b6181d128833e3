-- What is written of a TypeCode with indirections, part by part. Of the nodes so far it depends on where their kinds
-- stand alone.
use Rattle.std.proofs.Common.{◌≡◌, ℕ, ℤ, zero, suc, ◌+◌, ◌-◌, ◌^◌, cond, List, [], ◌∷◌, ◌++◌, length, map}
use Rattle.std.specs.Prelude.{nat_eq, min, slice_index, slice_get, take, pos, Option, Some, None, Result, OnOk, OnErr}
use Rattle.tc_graph.specs.declared.node.Node.{Node}
use Rattle.td_cdr.specs.declared.order.Order.{Order}
use Rattle.td_cdr.specs.Gap.{gap, flag}
use Rattle.td_cdr.specs.Writing.{Draft, written_octets}
use Rattle.td_cdr.specs.Format.{Piece, none, row, ◌then◌, number, text, nth}
use Rattle.td_typecode.specs.declared.code.TypeCode.TheOpen as c
use Rattle.td_typecode.specs.declared.kinds.CodeKind.{CodeKind}
use Rattle.td_typecode.specs.declared.kinds.CodeKind.TheVariants as kind
use Rattle.td_typecode.specs.Kinds.{indirection}
use Rattle.td_typecode.specs.Labels.{plain_piece}
use Rattle.td_typecode.specs.WritingCodes.{kind_piece, header_piece, head_piece}
use Rattle.td_typecode.specs.Known.{MemberNode, ArmNode, Numbers, KnownNode}
use Rattle.td_typecode.specs.GraphKnown.{kind_of_number, behind_first, arms_of, layer_in, switch_in}

-- by where the places of the present encapsulation begin, where the kinds of the nodes so far stand, the order and the
-- place: the bytes, and where kinds then stand
abbrev pub PlacedPiece : Type 0
PlacedPiece = ℕ → List ℕ → Order → ℕ → List ℕ × List ℕ

-- where the next unsigned long stands, counted as the places of kinds are
abbrev pub long_place : ℕ → ℕ → ℕ
long_place base place = base + (place + gap 4 place)

-- what is written without a node
abbrev pub plainly : Piece → PlacedPiece
plainly p base ps order place = (p order place, ps)

-- one piece, and another behind it
abbrev pub and_then : PlacedPiece → PlacedPiece → PlacedPiece
and_then t u base ps order place = (
  (t base ps order place).0
      ++ (u base (t base ps order place).1 order (place + length (t base ps order place).0)).0,
  (u base (t base ps order place).1 order (place + length (t base ps order place).0)).1,
)

abbrev pub placed_row : List PlacedPiece → PlacedPiece
placed_row [] = plainly none
placed_row (t ∷ ts) = and_then t (placed_row ts)

-- an encapsulation, in the order of what it stands in
abbrev pub enclosed_piece : PlacedPiece → PlacedPiece
enclosed_piece t base ps order place = (
  written_octets order place (flag order ∷ (t (long_place base place + 4) ps order 1).0),
  (t (long_place base place + 4) ps order 1).1,
)

-- an enumeration's id, name and names
abbrev pub enum_piece : List ℕ → List ℕ → List (List ℕ) → Piece
enum_piece id name names =
    header_piece id name then ((number 4).writes (length names) then row (map text.writes names))

-- ---- the parameters of a node; inner: what is written for an edge

module _ (inner : ℕ → PlacedPiece) where
  abbrev pub member_placed : MemberNode → PlacedPiece
  member_placed m = and_then (plainly (text.writes m.0)) (inner m.1)

  abbrev pub arm_placed : ArmNode → PlacedPiece
  arm_placed b = and_then (plainly (plain_piece b.0)) (member_placed b.1)

  abbrev pub row_of_members : List MemberNode → PlacedPiece
  row_of_members members = placed_row (map member_placed members)

  abbrev pub row_of_arms : List ArmNode → PlacedPiece
  row_of_arms arms = placed_row (map arm_placed arms)

  -- counted members
  abbrev pub members_placed : List MemberNode → PlacedPiece
  members_placed members = and_then (plainly ((number 4).writes (length members)))
      (row_of_members members)

  -- a header, and counted members
  abbrev pub fields_placed : List ℕ → List ℕ → List MemberNode → PlacedPiece
  fields_placed id name members = and_then (plainly (header_piece id name)) (members_placed members)

  -- a header, and an edge
  abbrev pub front_placed : List ℕ → List ℕ → ℕ → PlacedPiece
  front_placed id name item = and_then (plainly (header_piece id name)) (inner item)

  -- a default index, and counted arms
  abbrev pub arms_placed : ℤ → List ArmNode → PlacedPiece
  arms_placed default arms =
      and_then (plainly (head_piece default (length arms))) (row_of_arms arms)

  -- an edge, and a number
  abbrev pub items_placed : ℕ → ℕ → PlacedPiece
  items_placed item size = and_then (inner item) (plainly ((number 4).writes size))

  -- what stands in the encapsulation behind a kind; nothing where the kind has none
  abbrev pub inside_placed : Numbers → PlacedPiece
  inside_placed (c.TypeCode::ObjRef id name) = plainly (header_piece id name)
  inside_placed (c.TypeCode::Struct id name members) = fields_placed id name members
  inside_placed (c.Except id name members) = fields_placed id name members
  inside_placed (c.TypeCode::Union id name switch default arms) =
      and_then (front_placed id name switch) (arms_placed default arms)
  inside_placed (c.TypeCode::Enum id name names) = plainly (enum_piece id name names)
  inside_placed (c.Sequence item bound) = items_placed item bound
  inside_placed (c.Array item len) = items_placed item len
  inside_placed (c.Alias id name item) = front_placed id name item
  inside_placed l = plainly none

  abbrev pub layer_placed : Numbers → PlacedPiece
  layer_placed c.Null = plainly none
  layer_placed c.Void = plainly none
  layer_placed c.TypeCode::Short = plainly none
  layer_placed c.TypeCode::Long = plainly none
  layer_placed c.TypeCode::UShort = plainly none
  layer_placed c.TypeCode::ULong = plainly none
  layer_placed c.TypeCode::Boolean = plainly none
  layer_placed c.TypeCode::Char = plainly none
  layer_placed c.TypeCode::Octet = plainly none
  layer_placed c.AnyCode = plainly none
  layer_placed c.TypeCode::Code = plainly none
  layer_placed c.TypeCode::LongLong = plainly none
  layer_placed c.TypeCode::ULongLong = plainly none
  layer_placed (c.TypeCode::Str bound) = plainly ((number 4).writes bound)
  layer_placed (c.Linked graph) = plainly none
  layer_placed l = enclosed_piece (inside_placed l)

  abbrev pub known_placed : Option Numbers → PlacedPiece
  known_placed (Some l) = layer_placed l
  known_placed None = plainly none

-- ---- the nodes of a graph

-- the layer of a node of a graph
abbrev pub node_layer : List Node → Node → Numbers
node_layer g p = layer_in (switch_in g p) (kind_of_number p.kind) p

-- the arms of a union's node, under a discriminator of a kind
abbrev pub arms_in : CodeKind → Node → List ArmNode
arms_in switch p =
    arms_of switch (behind_first p.numbers) (behind_first p.names) (behind_first p.edges)

-- as many as labels, names behind its own and edges behind the discriminator's
abbrev pub arm_total : Node → ℕ
arm_total p = min (min (length p.numbers - 1) (length p.names - 1)) (length p.edges - 1)

-- an empty name stands for one that isn't there, and 0 for a number
abbrev pub name_or_empty : Option (List ℕ) → List ℕ
name_or_empty (Some name) = name
name_or_empty None = []

abbrev pub name_at : List (List ℕ) → ℕ → List ℕ
name_at names i = name_or_empty (slice_get names i)

abbrev pub integer_or_zero : Option ℤ → ℤ
integer_or_zero (Some z) = z
integer_or_zero None = pos 0

abbrev pub label_number_at : List ℤ → ℕ → ℤ
label_number_at numbers i = integer_or_zero (slice_get numbers i)

-- ---- edges

-- the kind of a node that begins
abbrev pub kind_placed : CodeKind → PlacedPiece
kind_placed k base ps order place = (kind_piece k order place, ps ++ long_place base place ∷ [])

-- the long that leads to a node
abbrev pub long_placed : ℕ → PlacedPiece
long_placed j base ps order place =
    ((number 4).writes (2 ^ 32 - (long_place base place - slice_index ps j)) order place, ps)

abbrev pub indirection_placed : ℕ → PlacedPiece
indirection_placed j = and_then (plainly ((number 4).writes indirection)) (long_placed j)

-- a node of a graph, spelled
abbrev pub node_placed : (ℕ → PlacedPiece) → List Node → Node → PlacedPiece
node_placed inner g p =
    and_then (kind_placed (kind_of_number p.kind)) (layer_placed inner (node_layer g p))

-- a node, or an indirection
abbrev pub node_or_indirection : (ℕ → PlacedPiece) → ℕ → Option KnownNode → PlacedPiece
node_or_indirection inner j (Some n) = and_then (kind_placed n.kind) (known_placed inner n.layer)
node_or_indirection inner j None = indirection_placed j

-- a node that has the next number is spelled, any other edge is an indirection
abbrev pub begins_at : List KnownNode → ℕ → List ℕ → Option KnownNode
begins_at graph j ps = cond (nat_eq j (length ps)) (nth graph j) None

abbrev pub edge_placed : ℕ → List KnownNode → ℕ → PlacedPiece
edge_placed zero graph j base ps = plainly (kind_piece kind.Null) base ps
edge_placed (suc levels) graph j base ps =
    node_or_indirection (edge_placed levels graph) j (begins_at graph j ps) base ps

-- ---- what was written

-- a piece was appended, and kinds then stand so; else some bytes may have been, behind those that were there
pub record PutsPlaced {E : Type 0} (p : PlacedPiece) (base : ℕ) (old new : List ℕ) (from to : Draft)
    (result : Result (Unit {0}) E) : Type 0 where
  pub done : OnOk result
      ((to.bytes ≡ from.bytes ++ (p base old from.order (length from.bytes)).0)
      × (new ≡ (p base old from.order (length from.bytes)).1))
  pub order : to.order ≡ from.order
  pub kept : OnErr result (take (length from.bytes) to.bytes ≡ from.bytes)
