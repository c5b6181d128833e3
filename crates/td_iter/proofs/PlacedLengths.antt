-- How long what is written of a TypeCode with indirections is, at any place and in either order: which of its edges
-- are indirections depends on how many nodes were begun, and not on where.
use Rattle.std.proofs.Common.{◌≡◌, ℕ, zero, suc, ◌+◌, ◌-◌, ◌*◌, ◌^◌, ◌≤◌, cond, List, [], ◌∷◌, length, map, refl, sym, ap, subst}
use Rattle.std.proofs.Common.{arith, length-append}
use Rattle.std.specs.Prelude.{nat_eq, slice_index, Option, Some, None}
use Rattle.td_cdr.specs.declared.order.Order.{Order}
use Rattle.td_cdr.specs.Gap.{flag}
use Rattle.td_cdr.specs.Format.{Piece, none, row, ◌then◌, number, text, nth}
use Rattle.td_indirection.specs.States.{empty}
use Rattle.tc_graph.specs.declared.node.Node.{Node}
use Rattle.td_typecode.specs.declared.code.TypeCode.TheOpen as c
use Rattle.td_typecode.specs.declared.kinds.CodeKind.{CodeKind}
use Rattle.td_typecode.specs.declared.kinds.CodeKind.TheVariants as kind
use Rattle.td_typecode.specs.declared.mode.Mode.TheVariants.{Outer}
use Rattle.td_typecode.specs.Kinds.{number_of, indirection}
use Rattle.td_typecode.specs.Labels.{plain_piece}
use Rattle.td_typecode.specs.WritingCodes.{header_piece, head_piece}
use Rattle.std.specs.Int.{w32, cast_unsigned}
use Rattle.td_typecode.specs.Known.{KnownNode, MemberNode, ArmNode, Numbers}
use Rattle.td_typecode.specs.GraphKnown.{known_of}
use Rattle.td_typecode.specs.NodeWriting.{PlacedPiece, plainly, and_then, placed_row, enclosed_piece, long_place}
use Rattle.td_typecode.specs.NodeWriting.{enum_piece}
use Rattle.td_typecode.specs.NodeWriting.{member_placed, arm_placed, members_placed, fields_placed, front_placed}
use Rattle.td_typecode.specs.NodeWriting.{arms_placed}
use Rattle.td_typecode.specs.NodeWriting.{items_placed, inside_placed, layer_placed, known_placed, kind_placed}
use Rattle.td_typecode.specs.NodeWriting.{long_placed}
use Rattle.td_typecode.specs.NodeWriting.{node_or_indirection, begins_at, edge_placed}
use Rattle.td_typecode.specs.Outermost.{graph_piece}
use Rattle.td_typecode.proofs.PlacedPieces.{edges-placed}
use Rattle.td_iter.proofs.Lengths.{Steady, four-steady, none-steady, then-steady, rows-steady, text-steady, plain-steady}
use Rattle.td_iter.proofs.Lengths.{number-length, octets-length}

-- wherever so many nodes were begun, at most twice as long as elsewhere, with as many nodes begun behind it
record IsSteady (t : PlacedPiece) : Type 0 where
  long : (a b : ℕ) (ps qs : List ℕ) (o u : Order) (place base : ℕ) → length ps ≡ length qs
      → length (t a ps o place).0 ≤ 2 * length (t b qs u base).0
  same : (a b : ℕ) (ps qs : List ℕ) (o u : Order) (place base : ℕ) → length ps ≡ length qs
      → length (t a ps o place).1 ≡ length (t b qs u base).1

plainly-steady : (p : Piece) → Steady p → IsSteady (plainly p)
plainly-steady p h = record {
  long = λ a b ps qs o u place base e. h.long o u place base;
  same = λ a b ps qs o u place base e. e;
}

and_then-steady : (t s : PlacedPiece) → IsSteady t → IsSteady s → IsSteady (and_then t s)
and_then-steady t s x y = record {
  long = λ a b ps qs o u place base e.
      let first = x.long a b ps qs o u place base e in
      let begun = x.same a b ps qs o u place base e in
      let one : List ℕ = (t a ps o place).0 in
      let two : List ℕ = (t b qs u base).0 in
      let second =
      y.long a b (t a ps o place).1 (t b qs u base).1 o u (place + length one) (base + length two) begun in
      omega (
        arith,
        first,
        second,
        length-append one (s a (t a ps o place).1 o (place + length one)).0,
        length-append two (s b (t b qs u base).1 u (base + length two)).0,
      );
  same = λ a b ps qs o u place base e.
      y.same a b (t a ps o place).1 (t b qs u base).1 o u (place + length (t a ps o place).0)
      (base + length (t b qs u base).0) (x.same a b ps qs o u place base e);
}

placed_row-steady : {X : Type 0} (f : X → PlacedPiece) → ((x : X) → IsSteady (f x)) → (xs : List X)
    → IsSteady (placed_row (map f xs))
placed_row-steady f h [] = plainly-steady none none-steady
placed_row-steady f h (x ∷ xs) = and_then-steady (f x) (placed_row (map f xs)) (h x) (placed_row-steady f h xs)

enclosed-steady : (t : PlacedPiece) → IsSteady t → IsSteady (enclosed_piece t)
enclosed-steady t h = record {
  long = λ a b ps qs o u place base e.
      let inside = h.long (long_place a place + 4) (long_place b base + 4) ps qs o u 1 1 e in
      omega (
        arith,
        inside,
        octets-length o place (flag o ∷ (t (long_place a place + 4) ps o 1).0),
        octets-length u base (flag u ∷ (t (long_place b base + 4) qs u 1).0),
      );
  same = λ a b ps qs o u place base e. h.same (long_place a place + 4) (long_place b base + 4) ps qs o u 1 1 e;
}

-- ---- the parameters of a node

header-steady : (id name : List ℕ) → Steady (header_piece id name)
header-steady id name = then-steady (text.writes id) (text.writes name) (text-steady id) (text-steady name)

enum-steady : (id name : List ℕ) (names : List (List ℕ)) → Steady (enum_piece id name names)
enum-steady id name names =
    then-steady (header_piece id name) ((number 4).writes (length names) then row (map text.writes names))
    (header-steady id name)
    (then-steady ((number 4).writes (length names)) (row (map text.writes names)) (four-steady (length names))
    (rows-steady text.writes text-steady names))

module _ (inner : ℕ → PlacedPiece) (each : (j : ℕ) → IsSteady (inner j)) where
  member-steady : (m : MemberNode) → IsSteady (member_placed inner m)
  member-steady m =
      and_then-steady (plainly (text.writes m.0)) (inner m.1) (plainly-steady (text.writes m.0) (text-steady m.0))
      (each m.1)

  arm-steady : (b : ArmNode) → IsSteady (arm_placed inner b)
  arm-steady b =
      and_then-steady (plainly (plain_piece b.0)) (member_placed inner b.1)
      (plainly-steady (plain_piece b.0) (plain-steady b.0)) (member-steady b.1)

  members-steady : (ms : List MemberNode) → IsSteady (members_placed inner ms)
  members-steady ms =
      and_then-steady (plainly ((number 4).writes (length ms))) (placed_row (map (member_placed inner) ms))
      (plainly-steady ((number 4).writes (length ms)) (four-steady (length ms)))
      (placed_row-steady (member_placed inner) member-steady ms)

  fields-steady : (id name : List ℕ) (ms : List MemberNode) → IsSteady (fields_placed inner id name ms)
  fields-steady id name ms =
      and_then-steady (plainly (header_piece id name)) (members_placed inner ms)
      (plainly-steady (header_piece id name) (header-steady id name)) (members-steady ms)

  front-steady : (id name : List ℕ) (item : ℕ) → IsSteady (front_placed inner id name item)
  front-steady id name item =
      and_then-steady (plainly (header_piece id name)) (inner item)
      (plainly-steady (header_piece id name) (header-steady id name)) (each item)

  items-steady : (item size : ℕ) → IsSteady (items_placed inner item size)
  items-steady item size =
      and_then-steady (inner item) (plainly ((number 4).writes size)) (each item)
      (plainly-steady ((number 4).writes size) (four-steady size))

  -- in the encapsulation behind a kind
  inside-steady : (l : Numbers) → IsSteady (inside_placed inner l)
  inside-steady (c.TypeCode::ObjRef id name) = plainly-steady (header_piece id name) (header-steady id name)
  inside-steady (c.TypeCode::Struct id name members) = fields-steady id name members
  inside-steady (c.Except id name members) = fields-steady id name members
  inside-steady (c.TypeCode::Union id name switch default arms) =
      and_then-steady (front_placed inner id name switch) (arms_placed inner default arms)
      (front-steady id name switch)
      (and_then-steady (plainly (head_piece default (length arms))) (placed_row (map (arm_placed inner) arms))
      (plainly-steady (head_piece default (length arms))
      (then-steady ((number 4).writes (cast_unsigned w32 default)) ((number 4).writes (length arms))
      (four-steady (cast_unsigned w32 default)) (four-steady (length arms))))
      (placed_row-steady (arm_placed inner) arm-steady arms))
  inside-steady (c.TypeCode::Enum id name names) = plainly-steady (enum_piece id name names) (enum-steady id name names)
  inside-steady (c.Sequence item bound) = items-steady item bound
  inside-steady (c.Array item len) = items-steady item len
  inside-steady (c.Alias id name item) = front-steady id name item
  inside-steady l = plainly-steady none none-steady

  layer-steady : (l : Numbers) → IsSteady (layer_placed inner l)
  layer-steady c.Null = plainly-steady none none-steady
  layer-steady c.Void = plainly-steady none none-steady
  layer-steady c.TypeCode::Short = plainly-steady none none-steady
  layer-steady c.TypeCode::Long = plainly-steady none none-steady
  layer-steady c.TypeCode::UShort = plainly-steady none none-steady
  layer-steady c.TypeCode::ULong = plainly-steady none none-steady
  layer-steady c.TypeCode::Boolean = plainly-steady none none-steady
  layer-steady c.TypeCode::Char = plainly-steady none none-steady
  layer-steady c.TypeCode::Octet = plainly-steady none none-steady
  layer-steady c.AnyCode = plainly-steady none none-steady
  layer-steady c.TypeCode::Code = plainly-steady none none-steady
  layer-steady c.TypeCode::LongLong = plainly-steady none none-steady
  layer-steady c.TypeCode::ULongLong = plainly-steady none none-steady
  layer-steady (c.TypeCode::Str bound) = plainly-steady ((number 4).writes bound) (four-steady bound)
  layer-steady (c.Linked graph) = plainly-steady none none-steady
  layer-steady l = enclosed-steady (inside_placed inner l) (inside-steady l)

  known-steady : (l : Option Numbers) → IsSteady (known_placed inner l)
  known-steady (Some l) = layer-steady l
  known-steady None = plainly-steady none none-steady

-- ---- edges

-- one node more was begun
kind-steady : (k : CodeKind) → IsSteady (kind_placed k)
kind-steady k = record {
  long = λ a b ps qs o u place base e. (four-steady (number_of k)).long o u place base;
  same = λ a b ps qs o u place base e. omega (
    arith,
    e,
    length-append ps (long_place a place ∷ []),
    length-append qs (long_place b base ∷ []),
  );
}

long-steady : (j : ℕ) → IsSteady (long_placed j)
long-steady j = record {
  long = λ a b ps qs o u place base e. omega (
    arith,
    number-length 4 o place (2 ^ 32 - (long_place a place - slice_index ps j)),
    number-length 4 u base (2 ^ 32 - (long_place b base - slice_index qs j)),
  );
  same = λ a b ps qs o u place base e. e;
}

node-steady : (inner : ℕ → PlacedPiece) → ((j : ℕ) → IsSteady (inner j)) → (j : ℕ) (n : Option KnownNode)
    → IsSteady (node_or_indirection inner j n)
node-steady inner each j (Some n) =
    and_then-steady (kind_placed n.kind) (known_placed inner n.layer) (kind-steady n.kind)
    (known-steady inner each n.layer)
node-steady inner each j None =
    and_then-steady (plainly ((number 4).writes indirection)) (long_placed j)
    (plainly-steady ((number 4).writes indirection) (four-steady indirection)) (long-steady j)

edge-steady : (levels : ℕ) (graph : List KnownNode) (j : ℕ) → IsSteady (edge_placed levels graph j)
edge-steady zero graph j = record {
  long = λ a b ps qs o u place base e. (four-steady (number_of kind.Null)).long o u place base;
  same = λ a b ps qs o u place base e. e;
}
edge-steady (suc levels) graph j =
    let inner : ℕ → PlacedPiece = edge_placed levels graph in
    let node : List ℕ → Option KnownNode = begins_at graph j in
    let alike : (ps qs : List ℕ) → length ps ≡ length qs → node qs ≡ node ps =
    λ ps qs e. ap (λ (n : ℕ). cond (nat_eq j n) (nth graph j) None) (sym e) in
    record {
      long = λ a b ps qs o u place base e.
          subst (λ (x : Option KnownNode). length (node_or_indirection inner j (node ps) a ps o place).0
          ≤ 2 * length (node_or_indirection inner j x b qs u base).0)
          (sym (alike ps qs e))
          ((node-steady inner (edge-steady levels graph) j (node ps)).long a b ps qs o u place base e);
      same = λ a b ps qs o u place base e.
          subst (λ (x : Option KnownNode). length (node_or_indirection inner j (node ps) a ps o place).1
          ≡ length (node_or_indirection inner j x b qs u base).1)
          (sym (alike ps qs e))
          ((node-steady inner (edge-steady levels graph) j (node ps)).same a b ps qs o u place base e);
    }

pub graph_piece-steady : (levels : ℕ) (g : List Node) → Steady (graph_piece levels g)
graph_piece-steady levels g =
    let p = edges-placed levels g Outer None 0 in
    record {
      long = λ o u place base.
          rw (p.writes empty o place, p.writes empty u base)
          ((edge-steady levels (known_of g) 0).long 0 0 [] [] o u place base refl);
    }
