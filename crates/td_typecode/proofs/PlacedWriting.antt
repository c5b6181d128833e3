-- What is written of a TypeCode with indirections, part by part.
use Rattle.std.proofs.Common.{◌≡◌, ℕ, ℤ, zero, suc, ◌+◌, ◌-◌, ◌^◌, ◌<◌, ◌≤◌, Bool, true, false, cond, List, [], ◌∷◌}
use Rattle.std.proofs.Common.{◌++◌, length}
use Rattle.std.proofs.Common.{map, drop, Result, Ok, Err, refl, sym, ap, subst, ◌∙◌, arith, append_assoc, length-append}
use Rattle.std.specs.Prelude.{pos, nat_eq, slice_get, slice_index, take, Option, Some, None, min}
use Rattle.std.specs.Int.{w16, w32, w64, cast_signed, from_bool}
use Rattle.std.proofs.lemmas.Int.{of_z-to_z}
use Rattle.std.proofs.lemmas.List.{append-nil, take_at, take-take}
use Rattle.tc_graph.specs.declared.node.Node.{Node}
use Rattle.tc_graph.specs.Nodes.{blank, edge, node_at}
use Rattle.tc_graph.specs.Aliases.{bare, bare_within}
use Rattle.td_cdr.specs.declared.order.Order.{Order}
use Rattle.td_cdr.specs.Format.{Piece, none, nth, Puts, Appends}
use Rattle.td_cdr.specs.Gap.{flag}
use Rattle.td_cdr.specs.Writing.{Draft, Adds, written_octets}
use Rattle.td_typecode.specs.declared.kinds.CodeKind.{CodeKind}
use Rattle.td_typecode.specs.declared.kinds.CodeKind.TheVariants as kind
use Rattle.td_typecode.specs.declared.label.Label.TheVariants as label
use Rattle.td_typecode.specs.Labels.{label_of, label_of_layer}
use Rattle.td_typecode.specs.Layers.{value-empty, value-short, value-long, value-ushort, value-ulong, value-boolean}
use Rattle.td_typecode.specs.Layers.{value-char}
use Rattle.td_typecode.specs.Layers.{value-longlong, value-ulonglong, value-enum}
use Rattle.td_typecode.proofs.WrittenParts.{puts-whole, kept-whole}
use Rattle.td_typecode.specs.Known.{MemberNode, ArmNode, KnownNode}
use Rattle.td_typecode.specs.GraphKnown.{kind_of_number, own_name, behind_first, members_of, arms_of, layer_in}
use Rattle.td_typecode.specs.GraphKnown.{switch_in}
use Rattle.td_typecode.specs.GraphKnown.{known_in, known_of, natural, number_or_zero}
use Rattle.td_typecode.specs.ReadNodes.{value_of_number}
use Rattle.td_typecode.specs.NodeWriting.{PlacedPiece, long_place, plainly, and_then, enclosed_piece, inside_placed}
use Rattle.td_typecode.specs.NodeWriting.{layer_placed, node_layer, node_placed, indirection_placed, begins_at}
use Rattle.td_typecode.specs.NodeWriting.{node_or_indirection, edge_placed, PutsPlaced, name_at, arms_in}
use Rattle.td_typecode.specs.NodeWriting.{label_number_at}
use Rattle.td_typecode.specs.NodeWriting.{name_or_empty, integer_or_zero, arm_total, member_placed, arm_placed}
use Rattle.td_typecode.specs.NodeWriting.{row_of_members, row_of_arms}

-- ---- one piece and another

-- the same piece, as it is there
pub placed-as : {E : Type 0} (p q : PlacedPiece) (base : ℕ) (old new : List ℕ) (from to : Draft)
    (result : Result (Unit {0}) E) → p base old ≡ q base old → PutsPlaced p base old new from to result
    → PutsPlaced q base old new from to result
placed-as p q base old new from to (Ok u) same s =
    let at : p base old from.order (length from.bytes) ≡ q base old from.order (length from.bytes) =
    ap (λ (f : Order → ℕ → List ℕ × List ℕ). f from.order (length from.bytes)) same in
    record {
      done = (
        s.done.0 ∙ ap (λ (x : List ℕ × List ℕ). from.bytes ++ x.0) at,
        s.done.1 ∙ ap (λ (x : List ℕ × List ℕ). x.1) at,
      );
      order = s.order;
      kept = tt;
    }
placed-as p q base old new from to (Err e) same s = record { done = tt; order = s.order; kept = s.kept }

-- what is written without a node
pub placed-plainly : {E : Type 0} (p : Piece) (base : ℕ) (old : List ℕ) (from to : Draft)
    (result : Result (Unit {0}) E) → Puts p from to result
    → PutsPlaced (plainly p) base old old from to result
placed-plainly p base old from to (Ok u) s = record { done = (s.done, refl); order = s.order; kept = tt }
placed-plainly p base old from to (Err e) s = record { done = tt; order = s.order; kept = s.kept }

pub puts_appended : {E : Type 0} (p : Piece) (from to : Draft) (result : Result (Unit {0}) E)
    → Appends p from to result → Puts p from to result
puts_appended p from to result s = puts-whole p from to result s

pub placed-none : {E : Type 0} (base : ℕ) (old : List ℕ) (from : Draft)
    → PutsPlaced {E = E} (plainly none) base old old from from (Ok tt)
placed-none base old from = record { done = (sym (append-nil from.bytes), refl); order = refl; kept = tt }

-- nothing was written
pub placed-fails : {E : Type 0} (p : PlacedPiece) (base : ℕ) (old new : List ℕ) (from : Draft) (e : E)
    → PutsPlaced p base old new from from (Err e)
placed-fails p base old new from e =
    record { done = tt; order = refl; kept = kept-whole from from refl }

-- what was there before more was written is still there
pub still-kept : (old mid new more : List ℕ) → mid ≡ old ++ more → take (length mid) new ≡ mid
    → take (length old) new ≡ old
still-kept old mid new more e k =
    let long : length old ≤ length mid = omega (arith, ap (length {A = ℕ}) e, length-append old more) in
    sym (take-take (length old) (length mid) new long) ∙ ap (take (length old)) (k ∙ e)
    ∙ take_at old more (length old) refl

-- one piece was written, and another is put behind it
pub placed-then : {E : Type 0} (t u : PlacedPiece) (base : ℕ) (old mid new : List ℕ)
    (from between to : Draft) (result : Result (Unit {0}) E)
    → between.bytes ≡ from.bytes ++ (t base old from.order (length from.bytes)).0
    → mid ≡ (t base old from.order (length from.bytes)).1 → between.order ≡ from.order
    → PutsPlaced u base mid new between to result
    → PutsPlaced (and_then t u) base old new from to result
placed-then t u base old mid new from between to (Ok x) bytes places order s =
    let first = t base old from.order (length from.bytes) in
    let long : length between.bytes ≡ length from.bytes + length first.0 =
    ap (length {A = ℕ}) bytes ∙ length-append from.bytes first.0 in
    let here : u base mid between.order (length between.bytes)
    ≡ u base first.1 from.order (length from.bytes + length first.0) = rw (places, order, long) refl in
    record {
      done = (
        s.done.0
            ∙ ap (λ (x : List ℕ × List ℕ). between.bytes ++ x.0) here
            ∙ ap (λ (b : List ℕ). b ++ (u base first.1 from.order (length from.bytes + length first.0)).0) bytes
            ∙ append_assoc from.bytes first.0 (u base first.1 from.order (length from.bytes + length first.0)).0,
        s.done.1 ∙ ap (λ (x : List ℕ × List ℕ). x.1) here,
      );
      order = s.order ∙ order;
      kept = tt;
    }
placed-then t u base old mid new from between to (Err e) bytes places order s = record {
  done = tt;
  order = s.order ∙ order;
  kept = still-kept from.bytes between.bytes to.bytes (t base old from.order (length from.bytes)).0 bytes s.kept;
}

-- without a node, and then with some
pub plainly-then : {E : Type 0} (p : Piece) (u : PlacedPiece) (base : ℕ) (old new : List ℕ)
    (from between to : Draft) (result : Result (Unit {0}) E)
    → between.bytes ≡ from.bytes ++ p from.order (length from.bytes) → between.order ≡ from.order
    → PutsPlaced u base old new between to result
    → PutsPlaced (and_then (plainly p) u) base old new from to result
plainly-then p u base old new from between to result bytes order s =
    placed-then (plainly p) u base old old new from between to result bytes refl order s

-- ---- encapsulations

pub placed-within : {E : Type 0} (t : PlacedPiece) (base inside : ℕ) (old new : List ℕ) (order : Order)
    (from start inner to : Draft) (result : Result (Unit {0}) E)
    → inside ≡ long_place base (length from.bytes) + 4
    → start.bytes ≡ flag order ∷ [] → start.order ≡ order → order ≡ from.order
    → inner.bytes ≡ start.bytes ++ (t inside old start.order (length start.bytes)).0
    → new ≡ (t inside old start.order (length start.bytes)).1
    → Adds (written_octets from.order (length from.bytes) inner.bytes) from to result
    → PutsPlaced (enclosed_piece t) base old new from to result
placed-within t base inside old new order from start inner to (Ok u) at s o same bytes places a =
    let here : t inside old start.order (length start.bytes)
    ≡ t (long_place base (length from.bytes) + 4) old from.order 1 = rw (at, s, o, same) refl in
    let body : inner.bytes ≡ flag from.order ∷ (t (long_place base (length from.bytes) + 4) old from.order 1).0 =
    bytes ∙ ap (λ (x : List ℕ × List ℕ). start.bytes ++ x.0) here
    ∙ ap (λ (b : List ℕ). b ++ (t (long_place base (length from.bytes) + 4) old from.order 1).0) s
    ∙ ap (λ (o : Order). flag o ∷ (t (long_place base (length from.bytes) + 4) old from.order 1).0) same in
    record {
      done = (
        a.done.0
            ∙ ap (λ (b : List ℕ). from.bytes ++ written_octets from.order (length from.bytes) b) body,
        places ∙ ap (λ (x : List ℕ × List ℕ). x.1) here,
      );
      order = a.done.1;
      kept = tt;
    }
placed-within t base inside old new order from start inner to (Err e) at s o same bytes places a =
    let stays = a.refused.0 in
    record {
      done = tt;
      order = ap (λ (w : Draft). w.order) stays;
      kept = kept-whole from to (ap (λ (w : Draft). w.bytes) stays);
    }

-- ---- nodes of a graph

known-got : (g ps : List Node) (i : ℕ) (p : Node) → slice_get ps i ≡ Some p
    → nth (map (known_in g) ps) i ≡ Some (known_in g p)
known-got g [] i p e = absurd (let none : ⊥ = cc (e) in none)
known-got g (q ∷ qs) zero p e = let same : q ≡ p = cc (e) in
    ap (λ (z : Node). Some (known_in g z)) same
known-got g (q ∷ qs) (suc i) p e = known-got g qs i p e

known-gone : (g ps : List Node) (i : ℕ) → slice_get ps i ≡ None → nth (map (known_in g) ps) i ≡ None
known-gone g [] i e = refl
known-gone g (q ∷ qs) zero e = absurd (let none : ⊥ = cc (e) in none)
known-gone g (q ∷ qs) (suc i) e = known-gone g qs i e

-- ---- edges

abbrev nothing_known : Option KnownNode
nothing_known = None

module _ {E : Type 0} (g : List Node) (j base : ℕ) (old new : List ℕ) (from to : Draft)
    (result : Result (Unit {0}) E) where
  abbrev WritesEdge : ℕ → Type 0
  WritesEdge levels = PutsPlaced (edge_placed levels (known_of g) j) base old new from to result

  edge-at : (levels : ℕ) → (levels ≡ 0 → ⊥)
      → edge_placed levels (known_of g) j base old
      ≡ node_or_indirection (edge_placed (levels - 1) (known_of g)) j (begins_at (known_of g) j old) base old
  edge-at zero some = absurd (some refl)
  edge-at (suc levels) some =
      let less : suc levels - 1 ≡ levels = omega arith in
      rw less refl

  pub edge-other : (levels : ℕ) → (levels ≡ 0 → ⊥) → nat_eq j (length old) ≡ false
      → PutsPlaced (indirection_placed j) base old new from to result → WritesEdge levels
  edge-other levels some other s =
      placed-as (indirection_placed j) (edge_placed levels (known_of g) j) base old new from to result
      (sym (edge-at levels some ∙ rw other refl)) s

  pub edge-begins : (p : Node) (levels : ℕ) → (levels ≡ 0 → ⊥) → nat_eq j (length old) ≡ true
      → slice_get g j ≡ Some p
      → PutsPlaced (node_placed (edge_placed (levels - 1) (known_of g)) g p) base old new from to result
      → WritesEdge levels
  edge-begins p levels some next there s =
      let inner = edge_placed (levels - 1) (known_of g) in
      let node : begins_at (known_of g) j old ≡ Some (known_in g p) =
      rw next (known-got g g j p there) in
      let is : edge_placed levels (known_of g) j base old ≡ node_placed inner g p base old =
      edge-at levels some
      ∙ ap (λ (o : Option KnownNode). node_or_indirection inner j o base old) node in
      placed-as (node_placed inner g p) (edge_placed levels (known_of g) j) base old new from to result (sym is) s

  pub edge-gone : (levels : ℕ) → (levels ≡ 0 → ⊥) → slice_get g j ≡ None
      → PutsPlaced (indirection_placed j) base old new from to result → WritesEdge levels
  edge-gone levels some gone s =
      let inner = edge_placed (levels - 1) (known_of g) in
      let nothing : begins_at (known_of g) j old ≡ None =
      ap (λ (o : Option KnownNode). cond (nat_eq j (length old)) o None) (known-gone g g j gone)
      ∙ by_test (nat_eq j (length old)) in
      let is : edge_placed levels (known_of g) j base old ≡ indirection_placed j base old =
      edge-at levels some
      ∙ ap (λ (o : Option KnownNode). node_or_indirection inner j o base old) nothing in
      placed-as (indirection_placed j) (edge_placed levels (known_of g) j) base old new from to result (sym is) s
    where
      by_test : (b : Bool) → cond b nothing_known nothing_known ≡ nothing_known
      by_test true = refl
      by_test false = refl

-- ---- what stands behind a kind

module _ {E : Type 0} (inner : ℕ → PlacedPiece) (g : List Node) (p : Node) (k : CodeKind)
    (is : kind_of_number p.kind ≡ k) (base : ℕ) (old new : List ℕ) (from to : Draft)
    (result : Result (Unit {0}) E) where
  -- by the kind
  pub inside-by : PutsPlaced (inside_placed inner (layer_in (switch_in g p) k p)) base old new from to result
      → PutsPlaced (inside_placed inner (node_layer g p)) base old new from to result
  inside-by s =
      subst
      (λ (z : CodeKind). PutsPlaced (inside_placed inner (layer_in (switch_in g p) z p)) base old new from to result)
      (sym is) s

  pub layer-by : PutsPlaced (layer_placed inner (layer_in (switch_in g p) k p)) base old new from to result
      → PutsPlaced (layer_placed inner (node_layer g p)) base old new from to result
  layer-by s =
      subst
      (λ (z : CodeKind). PutsPlaced (layer_placed inner (layer_in (switch_in g p) z p)) base old new from to result)
      (sym is) s

-- a kind that has no encapsulation
pub inside-none : (inner : ℕ → PlacedPiece) (switch k : CodeKind) (p : Node)
    → (k ≡ kind.ObjRef → ⊥) → (k ≡ kind.Struct → ⊥) → (k ≡ kind.Except → ⊥)
    → (k ≡ kind.Union → ⊥) → (k ≡ kind.Enum → ⊥) → (k ≡ kind.Sequence → ⊥)
    → (k ≡ kind.Array → ⊥) → (k ≡ kind.Alias → ⊥)
    → inside_placed inner (layer_in switch k p) ≡ plainly none
inside-none inner switch kind.ObjRef p n0 n1 n2 n3 n4 n5 n6 n7 = absurd (n0 refl)
inside-none inner switch kind.Struct p n0 n1 n2 n3 n4 n5 n6 n7 = absurd (n1 refl)
inside-none inner switch kind.Except p n0 n1 n2 n3 n4 n5 n6 n7 = absurd (n2 refl)
inside-none inner switch kind.Union p n0 n1 n2 n3 n4 n5 n6 n7 = absurd (n3 refl)
inside-none inner switch kind.Enum p n0 n1 n2 n3 n4 n5 n6 n7 = absurd (n4 refl)
inside-none inner switch kind.Sequence p n0 n1 n2 n3 n4 n5 n6 n7 = absurd (n5 refl)
inside-none inner switch kind.Array p n0 n1 n2 n3 n4 n5 n6 n7 = absurd (n6 refl)
inside-none inner switch kind.Alias p n0 n1 n2 n3 n4 n5 n6 n7 = absurd (n7 refl)
inside-none inner switch kind.Null p n0 n1 n2 n3 n4 n5 n6 n7 = refl
inside-none inner switch kind.Void p n0 n1 n2 n3 n4 n5 n6 n7 = refl
inside-none inner switch kind.Short p n0 n1 n2 n3 n4 n5 n6 n7 = refl
inside-none inner switch kind.Long p n0 n1 n2 n3 n4 n5 n6 n7 = refl
inside-none inner switch kind.UShort p n0 n1 n2 n3 n4 n5 n6 n7 = refl
inside-none inner switch kind.ULong p n0 n1 n2 n3 n4 n5 n6 n7 = refl
inside-none inner switch kind.Boolean p n0 n1 n2 n3 n4 n5 n6 n7 = refl
inside-none inner switch kind.Char p n0 n1 n2 n3 n4 n5 n6 n7 = refl
inside-none inner switch kind.Octet p n0 n1 n2 n3 n4 n5 n6 n7 = refl
inside-none inner switch kind.AnyCode p n0 n1 n2 n3 n4 n5 n6 n7 = refl
inside-none inner switch kind.Code p n0 n1 n2 n3 n4 n5 n6 n7 = refl
inside-none inner switch kind.Str p n0 n1 n2 n3 n4 n5 n6 n7 = refl
inside-none inner switch kind.LongLong p n0 n1 n2 n3 n4 n5 n6 n7 = refl
inside-none inner switch kind.ULongLong p n0 n1 n2 n3 n4 n5 n6 n7 = refl

-- a kind that has one
pub layer-enclosed : (inner : ℕ → PlacedPiece) (switch k : CodeKind) (p : Node)
    → (k ≡ kind.Null → ⊥)
    → (k ≡ kind.Void → ⊥)
    → (k ≡ kind.Short → ⊥)
    → (k ≡ kind.Long → ⊥)
    → (k ≡ kind.UShort → ⊥)
    → (k ≡ kind.ULong → ⊥)
    → (k ≡ kind.Boolean → ⊥)
    → (k ≡ kind.Char → ⊥)
    → (k ≡ kind.Octet → ⊥)
    → (k ≡ kind.AnyCode → ⊥)
    → (k ≡ kind.Code → ⊥)
    → (k ≡ kind.LongLong → ⊥)
    → (k ≡ kind.ULongLong → ⊥)
    → (k ≡ kind.Str → ⊥)
    → layer_placed inner (layer_in switch k p) ≡ enclosed_piece (inside_placed inner (layer_in switch k p))
layer-enclosed inner switch kind.Null p n0 n1 n2 n3 n4 n5 n6 n7 n8 n9 n10 n11 n12 n13 = absurd (n0 refl)
layer-enclosed inner switch kind.Void p n0 n1 n2 n3 n4 n5 n6 n7 n8 n9 n10 n11 n12 n13 = absurd (n1 refl)
layer-enclosed inner switch kind.Short p n0 n1 n2 n3 n4 n5 n6 n7 n8 n9 n10 n11 n12 n13 = absurd (n2 refl)
layer-enclosed inner switch kind.Long p n0 n1 n2 n3 n4 n5 n6 n7 n8 n9 n10 n11 n12 n13 = absurd (n3 refl)
layer-enclosed inner switch kind.UShort p n0 n1 n2 n3 n4 n5 n6 n7 n8 n9 n10 n11 n12 n13 = absurd (n4 refl)
layer-enclosed inner switch kind.ULong p n0 n1 n2 n3 n4 n5 n6 n7 n8 n9 n10 n11 n12 n13 = absurd (n5 refl)
layer-enclosed inner switch kind.Boolean p n0 n1 n2 n3 n4 n5 n6 n7 n8 n9 n10 n11 n12 n13 = absurd (n6 refl)
layer-enclosed inner switch kind.Char p n0 n1 n2 n3 n4 n5 n6 n7 n8 n9 n10 n11 n12 n13 = absurd (n7 refl)
layer-enclosed inner switch kind.Octet p n0 n1 n2 n3 n4 n5 n6 n7 n8 n9 n10 n11 n12 n13 = absurd (n8 refl)
layer-enclosed inner switch kind.AnyCode p n0 n1 n2 n3 n4 n5 n6 n7 n8 n9 n10 n11 n12 n13 = absurd (n9 refl)
layer-enclosed inner switch kind.Code p n0 n1 n2 n3 n4 n5 n6 n7 n8 n9 n10 n11 n12 n13 = absurd (n10 refl)
layer-enclosed inner switch kind.LongLong p n0 n1 n2 n3 n4 n5 n6 n7 n8 n9 n10 n11 n12 n13 = absurd (n11 refl)
layer-enclosed inner switch kind.ULongLong p n0 n1 n2 n3 n4 n5 n6 n7 n8 n9 n10 n11 n12 n13 = absurd (n12 refl)
layer-enclosed inner switch kind.Str p n0 n1 n2 n3 n4 n5 n6 n7 n8 n9 n10 n11 n12 n13 = absurd (n13 refl)
layer-enclosed inner switch kind.ObjRef p n0 n1 n2 n3 n4 n5 n6 n7 n8 n9 n10 n11 n12 n13 = refl
layer-enclosed inner switch kind.Struct p n0 n1 n2 n3 n4 n5 n6 n7 n8 n9 n10 n11 n12 n13 = refl
layer-enclosed inner switch kind.Except p n0 n1 n2 n3 n4 n5 n6 n7 n8 n9 n10 n11 n12 n13 = refl
layer-enclosed inner switch kind.Union p n0 n1 n2 n3 n4 n5 n6 n7 n8 n9 n10 n11 n12 n13 = refl
layer-enclosed inner switch kind.Enum p n0 n1 n2 n3 n4 n5 n6 n7 n8 n9 n10 n11 n12 n13 = refl
layer-enclosed inner switch kind.Sequence p n0 n1 n2 n3 n4 n5 n6 n7 n8 n9 n10 n11 n12 n13 = refl
layer-enclosed inner switch kind.Array p n0 n1 n2 n3 n4 n5 n6 n7 n8 n9 n10 n11 n12 n13 = refl
layer-enclosed inner switch kind.Alias p n0 n1 n2 n3 n4 n5 n6 n7 n8 n9 n10 n11 n12 n13 = refl

-- ---- rows

-- what is left of a row, behind what was written of it
pub record Leaves (rest all : PlacedPiece) (base : ℕ) (old now : List ℕ) (from at : Draft) : Type 0 where
  pub bytes : at.bytes ++ (rest base now at.order (length at.bytes)).0
      ≡ from.bytes ++ (all base old from.order (length from.bytes)).0
  pub places : (rest base now at.order (length at.bytes)).1 ≡ (all base old from.order (length from.bytes)).1
  pub order : at.order ≡ from.order
  pub more : List ℕ
  pub behind : at.bytes ≡ from.bytes ++ more

pub leaves-all : (rest all : PlacedPiece) (base : ℕ) (old : List ℕ) (from : Draft) → rest ≡ all
    → Leaves rest all base old old from from
leaves-all rest all base old from same =
    record {
      bytes = rw same refl;
      places = rw same refl;
      order = refl;
      more = [];
      behind = sym (append-nil from.bytes);
    }

-- one piece more was written
pub leaves-on : (t here rest all : PlacedPiece) (base : ℕ) (old now next : List ℕ) (from at new : Draft)
    → here ≡ and_then t rest → Leaves here all base old now from at
    → new.bytes ≡ at.bytes ++ (t base now at.order (length at.bytes)).0
    → next ≡ (t base now at.order (length at.bytes)).1 → new.order ≡ at.order
    → Leaves rest all base old next from new
leaves-on t here rest all base old now next from at new same so_far bytes places order =
    let first = t base now at.order (length at.bytes) in
    let long : length new.bytes ≡ length at.bytes + length first.0 =
    ap (length {A = ℕ}) bytes ∙ length-append at.bytes first.0 in
    let there : rest base next new.order (length new.bytes)
    ≡ rest base first.1 at.order (length at.bytes + length first.0) = rw (places, order, long) refl in
    let both = rw same at so_far.bytes in
    let ends = rw same at so_far.places in
    record {
      bytes =
          ap (λ (x : List ℕ × List ℕ). new.bytes ++ x.0) there
          ∙ ap (λ (b : List ℕ). b ++ (rest base first.1 at.order (length at.bytes + length first.0)).0) bytes
          ∙ append_assoc at.bytes first.0 (rest base first.1 at.order (length at.bytes + length first.0)).0
          ∙ both;
      places = ap (λ (x : List ℕ × List ℕ). x.1) there ∙ ends;
      order = order ∙ so_far.order;
      more = so_far.more ++ first.0;
      behind =
          bytes ∙ ap (λ (b : List ℕ). b ++ first.0) so_far.behind
          ∙ append_assoc from.bytes so_far.more first.0;
    }

pub leaves-none : {E : Type 0} (rest all : PlacedPiece) (base : ℕ) (old now : List ℕ) (from at : Draft)
    → rest ≡ plainly none → Leaves rest all base old now from at
    → PutsPlaced {E = E} all base old now from at (Ok tt)
leaves-none rest all base old now from at same so_far =
    let bytes = rw same at so_far.bytes in
    let places = rw same at so_far.places in
    record { done = (sym (append-nil at.bytes) ∙ bytes, places); order = so_far.order; kept = tt }

-- one piece more failed
pub leaves-fails : {E : Type 0} (rest all : PlacedPiece) (base : ℕ) (old now new : List ℕ) (from at to : Draft)
    (e : E) → Leaves rest all base old now from at → to.order ≡ at.order
    → take (length at.bytes) to.bytes ≡ at.bytes → PutsPlaced all base old new from to (Err e)
leaves-fails rest all base old now new from at to e so_far order kept = record {
  done = tt;
  order = order ∙ so_far.order;
  kept = still-kept from.bytes at.bytes to.bytes so_far.more so_far.behind kept;
}

-- ---- parts of a node by their numbers

pub place_there : (ps : List ℕ) (i p : ℕ) → slice_get ps i ≡ Some p → p ≡ slice_index ps i
place_there [] i p e = absurd (let none : ⊥ = cc (e) in none)
place_there (x ∷ xs) zero p e = let same : x ≡ p = cc (e) in sym same
place_there (x ∷ xs) (suc i) p e = place_there xs i p e

pub place_gone : (ps : List ℕ) (i : ℕ) → slice_get ps i ≡ None → 0 ≡ slice_index ps i
place_gone [] i e = refl
place_gone (x ∷ xs) zero e = absurd (let none : ⊥ = cc (e) in none)
place_gone (x ∷ xs) (suc i) e = place_gone xs i e

pub name_there : (ns : List (List ℕ)) (i : ℕ) (n : List ℕ) → slice_get ns i ≡ Some n → n ≡ name_at ns i
name_there ns i n e = ap name_or_empty (sym e)

pub name_gone : (ns : List (List ℕ)) (i : ℕ) → slice_get ns i ≡ None → [] ≡ name_at ns i
name_gone ns i e = ap name_or_empty (sym e)

pub own_there : (ns : List (List ℕ)) (n : List ℕ) → slice_get ns 0 ≡ Some n → n ≡ own_name ns
own_there [] n e = absurd (let none : ⊥ = cc (e) in none)
own_there (x ∷ xs) n e = let same : x ≡ n = cc (e) in sym same

pub own_gone : (ns : List (List ℕ)) → slice_get ns 0 ≡ None → [] ≡ own_name ns
own_gone [] e = refl
own_gone (x ∷ xs) e = absurd (let none : ⊥ = cc (e) in none)

pub number_there : (zs : List ℤ) (i : ℕ) (z : ℤ) → slice_get zs i ≡ Some z → z ≡ label_number_at zs i
number_there zs i z e = ap integer_or_zero (sym e)

pub number_gone : (zs : List ℤ) (i : ℕ) → slice_get zs i ≡ None → pos 0 ≡ label_number_at zs i
number_gone zs i e = ap integer_or_zero (sym e)

first-is : (zs : List ℤ) → label_number_at zs 0 ≡ number_or_zero zs
first-is [] = refl
first-is (z ∷ zs) = refl

pub first_there : (zs : List ℤ) (z : ℤ) → slice_get zs 0 ≡ Some z → z ≡ number_or_zero zs
first_there zs z e = number_there zs 0 z e ∙ first-is zs

pub first_gone : (zs : List ℤ) → slice_get zs 0 ≡ None → pos 0 ≡ number_or_zero zs
first_gone zs e = number_gone zs 0 e ∙ first-is zs

-- ---- members and arms of a node

members-left : (ns : List (List ℕ)) (es : List ℕ) (i : ℕ) → i < length (members_of ns es)
    → members_of (drop i ns) (drop i es)
    ≡ (name_or_empty (slice_get ns i), slice_index es i) ∷ members_of (drop (suc i) ns) (drop (suc i) es)
members-left [] es i lt = absurd (omega (arith, lt))
members-left (n ∷ ns) [] i lt = absurd (omega (arith, lt))
members-left (n ∷ ns) (e ∷ es) zero lt = refl
members-left (n ∷ ns) (e ∷ es) (suc i) lt = members-left ns es i (omega (arith, lt))

members-ended : (ns : List (List ℕ)) (es : List ℕ) (i : ℕ) → length (members_of ns es) ≤ i
    → members_of (drop i ns) (drop i es) ≡ []
members-ended [] es zero le = refl
members-ended [] es (suc i) le = refl
members-ended (n ∷ ns) [] zero le = refl
members-ended (n ∷ ns) [] (suc i) le = none_right (drop i ns)
  where
    none_right : (xs : List (List ℕ)) → members_of xs [] ≡ []
    none_right [] = refl
    none_right (x ∷ xs) = refl
members-ended (n ∷ ns) (e ∷ es) zero le = absurd (omega (arith, le))
members-ended (n ∷ ns) (e ∷ es) (suc i) le = members-ended ns es i (omega (arith, le))

-- how many members there are
members-long : (ns : List (List ℕ)) (es : List ℕ)
    → min (length ns) (length es) ≡ length (members_of ns es)
members-long [] [] = refl
members-long [] (e ∷ es) = omega arith
members-long (n ∷ ns) [] = omega arith
members-long (n ∷ ns) (e ∷ es) =
    let rest = members-long ns es in
    omega (arith, rest)

behind-long : {X : Type 0} (xs : List X) → length (behind_first xs) ≡ length xs - 1
behind-long [] = refl
behind-long (x ∷ xs) = omega arith

pub member_count : (ns : List (List ℕ)) (es : List ℕ)
    → min (length ns - 1) (length es) ≡ length (members_of (behind_first ns) es)
member_count ns es =
    ap (λ (n : ℕ). min n (length es)) (sym (behind-long ns)) ∙ members-long (behind_first ns) es

name-behind : (ns : List (List ℕ)) (i : ℕ) → slice_get (behind_first ns) i ≡ slice_get ns (suc i)
name-behind [] i = refl
name-behind (n ∷ ns) i = refl

-- the members from a number on
abbrev pub members_from : ℕ → Node → List MemberNode
members_from i p = members_of (drop i (behind_first p.names)) (drop i p.edges)

pub members-at : (inner : ℕ → PlacedPiece) (p : Node) (i : ℕ)
    → i < length (members_of (behind_first p.names) p.edges)
    → row_of_members inner (members_from i p)
    ≡ and_then (member_placed inner (name_at p.names (i + 1), edge p i)) (row_of_members inner (members_from (i + 1) p))
members-at inner p i lt =
    let next : suc i ≡ i + 1 = omega arith in
    ap (row_of_members inner)
    (members-left (behind_first p.names) p.edges i lt
    ∙ ap (λ (o : Option (List ℕ)). (name_or_empty o, edge p i) ∷ members_from (suc i) p) (name-behind p.names i))
    ∙ ap
    (λ (n : ℕ). and_then (member_placed inner (name_at p.names n, edge p i)) (row_of_members inner (members_from n p)))
    next

pub members-done : (inner : ℕ → PlacedPiece) (p : Node) (i : ℕ)
    → length (members_of (behind_first p.names) p.edges) ≤ i
    → row_of_members inner (members_from i p) ≡ plainly none
members-done inner p i le = ap (row_of_members inner) (members-ended (behind_first p.names) p.edges i le)

arms-left : (k : CodeKind) (zs : List ℤ) (ns : List (List ℕ)) (es : List ℕ) (i : ℕ)
    → i < length (arms_of k zs ns es)
    → arms_of k (drop i zs) (drop i ns) (drop i es)
    ≡ (
      value_of_number k (natural (integer_or_zero (slice_get zs i))),
      (name_or_empty (slice_get ns i), slice_index es i),
    )
    ∷ arms_of k (drop (suc i) zs) (drop (suc i) ns) (drop (suc i) es)
arms-left k [] ns es i lt = absurd (omega (arith, lt))
arms-left k (z ∷ zs) [] es i lt = absurd (omega (arith, lt))
arms-left k (z ∷ zs) (n ∷ ns) [] i lt = absurd (omega (arith, lt))
arms-left k (z ∷ zs) (n ∷ ns) (e ∷ es) zero lt = refl
arms-left k (z ∷ zs) (n ∷ ns) (e ∷ es) (suc i) lt = arms-left k zs ns es i (omega (arith, lt))

arms-none : (k : CodeKind) (zs : List ℤ) (ns : List (List ℕ)) → arms_of k zs ns [] ≡ []
arms-none k [] ns = refl
arms-none k (z ∷ zs) [] = refl
arms-none k (z ∷ zs) (n ∷ ns) = refl

arms-nameless : (k : CodeKind) (zs : List ℤ) (es : List ℕ) → arms_of k zs [] es ≡ []
arms-nameless k [] es = refl
arms-nameless k (z ∷ zs) es = refl

arms-ended : (k : CodeKind) (zs : List ℤ) (ns : List (List ℕ)) (es : List ℕ) (i : ℕ)
    → length (arms_of k zs ns es) ≤ i → arms_of k (drop i zs) (drop i ns) (drop i es) ≡ []
arms-ended k [] ns es zero le = refl
arms-ended k [] ns es (suc i) le = refl
arms-ended k (z ∷ zs) [] es zero le = refl
arms-ended k (z ∷ zs) [] es (suc i) le = arms-nameless k (drop i zs) (drop (suc i) es)
arms-ended k (z ∷ zs) (n ∷ ns) [] zero le = refl
arms-ended k (z ∷ zs) (n ∷ ns) [] (suc i) le = arms-none k (drop i zs) (drop i ns)
arms-ended k (z ∷ zs) (n ∷ ns) (e ∷ es) zero le = absurd (omega (arith, le))
arms-ended k (z ∷ zs) (n ∷ ns) (e ∷ es) (suc i) le = arms-ended k zs ns es i (omega (arith, le))

arms-long : (k : CodeKind) (zs : List ℤ) (ns : List (List ℕ)) (es : List ℕ)
    → min (min (length zs) (length ns)) (length es) ≡ length (arms_of k zs ns es)
arms-long k [] ns es = omega arith
arms-long k (z ∷ zs) [] es = omega arith
arms-long k (z ∷ zs) (n ∷ ns) [] = omega arith
arms-long k (z ∷ zs) (n ∷ ns) (e ∷ es) =
    let rest = arms-long k zs ns es in
    omega (arith, rest)

pub arms-total : (k : CodeKind) (p : Node) → arm_total p ≡ length (arms_in k p)
arms-total k p =
    let zs = sym (behind-long p.numbers) in
    let ns = sym (behind-long p.names) in
    let es = sym (behind-long p.edges) in
    rw (zs, ns, es) (arms-long k (behind_first p.numbers) (behind_first p.names) (behind_first p.edges))

number-behind : (zs : List ℤ) (i : ℕ) → slice_get (behind_first zs) i ≡ slice_get zs (suc i)
number-behind [] i = refl
number-behind (z ∷ zs) i = refl

edge-behind : (es : List ℕ) (i : ℕ) → slice_index (behind_first es) i ≡ slice_index es (suc i)
edge-behind [] i = refl
edge-behind (e ∷ es) i = refl

-- the arms from a number on
abbrev pub arms_from : CodeKind → ℕ → Node → List ArmNode
arms_from k i p =
    arms_of k (drop i (behind_first p.numbers)) (drop i (behind_first p.names)) (drop i (behind_first p.edges))

-- the arm of a number, counted from 1
abbrev pub arm_at : CodeKind → Node → ℕ → ArmNode
arm_at k p i = (value_of_number k (natural (label_number_at p.numbers i)), (name_at p.names i, edge p i))

pub arms-at : (inner : ℕ → PlacedPiece) (k : CodeKind) (p : Node) (i : ℕ) → i < length (arms_in k p)
    → row_of_arms inner (arms_from k i p)
    ≡ and_then (arm_placed inner (arm_at k p (i + 1))) (row_of_arms inner (arms_from k (i + 1) p))
arms-at inner k p i lt =
    let next : suc i ≡ i + 1 = omega arith in
    ap (row_of_arms inner)
    (arms-left k (behind_first p.numbers) (behind_first p.names) (behind_first p.edges) i lt
    ∙ ap
    (λ (o : Option ℤ). (
      value_of_number k (natural (integer_or_zero o)),
      (name_or_empty (slice_get (behind_first p.names) i), slice_index (behind_first p.edges) i),
    )
    ∷ arms_from k (suc i) p) (number-behind p.numbers i)
    ∙ ap
    (λ (o : Option (List ℕ)). (
      value_of_number k (natural (label_number_at p.numbers (suc i))),
      (name_or_empty o, slice_index (behind_first p.edges) i),
    )
    ∷ arms_from k (suc i) p) (name-behind p.names i)
    ∙ ap
    (λ (e : ℕ).
    (value_of_number k (natural (label_number_at p.numbers (suc i))), (name_at p.names (suc i), e))
    ∷ arms_from k (suc i) p) (edge-behind p.edges i))
    ∙ ap
    (λ (n : ℕ). and_then (arm_placed inner (arm_at k p n)) (row_of_arms inner (arms_from k n p)))
    next

pub arms-done : (inner : ℕ → PlacedPiece) (k : CodeKind) (p : Node) (i : ℕ) → length (arms_in k p) ≤ i
    → row_of_arms inner (arms_from k i p) ≡ plainly none
arms-done inner k p i le =
    ap (row_of_arms inner)
    (arms-ended k (behind_first p.numbers) (behind_first p.names) (behind_first p.edges) i le)

-- ---- a union's discriminator

node-out : (g : List Node) (i : ℕ) → length g ≤ i → node_at g i ≡ blank 0
node-out [] i le = refl
node-out (q ∷ qs) zero le = absurd (omega (arith, le))
node-out (q ∷ qs) (suc i) le = node-out qs i (omega (arith, le))

bare-out : (n : ℕ) (g : List Node) (i : ℕ) → length g ≤ i → bare_within n g i ≡ i
unfolding bare_within
bare-out zero g i le = refl
bare-out (suc n) g i le = let none = node-out g i le in rw none refl

pub switch_out : (g : List Node) (p : Node) → length g ≤ edge p 0 → kind.Null ≡ switch_in g p
switch_out g p le =
    let same = bare-out (length g) g (edge p 0) le ∙ refl {a = edge p 0} in
    sym (ap (λ (i : ℕ). kind_of_number (node_at g i).kind) same
    ∙ ap (λ (q : Node). kind_of_number q.kind) (node-out g (edge p 0) le))

node-got : (g : List Node) (i : ℕ) (q : Node) → slice_get g i ≡ Some q → node_at g i ≡ q
node-got [] i q e = absurd (let none : ⊥ = cc (e) in none)
node-got (x ∷ xs) zero q e = let same : x ≡ q = cc (e) in same
node-got (x ∷ xs) (suc i) q e = node-got xs i q e

node-gone : (g : List Node) (i : ℕ) → slice_get g i ≡ None → node_at g i ≡ blank 0
node-gone [] i e = refl
node-gone (x ∷ xs) zero e = absurd (let none : ⊥ = cc (e) in none)
node-gone (x ∷ xs) (suc i) e = node-gone xs i e

pub switch_got : (g : List Node) (p q : Node) (b : ℕ) → b ≡ bare g (edge p 0) → slice_get g b ≡ Some q
    → kind_of_number q.kind ≡ switch_in g p
switch_got g p q b is e =
    sym (ap (λ (i : ℕ). kind_of_number (node_at g i).kind) (sym is)
    ∙ ap (λ (x : Node). kind_of_number x.kind) (node-got g b q e))

pub switch_gone : (g : List Node) (p : Node) (b : ℕ) → b ≡ bare g (edge p 0) → slice_get g b ≡ None
    → kind.Null ≡ switch_in g p
switch_gone g p b is e =
    sym (ap (λ (i : ℕ). kind_of_number (node_at g i).kind) (sym is)
    ∙ ap (λ (x : Node). kind_of_number x.kind) (node-gone g b e))

-- ---- labels

pub label_short : (n : ℕ) → n < 2 ^ 16 → label.Two n ≡ label_of (value_of_number kind.Short n)
label_short n lt =
    sym (ap label_of_layer (value-short (cast_signed w16 n))
    ∙ ap (λ (m : ℕ). label.Two m) (of_z-to_z w16 n lt))

pub label_long : (n : ℕ) → n < 2 ^ 32 → label.Four n ≡ label_of (value_of_number kind.Long n)
label_long n lt =
    sym (ap label_of_layer (value-long (cast_signed w32 n))
    ∙ ap (λ (m : ℕ). label.Four m) (of_z-to_z w32 n lt))

pub label_longlong : (n : ℕ) → n < 2 ^ 64 → label.Eight n ≡ label_of (value_of_number kind.LongLong n)
label_longlong n lt =
    sym (ap label_of_layer (value-longlong (cast_signed w64 n))
    ∙ ap (λ (m : ℕ). label.Eight m) (of_z-to_z w64 n lt))

pub label_ushort : (n : ℕ) → label.Two n ≡ label_of (value_of_number kind.UShort n)
label_ushort n = sym (ap label_of_layer (value-ushort n))

pub label_ulong : (n : ℕ) → label.Four n ≡ label_of (value_of_number kind.ULong n)
label_ulong n = sym (ap label_of_layer (value-ulong n))

pub label_ulonglong : (n : ℕ) → label.Eight n ≡ label_of (value_of_number kind.ULongLong n)
label_ulonglong n = sym (ap label_of_layer (value-ulonglong n))

pub label_boolean : (n : ℕ) → label.One (from_bool (nat_eq n 1)) ≡ label_of (value_of_number kind.Boolean n)
label_boolean n = sym (ap label_of_layer (value-boolean (nat_eq n 1)))

pub label_char : (n : ℕ) → label.One n ≡ label_of (value_of_number kind.Char n)
label_char n = sym (ap label_of_layer (value-char n))

pub label_enum : (n : ℕ) → label.Four n ≡ label_of (value_of_number kind.Enum n)
label_enum n = sym (ap label_of_layer (value-enum n))

-- of a kind that discriminates no union
pub label-none : (k : CodeKind) (n : ℕ)
    → (k ≡ kind.Short → ⊥)
    → (k ≡ kind.UShort → ⊥)
    → (k ≡ kind.Long → ⊥)
    → (k ≡ kind.ULong → ⊥)
    → (k ≡ kind.Enum → ⊥)
    → (k ≡ kind.LongLong → ⊥)
    → (k ≡ kind.ULongLong → ⊥)
    → (k ≡ kind.Boolean → ⊥)
    → (k ≡ kind.Char → ⊥)
    → label.One 0 ≡ label_of (value_of_number k n)
label-none kind.Short n n0 n1 n2 n3 n4 n5 n6 n7 n8 = absurd (n0 refl)
label-none kind.UShort n n0 n1 n2 n3 n4 n5 n6 n7 n8 = absurd (n1 refl)
label-none kind.Long n n0 n1 n2 n3 n4 n5 n6 n7 n8 = absurd (n2 refl)
label-none kind.ULong n n0 n1 n2 n3 n4 n5 n6 n7 n8 = absurd (n3 refl)
label-none kind.Enum n n0 n1 n2 n3 n4 n5 n6 n7 n8 = absurd (n4 refl)
label-none kind.LongLong n n0 n1 n2 n3 n4 n5 n6 n7 n8 = absurd (n5 refl)
label-none kind.ULongLong n n0 n1 n2 n3 n4 n5 n6 n7 n8 = absurd (n6 refl)
label-none kind.Boolean n n0 n1 n2 n3 n4 n5 n6 n7 n8 = absurd (n7 refl)
label-none kind.Char n n0 n1 n2 n3 n4 n5 n6 n7 n8 = absurd (n8 refl)
label-none kind.Null n n0 n1 n2 n3 n4 n5 n6 n7 n8 = sym (ap label_of_layer value-empty)
label-none kind.Void n n0 n1 n2 n3 n4 n5 n6 n7 n8 = sym (ap label_of_layer value-empty)
label-none kind.Octet n n0 n1 n2 n3 n4 n5 n6 n7 n8 = sym (ap label_of_layer value-empty)
label-none kind.AnyCode n n0 n1 n2 n3 n4 n5 n6 n7 n8 = sym (ap label_of_layer value-empty)
label-none kind.Code n n0 n1 n2 n3 n4 n5 n6 n7 n8 = sym (ap label_of_layer value-empty)
label-none kind.ObjRef n n0 n1 n2 n3 n4 n5 n6 n7 n8 = sym (ap label_of_layer value-empty)
label-none kind.Struct n n0 n1 n2 n3 n4 n5 n6 n7 n8 = sym (ap label_of_layer value-empty)
label-none kind.Union n n0 n1 n2 n3 n4 n5 n6 n7 n8 = sym (ap label_of_layer value-empty)
label-none kind.Str n n0 n1 n2 n3 n4 n5 n6 n7 n8 = sym (ap label_of_layer value-empty)
label-none kind.Sequence n n0 n1 n2 n3 n4 n5 n6 n7 n8 = sym (ap label_of_layer value-empty)
label-none kind.Array n n0 n1 n2 n3 n4 n5 n6 n7 n8 = sym (ap label_of_layer value-empty)
label-none kind.Alias n n0 n1 n2 n3 n4 n5 n6 n7 n8 = sym (ap label_of_layer value-empty)
label-none kind.Except n n0 n1 n2 n3 n4 n5 n6 n7 n8 = sym (ap label_of_layer value-empty)
