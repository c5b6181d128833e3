-- The kinds of TypeCodes that have no parameters, and graphs: when one is the same as another that is no alias.
use Rattle.std.proofs.Common.{◌≡◌, ℕ, Bool, true, false, not, ◌&&◌, List, [], nat_eq, refl, sym, ap, ◌∙◌, true≢false}
use Rattle.std.specs.Cmp.Lexicographic.{pointwise}
use Rattle.std.specs.Ordering.{int_eq}
use Rattle.std.proofs.Math.Bool.{and-false}
use Rattle.tc_graph.specs.declared.node.Node.{Node}
use Rattle.td_typecode.specs.declared.label.Label.{Label}
use Rattle.td_typecode.specs.declared.code.TypeCode.{TypeCode, TypeCode-F, fold_out-TypeCode, map-TypeCode}
use Rattle.td_typecode.specs.declared.code.TypeCode.{out-TypeCode}
use Rattle.td_typecode.specs.declared.code.TypeCode.{roll-TypeCode, roll-out-TypeCode}
use Rattle.td_typecode.specs.declared.code.TypeCode.TheVariants as code
use Rattle.td_typecode.specs.declared.code.TypeCode.TheOpen as c
use Rattle.td_typecode.specs.declared.code.Value.{Value, fold-Value}
use Rattle.td_typecode.specs.declared.code.Any.{Any, fold-Any}
use Rattle.td_typecode.specs.declared.code.Arm.{Arm}
use Rattle.td_typecode.specs.declared.code.Member.{Member}
use Rattle.td_typecode.specs.declared.kinds.CodeKind.{CodeKind}
use Rattle.td_typecode.specs.declared.kinds.CodeKind.TheVariants as kind
use Rattle.td_typecode.specs.Kinds.{number_of, indirection}
use Rattle.td_typecode.specs.Labels.{Layer, label_of_layer}
use Rattle.td_typecode.specs.Layers.{code-linked}
use Rattle.td_typecode.specs.Codes.{kind_of}
use Rattle.td_typecode.specs.WritingCodes.{kind_of_layer}
use Rattle.td_typecode.specs.Same.{Shape, Component, empty, alike, like, kinds_agree, ids_agree, shape, shape_layer}
use Rattle.td_typecode.specs.Same.{kind_shape}
use Rattle.td_typecode.specs.Same.{graph_shape, any_layer, arm_layer, member_layer, arm_entry, member_entry, is_alias}
use Rattle.td_typecode.specs.Same.{alike_node}
use Rattle.td_typecode.proofs.OfPlainKind.{is_plain}
use Rattle.td_sameness.specs.Graphs.{bare_agrees}

abbrev pub layer_shapes : Layer → TypeCode-F Shape Label Label Component Component
layer_shapes =
    map-TypeCode TypeCode Value Any Arm Member Shape Label Label Component Component shape
    (fold-Value Shape Label Label Component Component shape_layer label_of_layer any_layer arm_layer member_layer)
    (fold-Any Shape Label Label Component Component shape_layer label_of_layer any_layer arm_layer member_layer) arm_entry
    member_entry

pub shape-at : (t : TypeCode) (l : Layer) → out-TypeCode t ≡ l → shape t ≡ shape_layer (layer_shapes l)
shape-at t l is =
    fold_out-TypeCode Shape Label Label Component Component shape_layer label_of_layer any_layer arm_layer member_layer t
    ∙ ap (λ (x : Layer). shape_layer (layer_shapes x)) is

and-true : (b : Bool) → b ≡ (b && true)
and-true true = refl
and-true false = refl

-- the numbers of the kinds with more than an id do not agree with the number of k
module _ (k : CodeKind) (not_struct : nat_eq (number_of k) 15 ≡ false) (not_union : nat_eq (number_of k) 16 ≡ false)
    (not_enum : nat_eq (number_of k) 17 ≡ false) (not_str : nat_eq (number_of k) 18 ≡ false)
    (not_sequence : nat_eq (number_of k) 19 ≡ false) (not_array : nat_eq (number_of k) 20 ≡ false)
    (not_except : nat_eq (number_of k) 22 ≡ false) (not_graph : nat_eq (number_of k) indirection ≡ false) where
  abbrev others : Shape → Bool
  others s = pointwise int_eq [] s.numbers && (ids_agree [] s.id && alike empty s.inner)

  unlike : (s : Shape) → nat_eq (number_of k) s.kind ≡ false
      → nat_eq (number_of k) s.kind ≡ like (kind_shape k) s
  unlike s e = e ∙ sym (ap (λ (b : Bool). (b && not (nat_eq (number_of k) indirection)) && others s) e)

  -- a kind without parameters, and an object reference without an id
  alike-kinds : (j : ℕ) → nat_eq (number_of k) j ≡ (kinds_agree (number_of k) j && true)
  alike-kinds j =
      and-true (nat_eq (number_of k) j)
      ∙ ap (λ (b : Bool). nat_eq (number_of k) j && not b) (sym not_graph)
      ∙ and-true (kinds_agree (number_of k) j)

  like-layer : (l : Layer) → is_alias l ≡ false
      → nat_eq (number_of k) (shape_layer (layer_shapes l)).kind ≡ like (kind_shape k) (shape_layer (layer_shapes l))
  like-layer c.Null a = alike-kinds (number_of kind.Null)
  like-layer c.Void a = alike-kinds (number_of kind.Void)
  like-layer c.TypeCode::Short a = alike-kinds (number_of kind.Short)
  like-layer c.TypeCode::Long a = alike-kinds (number_of kind.Long)
  like-layer c.TypeCode::UShort a = alike-kinds (number_of kind.UShort)
  like-layer c.TypeCode::ULong a = alike-kinds (number_of kind.ULong)
  like-layer c.TypeCode::Boolean a = alike-kinds (number_of kind.Boolean)
  like-layer c.TypeCode::Char a = alike-kinds (number_of kind.Char)
  like-layer c.TypeCode::Octet a = alike-kinds (number_of kind.Octet)
  like-layer c.AnyCode a = alike-kinds (number_of kind.AnyCode)
  like-layer c.TypeCode::Code a = alike-kinds (number_of kind.Code)
  like-layer c.TypeCode::LongLong a = alike-kinds (number_of kind.LongLong)
  like-layer c.TypeCode::ULongLong a = alike-kinds (number_of kind.ULongLong)
  like-layer (c.TypeCode::ObjRef id name) a = alike-kinds (number_of kind.ObjRef)
  like-layer (c.TypeCode::Struct id name members) a =
      unlike (shape_layer (layer_shapes (c.TypeCode::Struct id name members))) not_struct
  like-layer (c.TypeCode::Union id name switch default arms) a =
      unlike (shape_layer (layer_shapes (c.TypeCode::Union id name switch default arms))) not_union
  like-layer (c.TypeCode::Enum id name names) a =
      unlike (shape_layer (layer_shapes (c.TypeCode::Enum id name names))) not_enum
  like-layer (c.TypeCode::Str bound) a = unlike (shape_layer (layer_shapes (c.TypeCode::Str bound))) not_str
  like-layer (c.Sequence item bound) a = unlike (shape_layer (layer_shapes (c.Sequence item bound))) not_sequence
  like-layer (c.Array item len) a = unlike (shape_layer (layer_shapes (c.Array item len))) not_array
  like-layer (c.Except id name members) a = unlike (shape_layer (layer_shapes (c.Except id name members))) not_except
  like-layer (c.Alias id name item) a = absurd (true≢false a)
  like-layer (c.Linked graph) a = unlike graph_shape not_graph

  same-kinds : (a b : TypeCode) → shape a ≡ kind_shape k → is_alias (out-TypeCode b) ≡ false
      → nat_eq (number_of k) (shape b).kind ≡ like (shape a) (shape b)
  same-kinds a b s bare =
      ap (λ (x : Shape). nat_eq (number_of k) x.kind) (shape-at b (out-TypeCode b) refl)
      ∙ like-layer (out-TypeCode b) bare
      ∙ ap (λ (x : Shape). like (kind_shape k) x) (sym (shape-at b (out-TypeCode b) refl))
      ∙ ap (λ (x : Shape). like x (shape b)) (sym s)

plain-same-at : (a b : TypeCode) (l : Layer) → out-TypeCode a ≡ l → is_plain l ≡ true
    → is_alias (out-TypeCode b) ≡ false
    → nat_eq (number_of (kind_of_layer l)) (shape b).kind ≡ like (shape a) (shape b)
plain-same-at a b c.Null is p bare =
    same-kinds kind.Null refl refl refl refl refl refl refl refl a b (shape-at a c.Null is) bare
plain-same-at a b c.Void is p bare =
    same-kinds kind.Void refl refl refl refl refl refl refl refl a b (shape-at a c.Void is) bare
plain-same-at a b c.TypeCode::Short is p bare =
    same-kinds kind.Short refl refl refl refl refl refl refl refl a b (shape-at a c.TypeCode::Short is) bare
plain-same-at a b c.TypeCode::Long is p bare =
    same-kinds kind.Long refl refl refl refl refl refl refl refl a b (shape-at a c.TypeCode::Long is) bare
plain-same-at a b c.TypeCode::UShort is p bare =
    same-kinds kind.UShort refl refl refl refl refl refl refl refl a b (shape-at a c.TypeCode::UShort is) bare
plain-same-at a b c.TypeCode::ULong is p bare =
    same-kinds kind.ULong refl refl refl refl refl refl refl refl a b (shape-at a c.TypeCode::ULong is) bare
plain-same-at a b c.TypeCode::Boolean is p bare =
    same-kinds kind.Boolean refl refl refl refl refl refl refl refl a b (shape-at a c.TypeCode::Boolean is) bare
plain-same-at a b c.TypeCode::Char is p bare =
    same-kinds kind.Char refl refl refl refl refl refl refl refl a b (shape-at a c.TypeCode::Char is) bare
plain-same-at a b c.TypeCode::Octet is p bare =
    same-kinds kind.Octet refl refl refl refl refl refl refl refl a b (shape-at a c.TypeCode::Octet is) bare
plain-same-at a b c.AnyCode is p bare =
    same-kinds kind.AnyCode refl refl refl refl refl refl refl refl a b (shape-at a c.AnyCode is) bare
plain-same-at a b c.TypeCode::Code is p bare =
    same-kinds kind.Code refl refl refl refl refl refl refl refl a b (shape-at a c.TypeCode::Code is) bare
plain-same-at a b c.TypeCode::LongLong is p bare =
    same-kinds kind.LongLong refl refl refl refl refl refl refl refl a b (shape-at a c.TypeCode::LongLong is) bare
plain-same-at a b c.TypeCode::ULongLong is p bare =
    same-kinds kind.ULongLong refl refl refl refl refl refl refl refl a b (shape-at a c.TypeCode::ULongLong is) bare
plain-same-at a b (c.TypeCode::ObjRef id name) is p bare = absurd (true≢false (sym p))
plain-same-at a b (c.TypeCode::Struct id name members) is p bare = absurd (true≢false (sym p))
plain-same-at a b (c.TypeCode::Union id name switch default arms) is p bare = absurd (true≢false (sym p))
plain-same-at a b (c.TypeCode::Enum id name names) is p bare = absurd (true≢false (sym p))
plain-same-at a b (c.TypeCode::Str bound) is p bare = absurd (true≢false (sym p))
plain-same-at a b (c.Sequence item bound) is p bare = absurd (true≢false (sym p))
plain-same-at a b (c.Array item len) is p bare = absurd (true≢false (sym p))
plain-same-at a b (c.Alias id name item) is p bare = absurd (true≢false (sym p))
plain-same-at a b (c.Except id name members) is p bare = absurd (true≢false (sym p))
plain-same-at a b (c.Linked graph) is p bare = absurd (true≢false (sym p))

pub plain-same : (a b : TypeCode) → is_plain (out-TypeCode a) ≡ true → is_alias (out-TypeCode b) ≡ false
    → nat_eq (number_of (kind_of a)) (shape b).kind ≡ like (shape a) (shape b)
plain-same a b p bare = plain-same-at a b (out-TypeCode a) refl p bare

-- ---- a graph is the same as nothing here

graph-unlike : (s : Shape) → like graph_shape s ≡ false
graph-unlike s =
    ap (λ (b : Bool). b && (pointwise int_eq [] s.numbers && (ids_agree [] s.id && alike empty s.inner)))
    (and-false (nat_eq indirection s.kind))

pub graph-same : (a b : TypeCode) (graph : List Node) → a ≡ code.Linked graph → like (shape a) (shape b) ≡ false
graph-same a b graph is =
    ap (λ (s : Shape). like s (shape b)) (shape-at a (c.Linked graph) (ap out-TypeCode is ∙ code-linked graph))
    ∙ graph-unlike (shape b)

-- ---- the number of a kind is what is seen of it

shown-at : (t : TypeCode) (l : Layer) → out-TypeCode t ≡ l → is_alias l ≡ false
    → ((graph : List Node) → t ≡ code.Linked graph → ⊥)
    → number_of (kind_of_layer l) ≡ (shape_layer (layer_shapes l)).kind
shown-at t c.Null is a other = refl
shown-at t c.Void is a other = refl
shown-at t c.TypeCode::Short is a other = refl
shown-at t c.TypeCode::Long is a other = refl
shown-at t c.TypeCode::UShort is a other = refl
shown-at t c.TypeCode::ULong is a other = refl
shown-at t c.TypeCode::Boolean is a other = refl
shown-at t c.TypeCode::Char is a other = refl
shown-at t c.TypeCode::Octet is a other = refl
shown-at t c.AnyCode is a other = refl
shown-at t c.TypeCode::Code is a other = refl
shown-at t c.TypeCode::LongLong is a other = refl
shown-at t c.TypeCode::ULongLong is a other = refl
shown-at t (c.TypeCode::ObjRef id name) is a other = refl
shown-at t (c.TypeCode::Struct id name members) is a other = refl
shown-at t (c.TypeCode::Union id name switch default arms) is a other = refl
shown-at t (c.TypeCode::Enum id name names) is a other = refl
shown-at t (c.TypeCode::Str bound) is a other = refl
shown-at t (c.Sequence item bound) is a other = refl
shown-at t (c.Array item len) is a other = refl
shown-at t (c.Except id name members) is a other = refl
shown-at t (c.Alias id name item) is a other = absurd (true≢false a)
shown-at t (c.Linked graph) is a other =
    absurd (other graph (sym (roll-out-TypeCode t) ∙ ap roll-TypeCode is ∙ code.rolls-Linked graph))

pub kind-shown : (t : TypeCode) → is_alias (out-TypeCode t) ≡ false
    → ((graph : List Node) → t ≡ code.Linked graph → ⊥) → number_of (kind_of t) ≡ (shape t).kind
kind-shown t bare other =
    shown-at t (out-TypeCode t) refl bare other
    ∙ ap (λ (s : Shape). s.kind) (sym (shape-at t (out-TypeCode t) refl))

pub graph-shown : (t : TypeCode) (graph : List Node) → t ≡ code.Linked graph → indirection ≡ (shape t).kind
graph-shown t graph is =
    ap (λ (s : Shape). s.kind) (sym (shape-at t (c.Linked graph) (ap out-TypeCode is ∙ code-linked graph)))

-- ---- one without parameters against a node

plain-placed-at : (g : List Node) (p : Node) (l : Layer) → is_plain l ≡ true
    → alike_node g (shape_layer (layer_shapes l)) p ≡ bare_agrees g (number_of (kind_of_layer l)) p
plain-placed-at g p c.Null plain = refl
plain-placed-at g p c.Void plain = refl
plain-placed-at g p c.TypeCode::Short plain = refl
plain-placed-at g p c.TypeCode::Long plain = refl
plain-placed-at g p c.TypeCode::UShort plain = refl
plain-placed-at g p c.TypeCode::ULong plain = refl
plain-placed-at g p c.TypeCode::Boolean plain = refl
plain-placed-at g p c.TypeCode::Char plain = refl
plain-placed-at g p c.TypeCode::Octet plain = refl
plain-placed-at g p c.AnyCode plain = refl
plain-placed-at g p c.TypeCode::Code plain = refl
plain-placed-at g p c.TypeCode::LongLong plain = refl
plain-placed-at g p c.TypeCode::ULongLong plain = refl
plain-placed-at g p (c.TypeCode::ObjRef id name) plain = absurd (true≢false (sym plain))
plain-placed-at g p (c.TypeCode::Struct id name members) plain = absurd (true≢false (sym plain))
plain-placed-at g p (c.TypeCode::Union id name switch default arms) plain = absurd (true≢false (sym plain))
plain-placed-at g p (c.TypeCode::Enum id name names) plain = absurd (true≢false (sym plain))
plain-placed-at g p (c.TypeCode::Str bound) plain = absurd (true≢false (sym plain))
plain-placed-at g p (c.Sequence item bound) plain = absurd (true≢false (sym plain))
plain-placed-at g p (c.Array item len) plain = absurd (true≢false (sym plain))
plain-placed-at g p (c.Alias id name item) plain = absurd (true≢false (sym plain))
plain-placed-at g p (c.Except id name members) plain = absurd (true≢false (sym plain))
plain-placed-at g p (c.Linked graph) plain = absurd (true≢false (sym plain))

pub plain-placed : (g : List Node) (p : Node) (t : TypeCode) → is_plain (out-TypeCode t) ≡ true
    → alike_node g (shape t) p ≡ bare_agrees g (number_of (kind_of t)) p
plain-placed g p t plain =
    ap (λ (s : Shape). alike_node g s p) (shape-at t (out-TypeCode t) refl)
    ∙ plain-placed-at g p (out-TypeCode t) plain

pub graph-placed : (g : List Node) (p : Node) (t : TypeCode) (graph : List Node) → t ≡ code.Linked graph
    → alike_node g (shape t) p ≡ false
graph-placed g p t graph is =
    ap (λ (s : Shape). alike_node g s p) (shape-at t (c.Linked graph) (ap out-TypeCode is ∙ code-linked graph))
    ∙ rw (and-false (nat_eq indirection p.kind)) refl
