-- What is read and written at a node of a graph.
use Rattle.std.proofs.Common.{◌≡◌, ℕ, zero, suc, ◌+◌, ◌-◌, ◌<◌, ◌≤◌, Bool, true, false, List, [], ◌∷◌, length, drop}
use Rattle.std.proofs.Common.{get_or, refl, sym, ap, ◌∙◌, arith}
use Rattle.td_cdr.specs.Sound.{either}
use Rattle.std.specs.Prelude.{Option, Some, None, Err, not}
use Rattle.td_cdr.specs.declared.value_fault.ValueFault.{ValueFault}
use Rattle.td_cdr.specs.Place.{At}
use Rattle.td_cdr.specs.Format.{Format, none, upwards}
use Rattle.tc_graph.specs.declared.node.Node.{Node}
use Rattle.tc_graph.specs.Nodes.{node_at}
use Rattle.td_typecode.specs.declared.code.Value.{Value}
use Rattle.td_typecode.specs.declared.kinds.CodeKind.{CodeKind}
use Rattle.td_typecode.specs.declared.kinds.CodeKind.TheVariants as kind
use Rattle.tc_edges.specs.Edges.{edge_of}
use Rattle.td_typecode.specs.Kinds.{kind_by_number, all_kinds}
use Rattle.td_typecode.specs.Labels.{no_value}
use Rattle.td_typecode.specs.NodeLabels.{label_at_node, label_behind, label_of_node, label_of_kind, spelled_label}
use Rattle.td_typecode.specs.EdgeLayers.{EdgeLayer, node_layer, kind_layer, layer_of_kind, default_number}
use Rattle.td_typecode.specs.NodeValues.{value_of_node, value_at_node, leaf_values}
use Rattle.td_typecode.specs.Outermost.{outer}
use Rattle.td_typecode.specs.ValueLayers.{index_of, default_arm, first_labelled, branch_labelled, is_chosen_by}
use Rattle.std.proofs.lemmas.List.{drop_more, drop_all}
use Rattle.tc_edges.specs.declared.edges.Edge.{Edge}
use Rattle.td_typecode.specs.Values.{anys, behind, left, node_values, edge_values, node_kind}

-- ---- the layer

layer-is : (g : List Node) (i : ℕ) (o : Option CodeKind) → kind_by_number all_kinds (node_at g i).kind ≡ o
    → node_layer g i ≡ layer_of_kind (node_at g i) (edge_of g i) o
layer-is g i o e = ap (layer_of_kind (node_at g i) (edge_of g i)) e

pub default-back : (o : Option ℕ) → index_of (default_number o) ≡ o
default-back (Some d) = refl
default-back None = refl

-- ---- values

node-at : (levels : ℕ) (g : List Node) (n i : ℕ) (l : Option EdgeLayer) → (n ≡ 0 → ⊥) → node_layer g i ≡ l → (a : At)
    → (node_values levels g n i).format.reads a
    ≡ (value_of_node levels (anys levels) (outer levels) g (behind levels g) i (edge_values levels g (n - 1)) (n - 1)
    l).format.reads a
unfolding value_at_node
node-at levels g zero i l some is a = absurd (some refl)
node-at levels g (suc n) i l some is a =
    let less : suc n - 1 ≡ n = omega arith in
    rw less (ap (λ (x : Option EdgeLayer). (value_of_node levels (anys levels) (outer levels) g (behind levels g) i
    (edge_values levels g n) n x).format.reads a) is)

node-writes-at : (levels : ℕ) (g : List Node) (n i : ℕ) (l : Option EdgeLayer) (v : Value) → (n ≡ 0 → ⊥)
    → node_layer g i ≡ l
    → (node_values levels g n i).format.writes v
    ≡ (value_of_node levels (anys levels) (outer levels) g (behind levels g) i (edge_values levels g (n - 1)) (n - 1)
    l).format.writes v
unfolding value_at_node
node-writes-at levels g zero i l v some is = absurd (some refl)
node-writes-at levels g (suc n) i l v some is =
    let less : suc n - 1 ≡ n = omega arith in
    rw less (ap (λ (x : Option EdgeLayer). (value_of_node levels (anys levels) (outer levels) g (behind levels g) i
    (edge_values levels g n) n x).format.writes v) is)

pub kind-reads : (levels : ℕ) (g : List Node) (n i : ℕ) (k : CodeKind) → (n ≡ 0 → ⊥)
    → kind_by_number all_kinds (node_at g i).kind ≡ Some k → (a : At)
    → (node_values levels g n i).format.reads a ≡ (node_kind levels g (n - 1) i k).format.reads a
kind-reads levels g n i k some is a =
    node-at levels g n i (kind_layer (node_at g i) (edge_of g i) k) some (layer-is g i (Some k) is) a

pub kindless-reads : (levels : ℕ) (g : List Node) (n i : ℕ) → (n ≡ 0 → ⊥)
    → kind_by_number all_kinds (node_at g i).kind ≡ None → (a : At)
    → (node_values levels g n i).format.reads a ≡ Err (no_value a)
kindless-reads levels g n i some is a = node-at levels g n i None some (layer-is g i None is) a

pub kind-writes : (levels : ℕ) (g : List Node) (n i : ℕ) (k : CodeKind) (v : Value) → (n ≡ 0 → ⊥)
    → kind_by_number all_kinds (node_at g i).kind ≡ Some k
    → (node_values levels g n i).format.writes v ≡ (node_kind levels g (n - 1) i k).format.writes v
kind-writes levels g n i k v some is =
    node-writes-at levels g n i (kind_layer (node_at g i) (edge_of g i) k) v some (layer-is g i (Some k) is)

pub kindless-writes : (levels : ℕ) (g : List Node) (n i : ℕ) (v : Value) → (n ≡ 0 → ⊥)
    → kind_by_number all_kinds (node_at g i).kind ≡ None
    → (node_values levels g n i).format.writes v ≡ none
kindless-writes levels g n i v some is = node-writes-at levels g n i None v some (layer-is g i None is)

-- ---- kinds that hold no other TypeCode

-- a kind whose values are told by it and its node alone
pub record IsLeaf (k : CodeKind) : Type 0 where
  pub no_any : k ≡ kind.AnyCode → ⊥
  pub no_code : k ≡ kind.Code → ⊥
  pub no_struct : k ≡ kind.Struct → ⊥
  pub no_union : k ≡ kind.Union → ⊥
  pub no_sequence : k ≡ kind.Sequence → ⊥
  pub no_array : k ≡ kind.Array → ⊥
  pub no_alias : k ≡ kind.Alias → ⊥

pub leaf-is : (levels : ℕ) (g : List Node) (n i : ℕ) (k : CodeKind) → IsLeaf k
    → (node_kind levels g n i k).format ≡ (leaf_values (node_at g i) k).format
leaf-is levels g n i kind.Null ok = refl
leaf-is levels g n i kind.Void ok = refl
leaf-is levels g n i kind.Short ok = refl
leaf-is levels g n i kind.Long ok = refl
leaf-is levels g n i kind.UShort ok = refl
leaf-is levels g n i kind.ULong ok = refl
leaf-is levels g n i kind.Boolean ok = refl
leaf-is levels g n i kind.Char ok = refl
leaf-is levels g n i kind.Octet ok = refl
leaf-is levels g n i kind.LongLong ok = refl
leaf-is levels g n i kind.ULongLong ok = refl
leaf-is levels g n i kind.Str ok = refl
leaf-is levels g n i kind.ObjRef ok = refl
leaf-is levels g n i kind.Enum ok = refl
leaf-is levels g n i kind.Except ok = refl
leaf-is levels g n i kind.AnyCode ok = absurd (ok.no_any refl)
leaf-is levels g n i kind.Code ok = absurd (ok.no_code refl)
leaf-is levels g n i kind.Struct ok = absurd (ok.no_struct refl)
leaf-is levels g n i kind.Union ok = absurd (ok.no_union refl)
leaf-is levels g n i kind.Sequence ok = absurd (ok.no_sequence refl)
leaf-is levels g n i kind.Array ok = absurd (ok.no_array refl)
leaf-is levels g n i kind.Alias ok = absurd (ok.no_alias refl)

pub leaf-reads : (levels : ℕ) (g : List Node) (n i : ℕ) (k : CodeKind) → IsLeaf k → (a : At)
    → (node_kind levels g n i k).format.reads a ≡ (leaf_values (node_at g i) k).format.reads a
leaf-reads levels g n i k ok a = ap (λ (f : Format ValueFault Value). f.reads a) (leaf-is levels g n i k ok)

pub leaf-writes : (levels : ℕ) (g : List Node) (n i : ℕ) (k : CodeKind) → IsLeaf k → (v : Value)
    → (node_kind levels g n i k).format.writes v ≡ (leaf_values (node_at g i) k).format.writes v
leaf-writes levels g n i k ok v = ap (λ (f : Format ValueFault Value). f.writes v) (leaf-is levels g n i k ok)

-- ---- discriminators

label-at : (levels : ℕ) (g : List Node) (n i : ℕ) (l : Option EdgeLayer) → (n ≡ 0 → ⊥) → node_layer g i ≡ l → (a : At)
    → (label_at_node g (label_behind g levels) n i).format.reads a
    ≡ (label_of_node (spelled_label g levels (n - 1)) l).format.reads a
unfolding label_at_node
label-at levels g zero i l some is a = absurd (some refl)
label-at levels g (suc n) i l some is a =
    let less : suc n - 1 ≡ n = omega arith in
    rw less (ap (λ (x : Option EdgeLayer). (label_of_node (spelled_label g levels n) x).format.reads a) is)

pub label-kind-reads : (levels : ℕ) (g : List Node) (n i : ℕ) (k : CodeKind) → (n ≡ 0 → ⊥)
    → kind_by_number all_kinds (node_at g i).kind ≡ Some k → (a : At)
    → (label_at_node g (label_behind g levels) n i).format.reads a ≡ (label_of_kind g levels (n - 1) i k).format.reads a
label-kind-reads levels g n i k some is a =
    label-at levels g n i (kind_layer (node_at g i) (edge_of g i) k) some (layer-is g i (Some k) is) a

pub label-kindless-reads : (levels : ℕ) (g : List Node) (n i : ℕ) → (n ≡ 0 → ⊥)
    → kind_by_number all_kinds (node_at g i).kind ≡ None → (a : At)
    → (label_at_node g (label_behind g levels) n i).format.reads a ≡ Err (no_value a)
label-kindless-reads levels g n i some is a = label-at levels g n i None some (layer-is g i None is) a

-- ---- numbers from 0 on

pub upwards-length : (k n : ℕ) → length (upwards k n) ≡ n
upwards-length k zero = refl
upwards-length k (suc n) = ap suc (upwards-length (suc k) n)

pub upwards-at : (k n i d : ℕ) → i < n → get_or (upwards k n) i d ≡ k + i
upwards-at k zero i d lt = absurd (let e : ⊥ = omega arith in e)
upwards-at k (suc n) zero d lt = omega arith
upwards-at k (suc n) (suc i) d lt = upwards-at (suc k) n i d (omega arith) ∙ omega arith

-- the number at an index is the index
pub upwards-is : (n i : ℕ) → i < n → i ≡ get_or (upwards 0 n) i i
upwards-is n i lt = sym (upwards-at 0 n i i lt ∙ omega arith)

-- ---- the arm of a union's node

upwards-drop : (n i : ℕ) → i < n → drop i (upwards 0 n) ≡ i ∷ drop (i + 1) (upwards 0 n)
upwards-drop n i lt =
    let inside : i < length (upwards 0 n) = omega (arith, lt, upwards-length 0 n) in
    drop_more (upwards 0 n) i i inside ∙ ap (λ (x : ℕ). x ∷ drop (i + 1) (upwards 0 n)) (sym (upwards-is n i lt))

abbrev first_of : (ℕ → Value → Bool) → Option ℕ → Value → ℕ → ℕ → Option ℕ
first_of has default label n i = first_labelled has default label i (drop i (upwards 0 n))

-- one that isn't chosen is passed over
pub arm-next : (has : ℕ → Value → Bool) (default : Option ℕ) (label : Value) (n i : ℕ) → i < n
    → is_chosen_by has default label i i ≡ false
    → first_labelled has default label (i + 1) (drop (i + 1) (upwards 0 n))
    ≡ first_labelled has default label i (drop i (upwards 0 n))
arm-next has default label n i lt other = rw (upwards-drop n i lt, other) refl

-- one that is chosen is the arm
pub arm-here : (has : ℕ → Value → Bool) (default : Option ℕ) (label : Value) (n i : ℕ) → i < n
    → is_chosen_by has default label i i ≡ true
    → first_of has default label n i ≡ first_labelled has default label 0 (upwards 0 n)
    → branch_labelled has default label (upwards 0 n) ≡ Some i
arm-here has default label n i lt here so_far =
    let found : first_of has default label n i ≡ Some i = rw (upwards-drop n i lt, here) refl in
    rw (sym so_far ∙ found) refl

-- where none is, it is the default
pub arm-last : (has : ℕ → Value → Bool) (default : Option ℕ) (label : Value) (n i : ℕ) → n ≤ i
    → first_of has default label n i ≡ first_labelled has default label 0 (upwards 0 n)
    → branch_labelled has default label (upwards 0 n) ≡ default_arm default (upwards 0 n)
arm-last has default label n i le so_far =
    let past : length (upwards 0 n) ≤ i = omega (arith, le, upwards-length 0 n) in
    let none_left : drop i (upwards 0 n) ≡ [] = drop_all i (upwards 0 n) past in
    let none_first : first_labelled has default label 0 (upwards 0 n) ≡ None =
    sym so_far ∙ ap (first_labelled has default label i) none_left in
    rw none_first refl

-- ---- edges

is-so : (b : Bool) → not b ≡ false → b ≡ true
is-so true e = refl
is-so false e = absurd (let bad : ⊥ = cc (e) in bad)

-- behind an indirection one level less is left
pub along-on : (levels : ℕ) (graph : List Node) (n : ℕ) (e : Edge) → (levels ≡ 0 → ⊥)
    → not e.is_indirection ≡ false
    → edge_values levels graph n e ≡ node_values (levels - 1) graph 16 e.place
unfolding left
along-on zero graph n e some is = absurd (some refl)
along-on (suc levels) graph n e some is =
    let less : suc levels - 1 ≡ levels = omega arith in
    ap
    (λ (b : Bool). either b (behind (suc levels) graph e.place) (node_values (suc levels) graph n e.place))
    (is-so e.is_indirection is)
    ∙ ap (λ (m : ℕ). node_values m graph 16 e.place) (sym less)
