-- Of the nodes of a graph that was read.
use Rattle.std.proofs.Common.{◌≡◌, ℕ, pos, List, [], ◌∷◌, ◌++◌, map, length, take, get_or, ◌+◌, ◌<◌}
use Rattle.std.proofs.Common.{refl, sym, ap, subst, ◌∙◌, append_assoc}
use Rattle.std.proofs.lemmas.List.{append-nil, map-append, take_more}
use Rattle.tc_graph.specs.declared.node.Node.{Node}
use Rattle.tc_graph.specs.Nodes.{blank}
use Rattle.tc_graph.specs.Whole.{IsWhole}
use Rattle.td_typecode.specs.declared.kinds.CodeKind.{CodeKind}
use Rattle.td_typecode.specs.declared.kinds.CodeKind.TheVariants as kind
use Rattle.td_typecode.specs.declared.node_layer.BegunNode.{BegunNode}
use Rattle.td_typecode.specs.Known.{MemberNode, ArmNode}
use Rattle.td_typecode.specs.GraphNodes.{member_name, member_place, arm_number, layer_node, node_of, with_names}
use Rattle.td_typecode.specs.GraphNodes.{with_members, with_arms}
use Rattle.td_typecode.specs.NodeLayers.{known_node, known_nodes, leaf_numbers, fields_numbers, items_numbers}
use Rattle.td_typecode.specs.WholeGraphs.{AreRead, graph_of, nodes-whole}

pub graph_again : (bs : List BegunNode)
    → map (λ (b : BegunNode). node_of (known_node b)) bs ≡ graph_of (known_nodes bs)
graph_again [] = refl
graph_again (b ∷ bs) = ap (λ (ps : List Node). node_of (known_node b) ∷ ps) (graph_again bs)

pub whole_made : (bs : List BegunNode) (made : List Node)
    → made ≡ map (λ (b : BegunNode). node_of (known_node b)) bs → AreRead (known_nodes bs) → IsWhole made
whole_made bs made is read =
    subst IsWhole (sym (is ∙ graph_again bs)) (nodes-whole (known_nodes bs) read)

-- ---- layers

pub leaf_blank : (k : CodeKind) (n : ℕ) → blank n ≡ layer_node n (leaf_numbers k)
leaf_blank kind.Void n = refl
leaf_blank kind.Short n = refl
leaf_blank kind.Long n = refl
leaf_blank kind.UShort n = refl
leaf_blank kind.ULong n = refl
leaf_blank kind.Boolean n = refl
leaf_blank kind.Char n = refl
leaf_blank kind.Octet n = refl
leaf_blank kind.AnyCode n = refl
leaf_blank kind.Code n = refl
leaf_blank kind.LongLong n = refl
leaf_blank kind.ULongLong n = refl
leaf_blank k n = refl

pub fields_node : (k : CodeKind) (n : ℕ) (id name : List ℕ) (ms : List MemberNode)
    → record {
      kind = n;
      id = id;
      names = name ∷ map member_name ms;
      numbers = [];
      edges = map member_place ms;
    } ≡ layer_node n (fields_numbers k id name ms)
fields_node kind.Except n id name ms = refl
fields_node k n id name ms = refl

pub items_node : (k : CodeKind) (n item size : ℕ)
    → record { kind = n; id = []; names = []; numbers = pos size ∷ []; edges = item ∷ [] }
    ≡ layer_node n (items_numbers k item size)
items_node kind.Array n item size = refl
items_node k n item size = refl

-- ---- a node with more

names-twice : (p : Node) (xs ys : List (List ℕ)) → with_names (with_names p xs) ys ≡ with_names p (xs ++ ys)
names-twice p xs ys = rw (append_assoc p.names xs ys) refl

together : {X Y : Type 0} (front : List Y) (f : X → Y) (xs ys : List X)
    → (front ++ map f xs) ++ map f ys ≡ front ++ map f (xs ++ ys)
together front f xs ys =
    append_assoc front (map f xs) (map f ys) ∙ ap (λ (zs : List _). front ++ zs) (sym (map-append f xs ys))

members-twice : (p : Node) (xs ys : List MemberNode)
    → with_members (with_members p xs) ys ≡ with_members p (xs ++ ys)
members-twice p xs ys =
    rw (together p.names member_name xs ys, together p.edges member_place xs ys) refl

arms-twice : (p : Node) (xs ys : List ArmNode) → with_arms (with_arms p xs) ys ≡ with_arms p (xs ++ ys)
arms-twice p xs ys =
    rw (
      together p.names (λ (b : ArmNode). member_name b.1) xs ys,
      together p.numbers arm_number xs ys,
      together p.edges (λ (b : ArmNode). member_place b.1) xs ys,
    )
    refl

one-more : {X : Type 0} (xs : List X) (i : ℕ) (x : X) → i < length xs → x ≡ get_or xs i x
    → take i xs ++ x ∷ [] ≡ take (i + 1) xs
one-more xs i x lt is = ap (λ (y : _). take i xs ++ y ∷ []) is ∙ sym (take_more xs i x lt)

pub names-none : (p : Node) → p ≡ with_names p []
names-none p = rw (append-nil p.names) refl

pub names-on : (p now new : Node) (xs : List (List ℕ)) (i : ℕ) (x : (List ℕ)) → i < length xs
    → x ≡ get_or xs i x → now ≡ with_names p (take i xs) → new ≡ with_names now (x ∷ [])
    → new ≡ with_names p (take (i + 1) xs)
names-on p now new xs i x lt is so_far e =
    e ∙ ap (λ (q : Node). with_names q (x ∷ [])) so_far ∙ names-twice p (take i xs) (x ∷ [])
    ∙ ap (with_names p) (one-more xs i x lt is)

pub members-none : (p : Node) → p ≡ with_members p []
members-none p = rw (append-nil p.names, append-nil p.edges) refl

pub members-on : (p now new : Node) (xs : List MemberNode) (i : ℕ) (x : MemberNode) → i < length xs
    → x ≡ get_or xs i x → now ≡ with_members p (take i xs) → new ≡ with_members now (x ∷ [])
    → new ≡ with_members p (take (i + 1) xs)
members-on p now new xs i x lt is so_far e =
    e ∙ ap (λ (q : Node). with_members q (x ∷ [])) so_far ∙ members-twice p (take i xs) (x ∷ [])
    ∙ ap (with_members p) (one-more xs i x lt is)

pub arms-none : (p : Node) → p ≡ with_arms p []
arms-none p = rw (append-nil p.names, append-nil p.numbers, append-nil p.edges) refl

pub arms-on : (p now new : Node) (xs : List ArmNode) (i : ℕ) (x : ArmNode) → i < length xs
    → x ≡ get_or xs i x → now ≡ with_arms p (take i xs) → new ≡ with_arms now (x ∷ [])
    → new ≡ with_arms p (take (i + 1) xs)
arms-on p now new xs i x lt is so_far e =
    e ∙ ap (λ (q : Node). with_arms q (x ∷ [])) so_far ∙ arms-twice p (take i xs) (x ∷ [])
    ∙ ap (with_arms p) (one-more xs i x lt is)
