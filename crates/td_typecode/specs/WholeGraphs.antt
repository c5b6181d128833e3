-- Nodes that were read are those of a whole graph, and the graph tells what was known of them.
use Rattle.std.proofs.Common.{◌≡◌, ℕ, zero, suc, ◌<◌, ◌≤◌, Bool, true, false, cond, List, [], ◌∷◌, length, map, refl}
use Rattle.std.proofs.Common.{sym, ap}
use Rattle.std.proofs.Common.{subst, ◌∙◌, arith, inl, inr, ◌⊎◌}
use Rattle.std.specs.Prelude.{◌&&◌, nat_eq, slice_index, if◌then◌else◌, Option, Some, None}
use Rattle.std.proofs.lemmas.Bool.{eq-eqb}
use Rattle.std.proofs.lemmas.List.{length-map}
use Rattle.tc_graph.specs.declared.node.Node.{Node}
use Rattle.tc_graph.specs.Nodes.{node_at, edge, is_alias as is_alias_node}
use Rattle.tc_graph.specs.Aliases.{bare_within, bare, AliasChain}
use Rattle.tc_graph.specs.Whole.{IsWhole}
use Rattle.tc_graph.proofs.Chains.{bare-no_alias}
use Rattle.td_cdr.specs.declared.order.Order.{Order}
use Rattle.td_cdr.specs.Lawful.{AreOctets}
use Rattle.td_cdr.specs.Format.{nth}
use Rattle.td_typecode.specs.declared.code.TypeCode.TheOpen as c
use Rattle.td_typecode.specs.declared.code.Value.{Value}
use Rattle.td_typecode.specs.declared.kinds.CodeKind.{CodeKind}
use Rattle.td_typecode.specs.declared.kinds.CodeKind.TheVariants as kind
use Rattle.td_typecode.specs.declared.mode.Mode.{Mode}
use Rattle.td_indirection.specs.States.{empty, nodes}
use Rattle.td_typecode.specs.Kinds.{number_of, each_numbered}
use Rattle.td_typecode.specs.WritingCodes.{kind_of_layer}
use Rattle.td_typecode.specs.Known.{MemberNode, ArmNode, Numbers, KnownNode, KnownState, node_with_layer, layer_of}
use Rattle.td_typecode.specs.Known.{kind_known, item_of}
use Rattle.td_typecode.specs.Known.{is_alias}
use Rattle.td_typecode.specs.GraphNodes.{member_name, member_place, arm_number, layer_node, node_with, node_of}
use Rattle.td_typecode.specs.GraphCodes.{most_nodes, edges}
use Rattle.td_typecode.specs.ReadNodes.{goes_on, chain_start, LeavesChain, kind_under, bare_kind, AreLabels, LabelsFit}
use Rattle.td_typecode.specs.ReadNodes.{edges_of}
use Rattle.td_typecode.specs.ReadNodes.{AllBelow, IsNoGraph, IsNode}
use Rattle.td_typecode.specs.WholeLists.{nth-there}
use Rattle.td_typecode.specs.WholeReadings.{edges-lead}
use Rattle.td_typecode.specs.GraphKnown.{kind_or_null, kind_of_number, members_of, arms_of, layer_in, switch_in}
use Rattle.td_typecode.specs.GraphKnown.{known_in, known_of}

abbrev pub graph_of : List KnownNode → List Node
graph_of ns = map node_of ns

-- nodes that were read whole
pub record AreRead (ns : List KnownNode) : Type 0 where
  pub some : 0 < length ns
  pub few : length ns ≤ most_nodes
  pub each : (i : ℕ) (k : KnownNode) → nth ns i ≡ Some k → IsNode ns i k

pub all-read : (levels : ℕ) (mode : Mode) (order : Order) (place j : ℕ) (next : KnownState)
    (b : List ℕ) → AreOctets b
    → (edges levels mode None).format.spells empty order place (j, next) b → AreRead (nodes next)
all-read levels mode order place j next b o sp =
    let e = edges-lead levels mode None empty order place j next b o sp refl in
    let below = e.below in
    record {
      some = omega (arith, below);
      few = e.adds.few (omega arith);
      each = λ i k at. e.adds.new i k (omega arith) at;
    }

pub root-read : (levels : ℕ) (mode : Mode) (order : Order) (place j : ℕ) (next : KnownState)
    (b : List ℕ) → AreOctets b
    → (edges levels mode None).format.spells empty order place (j, next) b → j ≡ 0
root-read levels mode order place j next b o sp =
    let e = edges-lead levels mode None empty order place j next b o sp refl in
    elim e.leads [ inl is ↦ is | inr h ↦ absurd (let lt = h.1 in omega (arith, lt)) ]

-- ---- nodes by their layers

node_at-is : (ns : List KnownNode) (i : ℕ) (k : KnownNode) → nth ns i ≡ Some k
    → node_at (graph_of ns) i
    ≡ node_of k
node_at-is [] i k e = absurd (let n : ⊥ = cc (e) in n)
node_at-is (x ∷ xs) zero k e = let same : x ≡ k = cc (e) in ap node_of same
node_at-is (x ∷ xs) (suc i) k e = node_at-is xs i k e

layer-kind : (n : ℕ) (l : Numbers) → (layer_node n l).kind ≡ n
layer-kind n (c.TypeCode::ObjRef id name) = refl
layer-kind n (c.TypeCode::Struct id name members) = refl
layer-kind n (c.Except id name members) = refl
layer-kind n (c.TypeCode::Union id name switch default arms) = refl
layer-kind n (c.TypeCode::Enum id name names) = refl
layer-kind n (c.TypeCode::Str bound) = refl
layer-kind n (c.Sequence item bound) = refl
layer-kind n (c.Array item len) = refl
layer-kind n (c.Alias id name item) = refl
layer-kind n l = refl

layer-edges : (n : ℕ) (l : Numbers) → (layer_node n l).edges ≡ edges_of l
layer-edges n (c.TypeCode::ObjRef id name) = refl
layer-edges n (c.TypeCode::Struct id name members) = refl
layer-edges n (c.Except id name members) = refl
layer-edges n (c.TypeCode::Union id name switch default arms) = refl
layer-edges n (c.TypeCode::Enum id name names) = refl
layer-edges n (c.TypeCode::Str bound) = refl
layer-edges n (c.Sequence item bound) = refl
layer-edges n (c.Array item len) = refl
layer-edges n (c.Alias id name item) = refl
layer-edges n l = refl

below-at : (n : ℕ) (xs : List ℕ) (k : ℕ) → AllBelow n xs → k < length xs → slice_index xs k < n
below-at n [] k all lt = absurd (omega (arith, lt))
below-at n (x ∷ xs) zero all lt = all.0
below-at n (x ∷ xs) (suc k) all lt = below-at n xs k all.1 (omega (arith, lt))

alias-single : (l : Numbers) → nat_eq (number_of (kind_of_layer l)) 21 ≡ true → length (edges_of l)
    ≡ 1
alias-single (c.Alias id name item) e = refl
alias-single l e = absurd (let n : ⊥ = cc (e) in n)

-- the layer of an alias
AliasLayer : Numbers → Type 0
AliasLayer l = (id : List ℕ) × (name : List ℕ) × (item : ℕ) × (l ≡ c.Alias id name item)

alias-layer : (l : Numbers) → nat_eq (number_of (kind_of_layer l)) 21 ≡ true → AliasLayer l
unfolding AliasLayer
alias-layer (c.Alias id name item) e = (id, name, item, refl)
alias-layer l e = absurd (let n : ⊥ = cc (e) in n)

start-low : (ns : List KnownNode) (i : ℕ) → chain_start ns i ≤ i
start-low ns zero = omega arith
start-low ns (suc i) = go (goes_on ns i) (start-low ns i)
  where
    go : (b : Bool) → chain_start ns i ≤ i → (if b then chain_start ns i else suc i) ≤ suc i
    go true low = omega (arith, low)
    go false low = omega arith

module _ (ns : List KnownNode) (read : AreRead ns) where
  abbrev g : List Node
  g = graph_of ns

  long : length g ≡ length ns
  long = length-map ns node_of

  -- a node of the graph by its layer
  node-is : (i : ℕ) (k : KnownNode) → nth ns i ≡ Some k → (n : IsNode ns i k)
      → node_at g i ≡ layer_node (number_of (kind_of_layer n.layer)) n.layer
  node-is i k at n =
      node_at-is ns i k at ∙ ap (node_with (number_of k.kind)) n.whole
      ∙ ap (λ (z : CodeKind). layer_node (number_of z) n.layer) (sym n.kind)

  -- ---- aliases

  alias-at : (i : ℕ) → i < length g → is_alias_node (node_at g i) ≡ true
      → (k : KnownNode) × (nth ns i ≡ Some k) × (n : IsNode ns i k) × AliasLayer n.layer
  alias-at i lt held =
      let same = long in
      let there = nth-there ns i (omega (arith, lt, same)) in
      let n = read.each i there.0 there.1 in
      let num = number_of (kind_of_layer n.layer) in
      let kinds : nat_eq num 21 ≡ true =
      sym (ap (λ (m : ℕ). nat_eq m 21)
      (ap (λ (p : Node). p.kind) (node-is i there.0 there.1 n) ∙ layer-kind num n.layer))
      ∙ held in
      (there.0, there.1, n, alias-layer n.layer kinds)

  -- a later one of the same chain, or one of a chain before
  Lower : ℕ → ℕ → Type 0
  Lower i j = (chain_start ns j < chain_start ns i)
      ⊎ ((chain_start ns j ≡ chain_start ns i) × (i < j))

  lower-on : (i j m : ℕ) → Lower i j → Lower j m → Lower i m
  unfolding Lower
  lower-on i j m (inl a) (inl b) = inl (omega (arith, a, b))
  lower-on i j m (inl a) (inr b) = let e = b.0 in inl (omega (arith, a, e))
  lower-on i j m (inr a) (inl b) = let e = a.0 in inl (omega (arith, e, b))
  lower-on i j m (inr a) (inr b) =
      let e = a.0 in let f = b.0 in let x = a.1 in let y = b.1 in
      let same : chain_start ns m ≡ chain_start ns i = omega (arith, e, f) in
      let on : i < m = omega (arith, x, y) in
      inr (same, on)

  step-lower : (i item : ℕ) (k : KnownNode) → nth ns i ≡ Some k → kind.Alias ≡ k.kind
      → (id name : List ℕ) → k.layer ≡ Some (c.Alias id name item)
      → ((item ≡ suc i) ⊎ (item < chain_start ns i)) → Lower i item
  unfolding Lower
  step-lower i item k at is id name whole (inr lt) =
      let low = start-low ns item in inl (omega (arith, low, lt))
  step-lower i item k at is id name whole (inl e) =
      let on : goes_on ns i ≡ true =
      ap (λ (o : Option KnownNode). is_alias (kind_known o) && nat_eq (item_of (layer_of o) i)
      (suc i))
      at
      ∙ ap (λ (z : CodeKind). is_alias z && nat_eq (item_of k.layer i) (suc i)) (sym is)
      ∙ ap (λ (o : Option Numbers). is_alias kind.Alias && nat_eq (item_of o i) (suc i)) whole
      ∙ eq-eqb item (suc i) e in
      let same : chain_start ns (suc i) ≡ chain_start ns i =
      ap (λ (b : Bool). if b then chain_start ns i else suc i) on in
      inr (ap (chain_start ns) e ∙ same, omega (arith, e))

  -- the one edge of an alias leads lower, to a node
  edge-lower : (i : ℕ) → i < length g → is_alias_node (node_at g i) ≡ true
      → Lower i (edge (node_at g i) 0) × (edge (node_at g i) 0 < length g)
  unfolding AliasLayer
  edge-lower i lt held =
      let a = alias-at i lt held in
      let k = a.0 in
      let n = a.2 in
      let id = a.3.0 in
      let name = a.3.1 in
      let item = a.3.2 in
      let is : n.layer ≡ c.Alias id name item = a.3.3 in
      let num = number_of (kind_of_layer n.layer) in
      let there : edge (node_at g i) 0 ≡ item =
      ap (λ (p : Node). edge p 0) (node-is i k a.1 n)
      ∙ ap (λ (l : Numbers). edge (layer_node num l) 0) is in
      let leaves : (item ≡ suc i) ⊎ (item < chain_start ns i) =
      subst (λ (l : Numbers). LeavesChain ns i l) is n.leaves in
      let within : AllBelow (length ns) (item ∷ []) =
      subst (λ (l : Numbers). AllBelow (length ns) (edges_of l)) is n.within in
      let kinds : kind.Alias ≡ k.kind = sym (ap kind_of_layer is) ∙ n.kind in
      let low : Lower i item =
      step-lower i item k a.1 kinds id name (n.whole ∙ ap (λ (l : Numbers). Some l) is) leaves in
      let one = within.0 in
      let same = long in
      let inside : item < length g = omega (arith, one, same) in (
        subst (λ (m : ℕ). Lower i m) (sym there) low,
        subst (λ (m : ℕ). m < length g) (sym there) inside,
      )

  chain-lower : (n i j : ℕ) → i < length g → AliasChain (suc n) g i j → Lower i j
  unfolding AliasChain
  chain-lower zero i j lt c =
      let e = edge-lower i lt c.0 in
      subst (λ (m : ℕ). Lower i m) c.1 e.0
  chain-lower (suc n) i j lt c =
      let e = edge-lower i lt c.0 in
      lower-on i (edge (node_at g i) 0) j e.0 (chain-lower n (edge (node_at g i) 0) j e.1 c.1)

  no-loop : (i : ℕ) → Lower i i → ⊥
  unfolding Lower
  no-loop i (inl lt) = omega (arith, lt)
  no-loop i (inr h) = let lt = h.1 in omega (arith, lt)

  edges-within : (i k : ℕ) → i < length g → k < length (node_at g i).edges → edge (node_at g i) k
      < length g
  edges-within i k lt small =
      let same = long in
      let there = nth-there ns i (omega (arith, lt, same)) in
      let n = read.each i there.0 there.1 in
      let es : (node_at g i).edges ≡ edges_of n.layer =
      ap (λ (p : Node). p.edges) (node-is i there.0 there.1 n)
      ∙ layer-edges (number_of (kind_of_layer n.layer)) n.layer in
      let short : k < length (edges_of n.layer) = subst (λ (xs : List ℕ). k < length xs) es small in
      let low : slice_index (edges_of n.layer) k < length ns =
      below-at (length ns) (edges_of n.layer) k n.within short in
      let here : slice_index (node_at g i).edges k < length ns =
      subst (λ (xs : List ℕ). slice_index xs k < length ns) (sym es) low in
      omega (arith, here, same)

  aliases-single : (i : ℕ) → i < length g → is_alias_node (node_at g i) ≡ true
      → length (node_at g i).edges ≡ 1
  unfolding AliasLayer
  aliases-single i lt held =
      let a = alias-at i lt held in
      let n = a.2 in
      ap (λ (p : Node). length p.edges) (node-is i a.0 a.1 n)
      ∙ ap (length {A = ℕ}) (layer-edges (number_of (kind_of_layer n.layer)) n.layer)
      ∙ ap (λ (l : Numbers). length (edges_of l)) a.3.3

  pub nodes-whole : IsWhole g
  nodes-whole =
      let same = long in
      let some = read.some in
      let few = read.few in
      record {
        some = omega (arith, some, same);
        closed = record {
          few = omega (arith, few, same);
          within = edges-within;
          aliases = aliases-single;
        };
        no_loops = λ i lt h. no-loop i (chain-lower h.0 i i lt h.1);
      }

  -- ---- what was known, again

  bare-stop : (m i : ℕ) → is_alias_node (node_at g i) ≡ false → bare_within m g i ≡ i
  unfolding bare_within
  bare-stop zero i refused_target = refl
  bare-stop (suc m) i refused_target = ap
      (λ (b : Bool). cond b (bare_within m g (edge (node_at g i) 0)) i)
      refused_target

  bare-on : (m i : ℕ) → is_alias_node (node_at g i) ≡ true → bare_within (suc m) g i
      ≡ bare_within m g (edge (node_at g i) 0)
  unfolding bare_within
  bare-on m i held = ap (λ (b : Bool). cond b (bare_within m g (edge (node_at g i) 0)) i) held

  bare-here : (i : ℕ) → bare_within 0 g i ≡ i
  unfolding bare_within
  bare-here i = refl

  -- what the graph tells of the kind behind aliases
  abbrev Tells : ℕ → CodeKind → Type 0
  Tells i k = (node_at g i).kind ≡ number_of k

  bare-plain : (m i : ℕ) (k : CodeKind) (x : KnownNode) → nth ns i ≡ Some x
      → (r : IsNode ns i x) (l : Numbers)
      → r.layer ≡ l → nat_eq (number_of (kind_of_layer l)) 21 ≡ false → kind_of_layer l ≡ k
      → Tells (bare_within m g i) k
  bare-plain m i k x at r l e refused_target is =
      let num = number_of (kind_of_layer l) in
      let kinds : (node_at g i).kind ≡ num =
      ap (λ (p : Node). p.kind) (node-is i x at r)
      ∙ layer-kind (number_of (kind_of_layer r.layer)) r.layer
      ∙ ap (λ (z : Numbers). number_of (kind_of_layer z)) e in
      let stop = bare-stop m i (ap (λ (n : ℕ). nat_eq n 21) kinds ∙ refused_target) in
      ap (λ (j : ℕ). (node_at g j).kind) stop ∙ kinds ∙ ap number_of is

  bare-alias : (n m i : ℕ) (k : CodeKind)
      → ((m j : ℕ) → bare_kind n ns j ≡ Some k → is_alias_node (node_at g (bare_within m g j))
      ≡ false → Tells (bare_within m g j) k)
      → (x : KnownNode) → nth ns i ≡ Some x → (r : IsNode ns i x) (id name : List ℕ) (item : ℕ)
      → r.layer ≡ c.Alias id name item → bare_kind n ns item ≡ Some k
      → is_alias_node (node_at g (bare_within m g i)) ≡ false → Tells (bare_within m g i) k
  bare-alias n m i k h x at r id name item e under refused_target =
      let is : node_at g i ≡ layer_node 21 (c.Alias id name item) =
      node-is i x at r ∙ ap (λ (z : Numbers). layer_node (number_of (kind_of_layer z)) z) e in
      let held : is_alias_node (node_at g i) ≡ true = ap (λ (p : Node). is_alias_node p) is in
      let there : edge (node_at g i) 0 ≡ item = ap (λ (p : Node). edge p 0) is in
      go m refused_target held there
    where
      go : (m : ℕ) → is_alias_node (node_at g (bare_within m g i)) ≡ false
          → is_alias_node (node_at g i) ≡ true → edge (node_at g i) 0 ≡ item
          → Tells (bare_within m g i) k
      go zero refused_target held there =
          let here : false ≡ true =
          sym refused_target ∙ ap (λ (j : ℕ). is_alias_node (node_at g j)) (bare-here i) ∙ held in
          absurd (let n : ⊥ = cc (here) in n)
      go (suc m) refused_target held there =
          let on : bare_within (suc m) g i ≡ bare_within m g item =
          bare-on m i held ∙ ap (bare_within m g) there in
          subst (λ (j : ℕ). Tells j k) (sym on)
          (h m item under (sym (ap (λ (j : ℕ). is_alias_node (node_at g j)) on) ∙ refused_target))

  bare-layer : (n m i : ℕ) (k : CodeKind)
      → ((m j : ℕ) → bare_kind n ns j ≡ Some k → is_alias_node (node_at g (bare_within m g j))
      ≡ false → Tells (bare_within m g j) k)
      → (x : KnownNode) → nth ns i ≡ Some x → (r : IsNode ns i x) (l : Numbers) → r.layer ≡ l
      → kind_under (bare_kind n ns) (Some l) ≡ Some k
      → is_alias_node (node_at g (bare_within m g i)) ≡ false → Tells (bare_within m g i) k
  bare-layer n m i k h x at r (c.Alias id name item) e under refused_target = bare-alias n m i k h x
      at r id
      name item e under refused_target
  bare-layer n m i k h x at r l e under refused_target = bare-plain m i k x at r l e refl
      (let is : kind_of_layer l ≡ k = cc (under) in is)

  bare-option : (n m i : ℕ) (k : CodeKind)
      → ((m j : ℕ) → bare_kind n ns j ≡ Some k → is_alias_node (node_at g (bare_within m g j))
      ≡ false → Tells (bare_within m g j) k)
      → (o : Option KnownNode) → nth ns i ≡ o → kind_under (bare_kind n ns) (layer_of o) ≡ Some k
      → is_alias_node (node_at g (bare_within m g i)) ≡ false → Tells (bare_within m g i) k
  bare-option n m i k h None at under refused_target = absurd (let none : ⊥ = cc (under) in none)
  bare-option n m i k h (Some x) at under refused_target =
      let r = read.each i x at in
      bare-layer n m i k h x at r r.layer refl
      (sym (ap (kind_under (bare_kind n ns)) r.whole) ∙ under) refused_target

  bare-number : (n : ℕ) (k : CodeKind) (m i : ℕ) → bare_kind n ns i ≡ Some k
      → is_alias_node (node_at g (bare_within m g i)) ≡ false → Tells (bare_within m g i) k
  bare-number zero k m i under refused_target = absurd (let none : ⊥ = cc (under) in none)
  bare-number (suc n) k m i under refused_target = bare-option n m i k (bare-number n k)
      (nth ns i) refl under refused_target

  kind-again : (k : CodeKind) → kind_of_number (number_of k) ≡ k
  kind-again k = ap kind_or_null (each_numbered k)

  switch-again : (n switch : ℕ) (k : CodeKind) (p : Node) → edge p 0 ≡ switch → switch < length g
      → bare_kind n ns switch ≡ Some k → switch_in g p ≡ k
  switch-again n switch k p at lt under =
      ap (λ (j : ℕ). kind_of_number (node_at g (bare g j)).kind) at
      ∙ ap kind_of_number
      (bare-number n k (length g) switch under (bare-no_alias g switch nodes-whole lt))
      ∙ kind-again k

  -- ---- layers, again

  members-again : (ms : List MemberNode) → members_of (map member_name ms) (map member_place ms)
      ≡ ms
  members-again [] = refl
  members-again (m ∷ ms) = ap (λ (x : List MemberNode). m ∷ x) (members-again ms)

  abbrev arms_again_of : CodeKind → List ArmNode → List ArmNode
  arms_again_of s bs = arms_of s (map arm_number bs) (map (λ b. member_name b.1) bs)
      (map (λ b. member_place b.1) bs)

  arms-again : (s : CodeKind) (bs : List ArmNode) → AreLabels s bs → arms_again_of s bs ≡ bs
  arms-again s [] fit = refl
  arms-again s (b ∷ bs) fit =
      ap (λ (v : Value). (v, b.1) ∷ arms_again_of s bs) fit.0
      ∙ ap (λ (x : List ArmNode). b ∷ x) (arms-again s bs fit.1)

  abbrev ArmsAgain : CodeKind → Numbers → Type 0
  ArmsAgain s (c.TypeCode::Union id name switch default arms) = arms_again_of s arms ≡ arms
  ArmsAgain s l = Unit {0}

  layer-again : (s : CodeKind) (l : Numbers) → IsNoGraph l → ArmsAgain s l → (n : ℕ)
      → layer_in s (kind_of_layer l) (layer_node n l) ≡ l
  layer-again s (c.TypeCode::Struct id name ms) refused_target h n =
      ap (λ (x : List MemberNode). c.TypeCode::Struct id name x) (members-again ms)
  layer-again s (c.Except id name ms) refused_target h n = ap
      (λ (x : List MemberNode). c.Except id name x)
      (members-again ms)
  layer-again s (c.TypeCode::Union id name switch default arms) refused_target h n =
      ap (λ (x : List ArmNode). c.TypeCode::Union id name switch default x) h
  layer-again s (c.TypeCode::ObjRef id name) refused_target h n = refl
  layer-again s (c.TypeCode::Enum id name names) refused_target h n = refl
  layer-again s (c.TypeCode::Str bound) refused_target h n = refl
  layer-again s (c.Sequence item bound) refused_target h n = refl
  layer-again s (c.Array item len) refused_target h n = refl
  layer-again s (c.Alias id name item) refused_target h n = refl
  layer-again s (c.Linked graph) refused_target h n = absurd refused_target
  layer-again s l refused_target h n = refl

  arms-fit-again : (p : Node) (l : Numbers) → (node_of_layer : (n : ℕ) × (p ≡ layer_node n l))
      → LabelsFit ns l → AllBelow (length ns) (edges_of l) → ArmsAgain (switch_in g p) l
  arms-fit-again p (c.TypeCode::Union id name switch default arms) (n, is) (inl none) all =
      subst (λ (x : List ArmNode). arms_again_of (switch_in g p) x ≡ x) (sym none) refl
  arms-fit-again p (c.TypeCode::Union id name switch default arms) (n, is)
      (inr (m, k, under, fit)) all =
      let low = all.0 in
      let same = long in
      let lt : switch < length g = omega (arith, low, same) in
      let kinds = switch-again m switch k p (ap (λ (q : Node). edge q 0) is) lt under in
      subst (λ (s : CodeKind). arms_again_of s arms ≡ arms) (sym kinds) (arms-again k arms fit)
  arms-fit-again p l at fit all = tt

  node-again : (i : ℕ) (k : KnownNode) → nth ns i ≡ Some k → known_in g (node_of k) ≡ k
  node-again i k at =
      let r = read.each i k at in
      let l = r.layer in
      let num = number_of k.kind in
      let is : node_of k ≡ layer_node num l = ap (node_with num) r.whole in
      let kinds : kind_of_number (node_of k).kind ≡ k.kind =
      ap (λ (p : Node). kind_of_number p.kind) is ∙ ap kind_of_number (layer-kind num l)
      ∙ kind-again k.kind in
      let fit = arms-fit-again (node_of k) l (num, is) r.labels r.within in
      let switch = switch_in g (node_of k) in
      let layer : layer_in switch (kind_of_number (node_of k).kind) (node_of k) ≡ l =
      ap (λ (z : CodeKind). layer_in switch z (node_of k)) (kinds ∙ sym r.kind)
      ∙ ap (layer_in switch (kind_of_layer l)) is ∙ layer-again switch l r.no_graph fit num in
      ap (λ (z : CodeKind). node_with_layer z (layer_in switch (kind_of_number (node_of k).kind)
      (node_of k)))
      kinds
      ∙ ap (node_with_layer k.kind) layer
      ∙ ap (λ (o : Option Numbers). record { kind = k.kind; layer = o }) (sym r.whole)

  map-again : (f : Node → KnownNode) (xs : List KnownNode)
      → ((i : ℕ) (k : KnownNode) → nth xs i ≡ Some k → f (node_of k) ≡ k) → map f (map node_of xs)
      ≡ xs
  map-again f [] h = refl
  map-again f (x ∷ xs) h =
      ap (λ (y : KnownNode). y ∷ map f (map node_of xs)) (h 0 x refl)
      ∙ ap (λ (ys : List KnownNode). x ∷ ys) (map-again f xs (λ i k at. h (suc i) k at))

  -- the graph of nodes that were read tells what was known of them
  pub known-again : known_of g ≡ ns
  known-again = map-again (known_in g) ns node-again
