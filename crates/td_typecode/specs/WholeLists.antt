-- Nodes that were read whole stay so while others are read and begun.
use Rattle.std.proofs.Common.{◌≡◌, ℕ, zero, suc, ◌+◌, ◌<◌, ◌≤◌, Bool, true, false, List, [], ◌∷◌, ◌++◌, length, refl}
use Rattle.std.proofs.Common.{sym, ap, subst}
use Rattle.std.proofs.Common.{◌∙◌, arith, append_assoc, length-append, inl, inr, ◌⊎◌, ⊎_elim}
use Rattle.std.specs.Prelude.{◌&&◌, nat_eq, if◌then◌else◌, Option, Some, None}
use Rattle.std.proofs.lemmas.Bool.{cases_lt, eq-eqb, ne_eqb}
use Rattle.std.proofs.lemmas.List.{append-nil}
use Rattle.td_cdr.specs.Format.{nth}
use Rattle.td_typecode.specs.declared.code.TypeCode.TheOpen as c
use Rattle.td_typecode.specs.declared.kinds.CodeKind.{CodeKind}
use Rattle.td_typecode.specs.declared.kinds.CodeKind.TheVariants as kind
use Rattle.td_indirection.specs.Tables.{nth-left, nth-seam}
use Rattle.td_typecode.specs.WritingCodes.{kind_of_layer}
use Rattle.td_typecode.specs.Known.{Numbers, KnownNode, node_with_layer, unread_node, layer_of, kind_known, item_of}
use Rattle.td_typecode.specs.Known.{is_alias, chain_under}
use Rattle.td_typecode.specs.GraphCodes.{most_nodes}
use Rattle.td_typecode.specs.ReadNodes.{goes_on, chain_start, first_of, Starts, LeavesChain, kind_under, bare_kind}
use Rattle.td_typecode.specs.ReadNodes.{LabelsFit}
use Rattle.td_typecode.specs.ReadNodes.{edges_of, AllBelow, IsNode, AddsNodes, IsEdge, LeadsOn, IsLayer}

-- ---- lists

pub nth-length : {Y : Type 0} (ys : List Y) (i : ℕ) (y : Y) → nth ys i ≡ Some y → i < length ys
nth-length [] i y e = absurd (let n : ⊥ = cc (e) in n)
nth-length (x ∷ xs) zero y e = omega arith
nth-length (x ∷ xs) (suc i) y e = let lt = nth-length xs i y e in omega (arith, lt)

pub nth-there : {Y : Type 0} (ys : List Y) (i : ℕ) → i < length ys → (y : Y) × (nth ys i ≡ Some y)
nth-there [] i lt = absurd (omega (arith, lt))
nth-there (x ∷ xs) zero lt = (x, refl)
nth-there (x ∷ xs) (suc i) lt = nth-there xs i (omega (arith, lt))

nth-elsewhere : {Y : Type 0} (xs ys : List Y) (v w : Y) (i : ℕ) → (i ≡ length xs → ⊥)
    → nth (xs ++ v ∷ ys) i ≡ nth (xs ++ w ∷ ys) i
nth-elsewhere [] ys v w zero other = absurd (other refl)
nth-elsewhere [] ys v w (suc i) other = refl
nth-elsewhere (x ∷ xs) ys v w zero other = refl
nth-elsewhere (x ∷ xs) ys v w (suc i) other = nth-elsewhere xs ys v w i (λ e. other (ap suc e))

pub below-on : (n m : ℕ) (xs : List ℕ) → n ≤ m → AllBelow n xs → AllBelow m xs
below-on n m [] le all = tt
below-on n m (x ∷ xs) le all =
    let one = all.0 in let here : x < m = omega (arith, le, one) in (here, below-on n m xs le all.1)

-- ---- chains

if-same : (b d : Bool) (x y z : ℕ) → b ≡ d → x ≡ y → (if b then x else z) ≡ (if d then y else z)
if-same b d x y z e f = ap (λ (v : Bool). if v then x else z) e
    ∙ ap (λ (v : ℕ). if d then v else z) f

goes-at : (o : Option KnownNode) → ℕ → Bool
goes-at o i = is_alias (kind_known o) && nat_eq (item_of (layer_of o) i) (suc i)

goes-same : (ns next : List KnownNode) (i : ℕ) → nth next i ≡ nth ns i → goes_on next i
    ≡ goes_on ns i
goes-same ns next i e =
    ap (λ (o : Option KnownNode). is_alias (kind_known o) && nat_eq (item_of (layer_of o) i)
    (suc i)) e

start-same : (ns next : List KnownNode) (i : ℕ) → ((m : ℕ) → m < i → goes_on next m ≡ goes_on ns m)
    → chain_start next i ≡ chain_start ns i
start-same ns next zero same = refl
start-same ns next (suc i) same =
    if-same (goes_on next i) (goes_on ns i) (chain_start next i) (chain_start ns i) (suc i)
    (same i (omega arith)) (start-same ns next i (λ m lt. same m (omega (arith, lt))))

pub start-append : (ns more : List KnownNode) (i : ℕ) → i ≤ length ns → chain_start (ns ++ more) i
    ≡ chain_start ns i
start-append ns more i le =
    start-same ns (ns ++ more) i
    (λ m lt. goes-same ns (ns ++ more) m (nth-left ns more m (omega (arith, lt, le))))

-- ---- what stays

-- nodes that are known stay
abbrev pub KeepsNodes : List KnownNode → List KnownNode → Type 0
KeepsNodes ns next = (i : ℕ) (k : KnownNode) (l : Numbers) → nth ns i ≡ Some k → k.layer ≡ Some l
    → nth next i ≡ Some k

pub stays-append : (ns more : List KnownNode) → KeepsNodes ns (ns ++ more)
stays-append ns more i k l e w = nth-left ns more i (nth-length ns i k e) ∙ e

under-layer : (f g : ℕ → Option CodeKind) (k : CodeKind) → ((j : ℕ) → f j ≡ Some k → g j ≡ Some k)
    → (l : Numbers) → kind_under f (Some l) ≡ Some k → kind_under g (Some l) ≡ Some k
under-layer f g k h (c.Alias id name item) e = h item e
under-layer f g k h l e = e

module _ (ns next : List KnownNode) (stays : KeepsNodes ns next) where
  under-stays : (n : ℕ) (k : CodeKind)
      → ((j : ℕ) → bare_kind n ns j ≡ Some k → bare_kind n next j ≡ Some k)
      → (j : ℕ) (x : KnownNode) (o : Option Numbers) → x.layer ≡ o → nth ns j ≡ Some x
      → kind_under (bare_kind n ns) o ≡ Some k
      → kind_under (bare_kind n next) (layer_of (nth next j)) ≡ Some k
  under-stays n k h j x None w at e = absurd (let none : ⊥ = cc (e) in none)
  under-stays n k h j x (Some l) w at e =
      ap (λ (o : Option KnownNode). kind_under (bare_kind n next) (layer_of o)) (stays j x l at w)
      ∙ ap (kind_under (bare_kind n next)) w
      ∙ under-layer (bare_kind n ns) (bare_kind n next) k h l e

  there-stays : (n : ℕ) (k : CodeKind)
      → ((j : ℕ) → bare_kind n ns j ≡ Some k → bare_kind n next j ≡ Some k)
      → (j : ℕ) (o : Option KnownNode) → nth ns j ≡ o → kind_under (bare_kind n ns) (layer_of o)
      ≡ Some k → kind_under (bare_kind n next) (layer_of (nth next j)) ≡ Some k
  there-stays n k h j None at e = absurd (let none : ⊥ = cc (e) in none)
  there-stays n k h j (Some x) at e = under-stays n k h j x x.layer refl at e

  pub bare-stays : (n : ℕ) (k : CodeKind) (j : ℕ) → bare_kind n ns j ≡ Some k → bare_kind n next j
      ≡ Some k
  bare-stays zero k j e = absurd (let none : ⊥ = cc (e) in none)
  bare-stays (suc n) k j e = there-stays n k (bare-stays n k) j (nth ns j) refl e

  labels-stay : (l : Numbers) → LabelsFit ns l → LabelsFit next l
  labels-stay (c.TypeCode::Union id name switch default arms) (inl e) = inl e
  labels-stay (c.TypeCode::Union id name switch default arms) (inr (n, k, e, fit)) = inr
      (n, k, bare-stays n k switch e, fit)
  labels-stay l fit = fit

  leaves-stay : (i : ℕ) → chain_start next i ≡ chain_start ns i → (l : Numbers) → LeavesChain ns i l
      → LeavesChain next i l
  leaves-stay i same (c.Alias id name item) (inl e) = inl e
  leaves-stay i same (c.Alias id name item)
      (inr lt) = inr (subst (λ (n : ℕ). item < n) (sym same) lt)
  leaves-stay i same l h = h

  pub node-stays : (i : ℕ) (k : KnownNode) → length ns ≤ length next → chain_start next i
      ≡ chain_start ns i → IsNode ns i k → IsNode next i k
  node-stays i k long same node = record {
    layer = node.layer;
    whole = node.whole;
    kind = node.kind;
    no_graph = node.no_graph;
    within = below-on (length ns) (length next) (edges_of node.layer) long node.within;
    leaves = leaves-stay i same node.layer node.leaves;
    labels = labels-stay node.layer node.labels;
  }

-- ---- nodes behind others

pub adds-none : (ns : List KnownNode) → AddsNodes ns ns
adds-none ns = record {
  more = [];
  is = sym (append-nil ns);
  few = λ h. h;
  new = λ i k le at. absurd (let lt = nth-length ns i k at in omega (arith, lt, le));
}

pub adds-stay : (ns next : List KnownNode) → AddsNodes ns next → KeepsNodes ns next
adds-stay ns next a i k l e w =
    ap (λ (xs : List KnownNode). nth xs i) a.is ∙ stays-append ns a.more i k l e w

pub adds-long : (ns next : List KnownNode) → AddsNodes ns next → length ns ≤ length next
adds-long ns next a =
    let len = ap (length {A = KnownNode}) a.is in
    let two = length-append ns a.more in
    omega (arith, len, two)

pub adds-on : (ns mid next : List KnownNode) → AddsNodes ns mid → AddsNodes mid next
    → AddsNodes ns next
adds-on ns mid next a b = record {
  more = a.more ++ b.more;
  is = b.is ∙ ap (λ (xs : List KnownNode). xs ++ b.more) a.is ∙ append_assoc ns a.more b.more;
  few = λ h. b.few (a.few h);
  new = λ i k le at. ⊎_elim
      (λ (lt : i < length mid).
      let here : nth mid i ≡ Some k =
      sym (nth-left mid b.more i lt) ∙ ap (λ (xs : List KnownNode). nth xs i) (sym b.is) ∙ at in
      let start : chain_start next i ≡ chain_start mid i =
      ap (λ (xs : List KnownNode). chain_start xs i) b.is
      ∙ start-append mid b.more i (omega (arith, lt)) in
      node-stays mid next (adds-stay mid next b) i k (adds-long mid next b) start
      (a.new i k le here)) (λ (ge : length mid ≤ i). b.new i k ge at) (cases_lt i (length mid));
}

-- ---- where a node may begin

ends-layer : (l : Numbers) (m : ℕ) → AllBelow (suc m) (edges_of l)
    → (is_alias (kind_of_layer l) && nat_eq (item_of (Some l) m) (suc m)) ≡ false
ends-layer (c.Alias id name item) m all =
    let low = all.0 in ne_eqb item (suc m) (λ e. absurd (omega (arith, e, low)))
ends-layer l m all = refl

-- the last node that was read whole is no alias of the next one
node-ends : (ns : List KnownNode) (m : ℕ) (k : KnownNode) → length ns ≡ suc m → nth ns m ≡ Some k
    → IsNode ns m k → goes_on ns m ≡ false
node-ends ns m k long at node =
    ap (λ (o : Option KnownNode). is_alias (kind_known o) && nat_eq (item_of (layer_of o) m)
    (suc m)) at
    ∙ ap (λ (z : CodeKind). is_alias z && nat_eq (item_of k.layer m) (suc m)) (sym node.kind)
    ∙ ap (λ (o : Option Numbers). is_alias (kind_of_layer node.layer)
    && nat_eq (item_of o m) (suc m)) node.whole
    ∙ ends-layer node.layer m (subst (λ (n : ℕ). AllBelow n (edges_of node.layer)) long node.within)

-- behind a node that doesn't go on, the next one stands in no chain
starts-behind : (ns : List KnownNode) (m : ℕ) → length ns ≡ suc m → goes_on ns m ≡ false
    → Starts None ns
starts-behind ns m long last =
    subst (λ (n : ℕ). chain_start ns n ≡ n) (sym long)
    (ap (λ (b : Bool). if b then chain_start ns m else suc m) last)

starts-more : (ns next more : List KnownNode) → next ≡ ns ++ more → AddsNodes ns next
    → Starts None ns
    → Starts None next
starts-more ns next [] is a s = subst (λ (xs : List KnownNode). Starts None xs)
    (sym (is ∙ append-nil ns)) s
starts-more ns next (x ∷ xs) is a s =
    let m = length ns + length xs in
    let two = length-append ns (x ∷ xs) in
    let len = ap (length {A = KnownNode}) is in
    let long : length next ≡ suc m = omega (arith, len, two) in
    let there = nth-there next m (omega (arith, long)) in
    starts-behind next m long
    (node-ends next m there.0 long there.1 (a.new m there.0 (omega arith) there.1))

pub starts-on : (ns next : List KnownNode) → AddsNodes ns next → Starts None ns → Starts None next
starts-on ns next a s = starts-more ns next a.more a.is a s

push-long : (ns : List KnownNode) (x : KnownNode) → length (ns ++ x ∷ []) ≡ suc (length ns)
push-long ns x = let two = length-append ns (x ∷ []) in omega (arith, two)

pub begins-plain : (ns : List KnownNode) (k : CodeKind) → is_alias k ≡ false
    → Starts None (ns ++ unread_node k ∷ [])
begins-plain ns k refused_target =
    let n = length ns in
    starts-behind (ns ++ unread_node k ∷ []) n (push-long ns (unread_node k))
    (ap (λ (o : Option KnownNode). is_alias (kind_known o) && nat_eq (item_of (layer_of o) n)
    (suc n))
    (nth-seam ns (unread_node k) [])
    ∙ ap (λ (b : Bool). b && nat_eq (suc n) (suc n)) refused_target)

pub first-under : (chain : Option ℕ) (n m : ℕ) → first_of (chain_under chain n) m ≡ first_of chain n
first-under (Some first) n m = refl
first-under None n m = refl

pub begins-alias : (chain : Option ℕ) (ns : List KnownNode) → Starts chain ns
    → Starts (chain_under chain (length ns)) (ns ++ unread_node kind.Alias ∷ [])
begins-alias chain ns s =
    let n = length ns in
    let next = ns ++ unread_node kind.Alias ∷ [] in
    let long = push-long ns (unread_node kind.Alias) in
    let on : goes_on next n ≡ true =
    ap (λ (o : Option KnownNode). is_alias (kind_known o) && nat_eq (item_of (layer_of o) n)
    (suc n))
    (nth-seam ns (unread_node kind.Alias) [])
    ∙ eq-eqb (suc n) (suc n) refl in
    ap (chain_start next) long
    ∙ ap (λ (b : Bool). if b then chain_start next n else suc n) on
    ∙ start-append ns (unread_node kind.Alias ∷ []) n (omega arith)
    ∙ s
    ∙ sym (first-under chain n (length next))

-- ---- a node that was begun is known

stays-fill : (k : CodeKind) (v : KnownNode) (ns more : List KnownNode)
    → KeepsNodes (ns ++ unread_node k ∷ more) (ns ++ v ∷ more)
stays-fill k v [] more zero x l e w =
    let same : unread_node k ≡ x = cc (e) in
    let none : ◌≡◌ {A = Option Numbers} None (Some l) = ap (λ (y : KnownNode). y.layer) same ∙ w in
    absurd (let n : ⊥ = cc (none) in n)
stays-fill k v [] more (suc i) x l e w = e
stays-fill k v (y ∷ ys) more zero x l e w = e
stays-fill k v (y ∷ ys) more (suc i) x l e w = stays-fill k v ys more i x l e w

leads-leaves : (first n : ℕ) (front end next : List KnownNode) → length front ≡ suc n
    → chain_start next n ≡ first → (l : Numbers) → LeadsOn first front end l → LeavesChain next n l
leads-leaves first n front end next long start (c.Alias id name item) (inl e) = inl (e ∙ long)
leads-leaves first n front end next long start (c.Alias id name item) (inr h) = inr
    (subst (λ (m : ℕ). item < m) (sym start) h.1)
leads-leaves first n front end next long start l h = h

abbrev GoesTo : ℕ → Numbers → Type 0
GoesTo n (c.Alias id name item) = item ≡ suc n
GoesTo n l = Unit {0}

goes-to : (first n : ℕ) (front end : List KnownNode) → length front ≡ suc n → (end ≡ front → ⊥)
    → (l : Numbers) → LeadsOn first front end l → GoesTo n l
goes-to first n front end long other (c.Alias id name item) (inl e) = e ∙ long
goes-to first n front end long other (c.Alias id name item) (inr h) = absurd (other h.0)
goes-to first n front end long other l h = h

goes-layer : (l : Numbers) (n : ℕ) → GoesTo n l
    → (is_alias (kind_of_layer l) && nat_eq (item_of (Some l) n) (suc n))
    ≡ (is_alias (kind_of_layer l) && nat_eq (suc n) (suc n))
goes-layer (c.Alias id name item) n e = ap (λ (m : ℕ). nat_eq m (suc n)) e
goes-layer l n e = refl

module _ (chain : Option ℕ) (k : CodeKind) (ns : List KnownNode) (l : Numbers)
    (more : List KnownNode) where
  abbrev front : List KnownNode
  front = ns ++ unread_node k ∷ []

  abbrev end : List KnownNode
  end = ns ++ unread_node k ∷ more

  abbrev filled : List KnownNode
  filled = ns ++ node_with_layer k l ∷ more

  same-long : length end ≡ length filled
  same-long =
      let one = length-append ns (unread_node k ∷ more) in
      let two = length-append ns (node_with_layer k l ∷ more) in
      omega (arith, one, two)

  goes-filled : IsLayer (first_of chain (length ns)) k front end l → (end ≡ front → ⊥)
      → goes_on filled (length ns) ≡ goes_on end (length ns)
  goes-filled layer other =
      let n = length ns in
      let to = goes-to (first_of chain n) n front end (push-long ns (unread_node k))
      other l layer.leads in
      ap (λ (o : Option KnownNode). is_alias (kind_known o) && nat_eq (item_of (layer_of o) n)
      (suc n))
      (nth-seam ns (node_with_layer k l) more)
      ∙ ap (λ (z : CodeKind). is_alias z && nat_eq (item_of (Some l) n) (suc n)) (sym layer.kind)
      ∙ goes-layer l n to
      ∙ ap (λ (z : CodeKind). is_alias z && nat_eq (suc n) (suc n)) layer.kind
      ∙ sym
      (ap (λ (o : Option KnownNode). is_alias (kind_known o) && nat_eq (item_of (layer_of o) n)
      (suc n))
      (nth-seam ns (unread_node k) more))

  goes-elsewhere : IsLayer (first_of chain (length ns)) k front end l → (end ≡ front → ⊥) → (m : ℕ)
      → ((m ≡ length ns) ⊎ (m ≡ length ns → ⊥)) → goes_on filled m ≡ goes_on end m
  goes-elsewhere layer other m (inl e) =
      subst (λ (i : ℕ). goes_on filled i ≡ goes_on end i) (sym e) (goes-filled layer other)
  goes-elsewhere layer other m (inr ne) =
      goes-same end filled m (nth-elsewhere ns more (node_with_layer k l) (unread_node k) m ne)

  either : (m : ℕ) → (m ≡ length ns) ⊎ (m ≡ length ns → ⊥)
  either m =
      ⊎_elim (λ (lt : m < length ns). inr (λ e. absurd (omega (arith, lt, e))))
      (λ (ge : length ns ≤ m).
      ⊎_elim (λ (gt : length ns < m). inr (λ e. absurd (omega (arith, gt, e))))
      (λ (le : m ≤ length ns). inl (omega (arith, ge, le))) (cases_lt (length ns) m))
      (cases_lt m (length ns))

  behind-node : IsLayer (first_of chain (length ns)) k front end l → (i : ℕ) (x : KnownNode)
      → length ns < i → nth filled i ≡ Some x → IsNode filled i x
  behind-node layer i x gt at =
      let long = push-long ns (unread_node k) in
      let there : nth end i ≡ Some x =
      nth-elsewhere ns more (unread_node k) (node_with_layer k l) i
      (λ e. absurd (omega (arith, gt, e))) ∙ at in
      let low = nth-length end i x there in
      let other : end ≡ front → ⊥ =
      λ e. absurd (let len = ap (length {A = KnownNode}) e in omega (arith, len, low, long, gt)) in
      node-stays end filled (stays-fill k (node_with_layer k l) ns more) i x
      (let same = same-long in omega (arith, same))
      (start-same end filled i (λ m lt. goes-elsewhere layer other m (either m)))
      (layer.adds.new i x (omega (arith, long, gt)) there)

  own-node : Starts chain ns → IsLayer (first_of chain (length ns)) k front end l
      → IsNode filled (length ns) (node_with_layer k l)
  own-node starts layer =
      let n = length ns in
      let start : chain_start filled n ≡ first_of chain n =
      start-append ns (node_with_layer k l ∷ more) n (omega arith) ∙ starts in
      record {
        layer = l;
        whole = refl;
        kind = layer.kind;
        no_graph = layer.no_graph;
        within = subst (λ (m : ℕ). AllBelow m (edges_of l)) same-long layer.within;
        leaves =
            leads-leaves (first_of chain n) n front end filled (push-long ns (unread_node k))
            start l layer.leads;
        labels = labels-stay end filled (stays-fill k (node_with_layer k l) ns more) l layer.labels;
      }

  each-node : Starts chain ns → IsLayer (first_of chain (length ns)) k front end l
      → (i : ℕ) (x : KnownNode)
      → length ns ≤ i → nth filled i ≡ Some x → ((i ≡ length ns) ⊎ (i ≡ length ns → ⊥))
      → IsNode filled i x
  each-node starts layer i x ge at (inr ne) =
      behind-node layer i x (⊎_elim (λ (gt : length ns < i). gt)
      (λ (le : i ≤ length ns). absurd (ne (omega (arith, ge, le)))) (cases_lt (length ns) i)) at
  each-node starts layer i x ge at (inl e) =
      let here : Some (node_with_layer k l) ≡ Some x =
      sym (nth-seam ns (node_with_layer k l) more) ∙ ap (nth filled) (sym e) ∙ at in
      let same : node_with_layer k l ≡ x = cc (here) in
      subst (λ (m : ℕ). IsNode filled m x) (sym e)
      (subst (λ (y : KnownNode). IsNode filled (length ns) y) same (own-node starts layer))

  pub edge-to-next : Starts chain ns → length ns < most_nodes
      → IsLayer (first_of chain (length ns)) k front end l → IsEdge chain ns (length ns) filled
  edge-to-next starts room layer = record {
    adds = record {
      more = node_with_layer k l ∷ more;
      is = refl;
      few = λ h.
          let long = push-long ns (unread_node k) in
          let all = layer.adds.few (omega (arith, long, room)) in
          let same = same-long in
          omega (arith, all, same);
      new = λ i x ge at. each-node starts layer i x ge at (either i);
    };
    below = let len = length-append ns (node_with_layer k l ∷ more) in omega (arith, len);
    leads = inl refl;
  }
