-- Of the nodes that code keeps of a TypeCode with indirections.
use Rattle.std.proofs.Common.{◌≡◌, ℕ, zero, suc, ◌-◌, ◌<◌, ◌≤◌, Bool, true, false, List, [], ◌∷◌, length, refl, sym, ap}
use Rattle.std.proofs.Common.{◌∙◌, arith}
use Rattle.std.proofs.Common.{get_or, set}
use Rattle.std.specs.Prelude.{Option, Some, None, slice_get, slice_index, map, if◌then◌else◌}
use Rattle.std.proofs.lemmas.Option.{slice_get_within}
use Rattle.td_cdr.specs.Format.{nth}
use Rattle.td_typecode.specs.declared.code.TypeCode.TheOpen as c
use Rattle.td_typecode.specs.declared.kinds.CodeKind.{CodeKind}
use Rattle.td_typecode.specs.declared.kinds.CodeKind.TheVariants as kind
use Rattle.td_typecode.specs.declared.node_layer.BegunNode.{BegunNode}
use Rattle.td_typecode.specs.declared.node_layer.Discriminator.{Discriminator}
use Rattle.td_typecode.specs.declared.node_layer.Discriminator.TheVariants as discriminator
use Rattle.td_indirection.specs.States.{slot, put}
use Rattle.td_typecode.specs.Known.{MemberNode, Numbers, KnownNode, KnownSlot, layer_of, kind_known, item_of, is_alias}
use Rattle.td_typecode.specs.Known.{bare_number}
use Rattle.td_typecode.specs.NodeLayers.{begun_slot, known_node, known_nodes, node_places, leaf_numbers, fields_numbers}
use Rattle.td_typecode.specs.NodeLayers.{items_numbers}
use Rattle.td_typecode.specs.NodeReading.{alias_at, item_read, read_alias, discriminator_of, discriminator_read}
use Rattle.td_typecode.specs.NodeReading.{discriminator_in}
use Rattle.td_typecode.specs.NodeReading.{discriminator_under, bare_discriminator}

pub places-of : (bs : List BegunNode) → map (λ (b : BegunNode). b.place) bs ≡ node_places bs
places-of [] = refl
places-of (b ∷ bs) = ap (λ (ns : List ℕ). b.place ∷ ns) (places-of bs)

pub nodes-long : (bs : List BegunNode) → length (known_nodes bs) ≡ length bs
nodes-long [] = refl
nodes-long (b ∷ bs) = ap (λ (n : ℕ). suc n) (nodes-long bs)

-- ---- a node by its number

node-got : (bs : List BegunNode) (i : ℕ) (b : BegunNode) → slice_get bs i ≡ Some b
    → nth (known_nodes bs) i ≡ Some (known_node b)
node-got [] i b e = absurd (let n : ⊥ = cc (e) in n)
node-got (x ∷ xs) zero b e = let same : x ≡ b = cc (e) in
    ap (λ (z : BegunNode). Some (known_node z)) same
node-got (x ∷ xs) (suc i) b e = node-got xs i b e

node-none : (bs : List BegunNode) (i : ℕ) → slice_get bs i ≡ None → nth (known_nodes bs) i ≡ None
node-none [] i e = refl
node-none (x ∷ xs) zero e = absurd (let n : ⊥ = cc (e) in n)
node-none (x ∷ xs) (suc i) e = node-none xs i e

pub place_got : (bs : List BegunNode) (i : ℕ) (b : BegunNode) → slice_get bs i ≡ Some b
    → b.place ≡ slice_index (node_places bs) i
place_got [] i b e = absurd (let n : ⊥ = cc (e) in n)
place_got (x ∷ xs) zero b e = let same : x ≡ b = cc (e) in ap (λ (z : BegunNode). z.place) (sym same)
place_got (x ∷ xs) (suc i) b e = place_got xs i b e

pub place_none : (bs : List BegunNode) (i : ℕ) → slice_get bs i ≡ None
    → 0 ≡ slice_index (node_places bs) i
place_none [] i e = refl
place_none (x ∷ xs) zero e = absurd (let n : ⊥ = cc (e) in n)
place_none (x ∷ xs) (suc i) e = place_none xs i e

pub kind_got : (bs : List BegunNode) (i : ℕ) (b : BegunNode) → slice_get bs i ≡ Some b
    → b.kind ≡ kind_known (nth (known_nodes bs) i)
kind_got bs i b e = ap kind_known (sym (node-got bs i b e))

pub kind_none : (bs : List BegunNode) (i : ℕ) → slice_get bs i ≡ None
    → kind.Null ≡ kind_known (nth (known_nodes bs) i)
kind_none bs i e = ap kind_known (sym (node-none bs i e))

-- ---- aliases

pub number_low : (bs : List BegunNode) (i most : ℕ) (b : BegunNode) → length bs ≤ most
    → slice_get bs i ≡ Some b → i < most
number_low bs i most b few e = let low = slice_get_within bs i b e in omega (arith, few, low)

abbrev alias_in : ℕ → Option KnownNode → Option ℕ
alias_in j k = if is_alias (kind_known k) then Some (item_of (layer_of k) j) else None

pub alias_got : (bs : List BegunNode) (i : ℕ) (b : BegunNode) (o : Option ℕ) → slice_get bs i ≡ Some b
    → o ≡ alias_in i (Some (known_node b)) → o ≡ alias_at (known_nodes bs) i
alias_got bs i b o e is = is ∙ ap (alias_in i) (sym (node-got bs i b e))

pub alias_none : (bs : List BegunNode) (i : ℕ) → slice_get bs i ≡ None
    → None ≡ alias_at (known_nodes bs) i
alias_none bs i e = ap (alias_in i) (sym (node-none bs i e))

bare-by : (n : ℕ) (ns : List KnownNode) (j i : ℕ) (o : Option ℕ) → alias_at ns j ≡ o
    → (o ≡ Some i → bare_number (suc n) ns j ≡ bare_number n ns i)
    × (o ≡ None → bare_number (suc n) ns j ≡ j)
bare-by n ns j i o = by_alias (is_alias (kind_known (nth ns j))) (item_of (layer_of (nth ns j)) j)
  where
    by_alias : (b : Bool) (item : ℕ) → (if b then Some item else None) ≡ o
        → (o ≡ Some i → (if b then bare_number n ns item else j) ≡ bare_number n ns i)
        × (o ≡ None → (if b then bare_number n ns item else j) ≡ j)
    by_alias true item e = (
      λ is. let same : item ≡ i = cc (e, is) in ap (bare_number n ns) same,
      λ is. absurd (let none : ⊥ = cc (e, is) in none),
    )
    by_alias false item e = (λ is. absurd (let none : ⊥ = cc (e, is) in none), λ is. refl)

pub bare_on : (n : ℕ) (ns : List KnownNode) (j i : ℕ) → (n ≡ 0 → ⊥) → alias_at ns j ≡ Some i
    → bare_number (n - 1) ns i ≡ bare_number n ns j
bare_on zero ns j i some e = absurd (some refl)
bare_on (suc n) ns j i some e =
    let less : suc n - 1 ≡ n = omega arith in
    ap (λ (m : ℕ). bare_number m ns i) less ∙ sym ((bare-by n ns j i (Some i) e).0 refl)

pub bare_off : (n : ℕ) (ns : List KnownNode) (j : ℕ) → alias_at ns j ≡ None → j ≡ bare_number n ns j
bare_off zero ns j e = refl
bare_off (suc n) ns j e = sym ((bare-by n ns j 0 None e).1 refl)

-- ---- discriminators

pub leaf_none : (k : CodeKind) → None ≡ item_read (Some (leaf_numbers k))
leaf_none kind.Void = refl
leaf_none kind.Short = refl
leaf_none kind.Long = refl
leaf_none kind.UShort = refl
leaf_none kind.ULong = refl
leaf_none kind.Boolean = refl
leaf_none kind.Char = refl
leaf_none kind.Octet = refl
leaf_none kind.AnyCode = refl
leaf_none kind.Code = refl
leaf_none kind.LongLong = refl
leaf_none kind.ULongLong = refl
leaf_none k = refl

pub fields_none : (k : CodeKind) (id name : List ℕ) (ms : List MemberNode)
    → None ≡ item_read (Some (fields_numbers k id name ms))
fields_none kind.Except id name ms = refl
fields_none k id name ms = refl

pub items_none : (k : CodeKind) (item size : ℕ) → None ≡ item_read (Some (items_numbers k item size))
items_none kind.Array item size = refl
items_none k item size = refl

pub read_got : (bs : List BegunNode) (i : ℕ) (b : BegunNode) (o : Option ℕ) → slice_get bs i ≡ Some b
    → o ≡ item_read (known_node b).layer → o ≡ read_alias (known_nodes bs) i
read_got bs i b o e is =
    is ∙ ap (λ (k : Option KnownNode). item_read (layer_of k)) (sym (node-got bs i b e))

pub read_none : (bs : List BegunNode) (i : ℕ) → slice_get bs i ≡ None
    → None ≡ read_alias (known_nodes bs) i
read_none bs i e = ap (λ (k : Option KnownNode). item_read (layer_of k)) (sym (node-none bs i e))

pub fields_other : (k : CodeKind) (id name : List ℕ) (ms : List MemberNode)
    → discriminator.Other ≡ discriminator_of (fields_numbers k id name ms)
fields_other kind.Except id name ms = refl
fields_other k id name ms = refl

pub items_other : (k : CodeKind) (item size : ℕ)
    → discriminator.Other ≡ discriminator_of (items_numbers k item size)
items_other kind.Array item size = refl
items_other k item size = refl

pub switch_got : (bs : List BegunNode) (i : ℕ) (b : BegunNode) (d : Discriminator)
    → slice_get bs i ≡ Some b → d ≡ discriminator_read (known_node b).layer
    → d ≡ bare_discriminator (known_nodes bs) i
switch_got bs i b d e is =
    is ∙ ap (λ (k : Option KnownNode). discriminator_read (layer_of k)) (sym (node-got bs i b e))

pub switch_none : (bs : List BegunNode) (i : ℕ) → slice_get bs i ≡ None
    → discriminator.Other ≡ bare_discriminator (known_nodes bs) i
switch_none bs i e = ap (λ (k : Option KnownNode). discriminator_read (layer_of k))
    (sym (node-none bs i e))

under-on : (inner : ℕ → Discriminator) (o : Option Numbers) (i : ℕ) → item_read o ≡ Some i
    → inner i ≡ discriminator_under inner o
under-on inner None i e = absurd (let n : ⊥ = cc (e) in n)
under-on inner (Some (c.Alias id name item)) i e = let same : item ≡ i = cc (e) in
    ap inner (sym same)
under-on inner (Some l) i e = absurd (let n : ⊥ = cc (e) in n)

under-off : (inner : ℕ → Discriminator) (o : Option Numbers) → item_read o ≡ None
    → discriminator_read o ≡ discriminator_under inner o
under-off inner None e = refl
under-off inner (Some (c.Alias id name item)) e = absurd (let n : ⊥ = cc (e) in n)
under-off inner (Some l) e = refl

pub switch_on : (n : ℕ) (ns : List KnownNode) (j i : ℕ) → (n ≡ 0 → ⊥) → read_alias ns j ≡ Some i
    → discriminator_in (n - 1) ns i ≡ discriminator_in n ns j
switch_on zero ns j i some e = absurd (some refl)
switch_on (suc n) ns j i some e =
    let less : suc n - 1 ≡ n = omega arith in
    ap (λ (m : ℕ). discriminator_in m ns i) less
    ∙ under-on (discriminator_in n ns) (layer_of (nth ns j)) i e

pub switch_off : (n : ℕ) (ns : List KnownNode) (j : ℕ) → (n ≡ 0 → ⊥) → read_alias ns j ≡ None
    → bare_discriminator ns j ≡ discriminator_in n ns j
switch_off zero ns j some e = absurd (some refl)
switch_off (suc n) ns j some e = under-off (discriminator_in n ns) (layer_of (nth ns j)) e

-- ---- a node is read whole

pub put_set : (bs : List BegunNode) (i : ℕ) (new d : BegunNode) → i < length bs
    → new.place ≡ (get_or bs i d).place
    → map begun_slot (set bs i new) ≡ put (map begun_slot bs) i (known_node new)
put_set [] i new d lt e = absurd (omega (arith, lt))
put_set (x ∷ xs) zero new d lt e =
    ap (λ (p : ℕ). slot p (known_node new) ∷ map begun_slot xs) e
put_set (x ∷ xs) (suc i) new d lt e =
    ap (λ (ys : List KnownSlot). begun_slot x ∷ ys) (put_set xs i new d (omega (arith, lt)) e)
