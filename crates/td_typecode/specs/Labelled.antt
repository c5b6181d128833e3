-- The labels of a discriminator are told by its node as by itself.
use Rattle.std.specs.Prelude.{ℕ, zero, suc, ◌+◌, ◌≤◌, List, [], ◌∷◌, ◌++◌, length, map, Option, Some}
use Rattle.std.proofs.Common.{◌≡◌, sym, ap, subst, ◌∙◌, append_assoc, length-append, arith}
use Rattle.td_cdr.specs.Format.{nth}
use Rattle.td_cdr.specs.Sound.{Sound as Plain}
use Rattle.td_cdr.specs.declared.value_fault.ValueFault.{ValueFault}
use Rattle.td_typecode.specs.declared.code.TypeCode.{TypeCode, out-TypeCode}
use Rattle.td_typecode.specs.declared.code.TypeCode.TheOpen as c
use Rattle.td_typecode.specs.declared.code.Value.{Value}
use Rattle.td_typecode.specs.Labels.{Layer, label_layer, spelled_labels}
use Rattle.td_indirection.specs.Tables.{nth-seam}
use Rattle.td_typecode.specs.Known.{Numbers, KnownNode, KnownSlot, node_with_layer, layer_of}
use Rattle.td_typecode.specs.GraphCodes.{labels_of, node_labels}
use Rattle.td_typecode.specs.Extension.{Laid, NodeOf}

abbrev node_label : (ℕ → Plain ValueFault Value) → Numbers → Plain ValueFault Value
node_label next l = label_layer next l

-- a node has the labels of its layer, where an alias's item has
layer-same : (L : TypeCode → ℕ → List KnownSlot → Type 0)
    (inner : TypeCode → Plain ValueFault Value) (next : ℕ → Plain ValueFault Value) (l : Layer)
    (n : ℕ) (v : Numbers) (more : List KnownSlot)
    → ((t : TypeCode) → L t n more → next n ≡ inner t) → NodeOf L l n v more → node_label next v
    ≡ label_layer inner l
layer-same L inner next c.Null n v more k nd = ap (node_label next) nd.0
layer-same L inner next c.Void n v more k nd = ap (node_label next) nd.0
layer-same L inner next c.TypeCode::Short n v more k nd = ap (node_label next) nd.0
layer-same L inner next c.TypeCode::Long n v more k nd = ap (node_label next) nd.0
layer-same L inner next c.TypeCode::UShort n v more k nd = ap (node_label next) nd.0
layer-same L inner next c.TypeCode::ULong n v more k nd = ap (node_label next) nd.0
layer-same L inner next c.TypeCode::Boolean n v more k nd = ap (node_label next) nd.0
layer-same L inner next c.TypeCode::Char n v more k nd = ap (node_label next) nd.0
layer-same L inner next c.TypeCode::Octet n v more k nd = ap (node_label next) nd.0
layer-same L inner next c.AnyCode n v more k nd = ap (node_label next) nd.0
layer-same L inner next c.TypeCode::Code n v more k nd = ap (node_label next) nd.0
layer-same L inner next c.TypeCode::LongLong n v more k nd = ap (node_label next) nd.0
layer-same L inner next c.TypeCode::ULongLong n v more k nd = ap (node_label next) nd.0
layer-same L inner next (c.TypeCode::Str b) n v more k nd = ap (node_label next) nd.0
layer-same L inner next (c.TypeCode::ObjRef id name) n v more k nd = ap (node_label next) nd.0
layer-same L inner next (c.TypeCode::Enum id name names) n v more k nd = ap (node_label next) nd.0
layer-same L inner next (c.Sequence t b) n v more k nd = ap (node_label next) nd.0
layer-same L inner next (c.Array t b) n v more k nd = ap (node_label next) nd.0
layer-same L inner next (c.Alias id name t) n v more k nd = ap (node_label next) nd.0 ∙ k t nd.1
layer-same L inner next (c.TypeCode::Struct id name ms) n v more k nd = ap (node_label next) nd.1
layer-same L inner next (c.Except id name ms) n v more k nd = ap (node_label next) nd.1
layer-same L inner next (c.TypeCode::Union id name t d arms) n v more k nd = ap (node_label next)
    nd.4
layer-same L inner next (c.Linked graph) n v more k nd = absurd nd

abbrev known_of : List KnownSlot → List KnownNode
known_of slots = map (λ x. x.node) slots

pub labels-same : (levels : ℕ) (t : TypeCode) (n : ℕ) (slots : List KnownSlot)
    → Laid levels t n slots
    → (ns front behind : List KnownNode) → ns ≡ front ++ (map (λ x. x.node) slots ++ behind)
    → length front ≡ n → (fuel : ℕ)
    → length slots ≤ fuel → node_labels fuel ns n ≡ spelled_labels levels t
unfolding Laid spelled_labels
labels-same zero t n slots l ns front behind e at fuel enough = absurd l
labels-same (suc levels) t n slots (p, k, v, more, is, nd) ns front behind e at zero enough =
    absurd (let long = ap (length {A = KnownSlot}) is in omega (arith, long, enough))
labels-same (suc levels) t n slots (p, k, v, more, is, nd) ns front behind e at (suc fuel) enough =
    let rest = known_of more ++ behind in
    let there : ns ≡ front ++ (node_with_layer k v ∷ rest) =
    e ∙ ap (λ (x : List KnownSlot). front ++ (known_of x ++ behind)) is in
    let found : nth ns n ≡ Some (node_with_layer k v) =
    ap (λ (x : List KnownNode). nth x n) there
    ∙ subst (λ (i : ℕ). nth (front ++ (node_with_layer k v ∷ rest)) i ≡ Some (node_with_layer k v))
    at
    (nth-seam front (node_with_layer k v) rest) in
    let long = ap (length {A = KnownSlot}) is in
    ap (λ (o : Option KnownNode). labels_of (node_labels fuel ns) (layer_of o)) found
    ∙ layer-same (Laid levels) (spelled_labels levels) (node_labels fuel ns) (out-TypeCode t)
    (n + 1) v more (λ u l. labels-same levels u (n + 1) more l ns (front ++ node_with_layer k v
    ∷ []) behind
    (there ∙ sym (append_assoc front (node_with_layer k v ∷ []) rest))
    (length-append front (node_with_layer k v ∷ [])
    ∙ ap (λ (i : ℕ). i + 1) at) fuel (omega (arith, long, enough))) nd
