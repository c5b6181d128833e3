-- What counts of rows of members and of arms: how many they are, and their labels.
use Rattle.std.proofs.Common.{◌≡◌, ℕ, ℤ, pos, suc, ◌+◌, ◌<◌, ◌≤◌, Bool, true, false, ◌&&◌, List, [], ◌∷◌, ◌++◌, length, map}
use Rattle.std.proofs.Common.{drop, get_or, nat_eq, refl, sym, ap, ◌∙◌, arith}
use Rattle.std.specs.Ordering.{int_eq}
use Rattle.std.specs.Cmp.Lexicographic.{pointwise}
use Rattle.std.proofs.lemmas.List.{drop_more, drop_all, length-map}
use Rattle.std.proofs.Math.Bool.{and-false}
use Rattle.tc_graph.specs.declared.node.Node.{Node}
use Rattle.td_typecode.specs.declared.label.Label.{Label}
use Rattle.td_typecode.specs.declared.code.TypeCode.{TypeCode}
use Rattle.td_typecode.specs.declared.code.TypeCode.TheOpen as c
use Rattle.td_typecode.specs.declared.code.Value.{Value, fold-Value, fold_out-Value, map-Value, out-Value}
use Rattle.td_typecode.specs.declared.code.Any.{Any, fold-Any}
use Rattle.td_typecode.specs.declared.code.Arm.{Arm, fold-roll-Arm}
use Rattle.td_typecode.specs.declared.code.Member.{Member, fold-roll-Member}
use Rattle.td_typecode.specs.Labels.{ValueLayer, label_of, label_of_layer}
use Rattle.td_typecode.specs.Same.{Shape, Component, row, shape, shape_layer, any_layer, arm_layer, member_layer}
use Rattle.td_typecode.specs.Same.{arm_entry}
use Rattle.td_typecode.specs.Same.{member_entry, label_number, labels_in, Shapes, count, heads_agree}
use Rattle.td_sameness.specs.Graphs.{parts_agree}

-- ---- how many there are

count-row : (ds : List Component) → count (row ds) ≡ length ds
count-row [] = refl
count-row (d ∷ ds) = ap suc (count-row ds)

pub count-entries : {X : Type 0} (entry : X → Component) (xs : List X) → count (row (map entry xs)) ≡ length xs
count-entries entry xs = count-row (map entry xs) ∙ length-map xs entry

-- ---- what counts of a node is looked at in order: its head, its names, its numbers

pub not-headed : (k : ℕ) (n : List ℤ) (i : List ℕ) (x : Shapes) (p : Node) → false ≡ heads_agree k i p
    → false ≡ parts_agree k n i x p
not-headed k n i x p e =
    ap (λ (b : Bool). (b && nat_eq (suc (count x)) (length p.names)) && pointwise int_eq (n ++ labels_in x) p.numbers) e

pub not-named : (k : ℕ) (n : List ℤ) (i : List ℕ) (x : Shapes) (p : Node) (m : ℕ) → count x ≡ m
    → false ≡ nat_eq (suc m) (length p.names) → false ≡ parts_agree k n i x p
not-named k n i x p m is e =
    let here : false ≡ nat_eq (suc (count x)) (length p.names) =
    e ∙ ap (λ (c : ℕ). nat_eq (suc c) (length p.names)) (sym is) in
    ap (λ (b : Bool). b && pointwise int_eq (n ++ labels_in x) p.numbers) (sym (and-false (heads_agree k i p)))
    ∙ ap (λ (b : Bool). (heads_agree k i p && b) && pointwise int_eq (n ++ labels_in x) p.numbers) here

pub by-numbers : (k : ℕ) (n : List ℤ) (i : List ℕ) (x : Shapes) (p : Node) (m : ℕ) (r : Bool) → count x ≡ m
    → true ≡ heads_agree k i p → true ≡ nat_eq (suc m) (length p.names)
    → r ≡ pointwise int_eq (n ++ labels_in x) p.numbers → r ≡ parts_agree k n i x p
by-numbers k n i x p m r is head names numbers =
    let here : true ≡ nat_eq (suc (count x)) (length p.names) =
    names ∙ ap (λ (c : ℕ). nat_eq (suc c) (length p.names)) (sym is) in
    let both : true ≡ (heads_agree k i p && nat_eq (suc (count x)) (length p.names)) =
    ap (λ (b : Bool). b && true) head ∙ ap (λ (b : Bool). heads_agree k i p && b) here in
    numbers ∙ ap (λ (b : Bool). b && pointwise int_eq (n ++ labels_in x) p.numbers) both

-- ---- members have no labels

member-label : (m : Member) → (member_entry m).label ≡ []
member-label m =
    ap (λ (e : Component). e.label)
    (fold-roll-Member Shape Label Label Component Component shape_layer label_of_layer any_layer arm_layer member_layer
    (record { name = m.name; code = m.code }))

pub members-unlabelled : (ms : List Member) → labels_in (row (map member_entry ms)) ≡ []
members-unlabelled [] = refl
members-unlabelled (m ∷ ms) = rw (member-label m) (members-unlabelled ms)

-- ---- an arm has one

layer_label : (l : ValueLayer) → label_of_layer
    (map-Value TypeCode Value Any Arm Member Shape Label Label Component Component shape
    (fold-Value Shape Label Label Component Component shape_layer label_of_layer any_layer arm_layer member_layer)
    (fold-Any Shape Label Label Component Component shape_layer label_of_layer any_layer arm_layer member_layer) arm_entry
    member_entry l)
    ≡ label_of_layer l
layer_label c.Empty = refl
layer_label (c.Value::Short z) = refl
layer_label (c.Value::Long z) = refl
layer_label (c.Value::UShort n) = refl
layer_label (c.Value::ULong n) = refl
layer_label (c.Value::Boolean b) = refl
layer_label (c.Value::Char n) = refl
layer_label (c.Value::Octet n) = refl
layer_label (c.Value::LongLong z) = refl
layer_label (c.Value::ULongLong n) = refl
layer_label (c.Value::Str t) = refl
layer_label (c.AnyValue a) = refl
layer_label (c.Value::Code t) = refl
layer_label (c.Value::ObjRef r) = refl
layer_label (c.Value::Struct vs) = refl
layer_label (c.Value::Union label arm) = refl
layer_label (c.Value::Enum n) = refl
layer_label (c.Items vs) = refl

folded-is : (v : Value)
    → fold-Value Shape Label Label Component Component shape_layer label_of_layer any_layer arm_layer member_layer v ≡ label_of v
folded-is v =
    fold_out-Value Shape Label Label Component Component shape_layer label_of_layer any_layer arm_layer member_layer v
    ∙ layer_label (out-Value v)

arm-label : (a : Arm) → (arm_entry a).label ≡ label_of a.label ∷ []
arm-label a =
    ap (λ (e : Component). e.label)
    (fold-roll-Arm Shape Label Label Component Component shape_layer label_of_layer any_layer arm_layer member_layer
    (record { label = a.label; name = a.name; code = a.code }))
    ∙ ap (λ (l : Label). l ∷ []) (folded-is a.label)

-- ---- the labels of arms against numbers

abbrev pub labelled : List Arm → List ℤ → Bool
labelled arms ns = pointwise int_eq (labels_in (row (map arm_entry arms))) ns

abbrev pub number_in : Arm → ℤ
number_in a = pos (label_number (label_of a.label))

labelled-cons : (a : Arm) (arms : List Arm) (z : ℤ) (ns : List ℤ)
    → labelled (a ∷ arms) (z ∷ ns) ≡ (int_eq (number_in a) z && labelled arms ns)
labelled-cons a arms z ns = rw (arm-label a) refl

pub labelled-lengths : (arms : List Arm) (ns : List ℤ) → (length arms ≡ length ns → ⊥) → labelled arms ns ≡ false
labelled-lengths [] [] no_match = absurd (no_match refl)
labelled-lengths [] (z ∷ ns) no_match = refl
labelled-lengths (a ∷ arms) [] no_match = rw (arm-label a) refl
labelled-lengths (a ∷ arms) (z ∷ ns) no_match =
    labelled-cons a arms z ns
    ∙ ap (λ (b : Bool). int_eq (number_in a) z && b) (labelled-lengths arms ns (λ e. no_match (ap suc e)))
    ∙ and-false (int_eq (number_in a) z)

labelled-at : (i : ℕ) (arms : List Arm) (ns : List ℤ) (a : Arm) → i < length arms → i < length ns
    → a ≡ get_or arms i a
    → labelled (drop i arms) (drop i ns)
    ≡ (int_eq (number_in a) (get_or ns i (pos 0)) && labelled (drop (i + 1) arms) (drop (i + 1) ns))
labelled-at i arms ns a la ln aa =
    let da : drop i arms ≡ a ∷ drop (i + 1) arms =
    drop_more arms i a la ∙ ap (λ (x : Arm). x ∷ drop (i + 1) arms) (sym aa) in
    let dn : drop i ns ≡ get_or ns i (pos 0) ∷ drop (i + 1) ns = drop_more ns i (pos 0) ln in
    rw (da, dn) (labelled-cons a (drop (i + 1) arms) (get_or ns i (pos 0)) (drop (i + 1) ns))

pub labelled-end : (i : ℕ) (arms : List Arm) (ns : List ℤ) → length arms ≡ length ns → length arms ≤ i
    → labelled (drop i arms) (drop i ns) ≡ true
labelled-end i arms ns e le = rw (drop_all i arms le, drop_all i ns (omega (arith, e, le))) refl

pub labelled-fails : (i : ℕ) (arms : List Arm) (ns : List ℤ) (a : Arm) → i < length arms → i < length ns
    → a ≡ get_or arms i a → false ≡ int_eq (number_in a) (get_or ns i (pos 0))
    → false ≡ labelled (drop i arms) (drop i ns)
labelled-fails i arms ns a la ln aa other =
    sym (labelled-at i arms ns a la ln aa
    ∙ ap (λ (b : Bool). b && labelled (drop (i + 1) arms) (drop (i + 1) ns)) (sym other))

pub labelled-next : (i : ℕ) (arms : List Arm) (ns : List ℤ) (a : Arm) → i < length arms → i < length ns
    → a ≡ get_or arms i a → true ≡ int_eq (number_in a) (get_or ns i (pos 0))
    → labelled (drop (i + 1) arms) (drop (i + 1) ns) ≡ labelled (drop i arms) (drop i ns)
labelled-next i arms ns a la ln aa same =
    sym (labelled-at i arms ns a la ln aa
    ∙ ap (λ (b : Bool). b && labelled (drop (i + 1) arms) (drop (i + 1) ns)) (sym same))
