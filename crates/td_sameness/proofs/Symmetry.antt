-- Being the same is symmetric, and reflexive where no graph stands in another TypeCode.
use Rattle.std.proofs.Common.{◌≡◌, ℕ, ℤ, ◌*◌, Bool, true, false, not, ◌&&◌, ◌||◌, List, [], ◌∷◌, length, nat_eq, refl, ap}
use Rattle.std.proofs.Common.{subst, ◌∙◌, Option, Some, None}
use Rattle.std.proofs.Math.Nat.{mul_comm}
use Rattle.std.proofs.lemmas.Bool.{and_parts, eqb-true}
use Rattle.tc_graph.specs.declared.node.Node.{Node}
use Rattle.tc_graph.specs.Sameness.{alike as graphs_alike}
use Rattle.tc_graph.proofs.Deciding.{alike-Decides}
use Rattle.tc_graph.proofs.Symmetry.{alike-itself, alike-turned}
use Rattle.std.specs.Cmp.Lexicographic.{pointwise}
use Rattle.std.specs.Ordering.{int_eq}
use Rattle.std.proofs.lemmas.Cmp.{nat_eq_equiv, int_eq_equiv, nat_list_eq_equiv, lists_equiv}
use Rattle.td_typecode.specs.declared.label.Label.{Label}
use Rattle.td_typecode.specs.declared.label.Label.TheVariants.{One, Two, Four, Eight}
use Rattle.td_typecode.specs.declared.code.TypeCode.{TypeCode}
use Rattle.td_typecode.specs.Labels.{same_label}
use Rattle.td_typecode.specs.Kinds.{indirection}
use Rattle.td_typecode.specs.Same.{Shapes, empty, node, Shape, alike, like, kinds_agree, ids_agree, shape, same_by}
use Rattle.td_typecode.specs.Same.{graph_of}
use Rattle.td_typecode.specs.Same.{Same}
use Rattle.td_sameness.specs.Graphs.{are_trees, is_tree, stands_alone, StandsAlone}

label-refl : (a : Label) → same_label a a ≡ true
label-refl (One n) = nat_eq_equiv.refl n
label-refl (Two n) = nat_eq_equiv.refl n
label-refl (Four n) = nat_eq_equiv.refl n
label-refl (Eight n) = nat_eq_equiv.refl n

label-symm : (a b : Label) → same_label a b ≡ same_label b a
label-symm (One m) (One n) = nat_eq_equiv.symm m n
label-symm (Two m) (Two n) = nat_eq_equiv.symm m n
label-symm (Four m) (Four n) = nat_eq_equiv.symm m n
label-symm (Eight m) (Eight n) = nat_eq_equiv.symm m n
label-symm (One m) (Two n) = refl
label-symm (One m) (Four n) = refl
label-symm (One m) (Eight n) = refl
label-symm (Two m) (One n) = refl
label-symm (Two m) (Four n) = refl
label-symm (Two m) (Eight n) = refl
label-symm (Four m) (One n) = refl
label-symm (Four m) (Two n) = refl
label-symm (Four m) (Eight n) = refl
label-symm (Eight m) (One n) = refl
label-symm (Eight m) (Two n) = refl
label-symm (Eight m) (Four n) = refl

labels-refl : (xs : List Label) → pointwise same_label xs xs ≡ true
labels-refl [] = refl
labels-refl (x ∷ xs) = rw (label-refl x, labels-refl xs) refl

labels-symm : (xs ys : List Label) → pointwise same_label xs ys ≡ pointwise same_label ys xs
labels-symm [] [] = refl
labels-symm [] (y ∷ ys) = refl
labels-symm (x ∷ xs) [] = refl
labels-symm (x ∷ xs) (y ∷ ys) = rw (label-symm x y, labels-symm xs ys) refl

either-empty : (p q e : Bool) → (p || (q || e)) ≡ (q || (p || e))
either-empty true true e = refl
either-empty true false e = refl
either-empty false true e = refl
either-empty false false e = refl

either-true : (p q : Bool) → (p || (q || true)) ≡ true
either-true true q = refl
either-true false true = refl
either-true false false = refl

ids-refl : (a : List ℕ) → ids_agree a a ≡ true
ids-refl a = rw (nat_list_eq_equiv.refl a) (either-true (nat_eq (length a) 0) (nat_eq (length a) 0))

ids-symm : (a b : List ℕ) → ids_agree a b ≡ ids_agree b a
ids-symm a b =
    ap (λ (e : Bool). nat_eq (length a) 0 || (nat_eq (length b) 0 || e)) (nat_list_eq_equiv.symm a b)
    ∙ either-empty (nat_eq (length a) 0) (nat_eq (length b) 0) (pointwise nat_eq b a)

numbers-refl : (xs : List ℤ) → pointwise int_eq xs xs ≡ true
numbers-refl xs = (lists_equiv int_eq_equiv).refl xs

numbers-symm : (xs ys : List ℤ) → pointwise int_eq xs ys ≡ pointwise int_eq ys xs
numbers-symm xs ys = (lists_equiv int_eq_equiv).symm xs ys

kinds-refl : (k : ℕ) → not (nat_eq k indirection) ≡ true → kinds_agree k k ≡ true
kinds-refl k tree = rw (nat_eq_equiv.refl k, tree) refl

kinds-symm-at : (k j : ℕ) (b : Bool) → nat_eq k j ≡ b → (b && not (nat_eq k indirection)) ≡ (b && not (nat_eq j indirection))
kinds-symm-at k j true e = ap (λ (n : ℕ). not (nat_eq n indirection)) (eqb-true k j e)
kinds-symm-at k j false e = refl

kinds-symm : (k j : ℕ) → kinds_agree k j ≡ kinds_agree j k
kinds-symm k j =
    kinds-symm-at k j (nat_eq k j) refl ∙ ap (λ (b : Bool). b && not (nat_eq j indirection)) (nat_eq_equiv.symm k j)

alike-refl : (xs : Shapes) → are_trees xs ≡ true → alike xs xs ≡ true
alike-refl empty tree = refl
alike-refl (node l k n i x xs) tree =
    let p = and_parts (not (nat_eq k indirection)) (are_trees x && are_trees xs) tree in
    let q = and_parts (are_trees x) (are_trees xs) p.1 in
    rw (
      labels-refl l,
      kinds-refl k p.0,
      numbers-refl n,
      ids-refl i,
      alike-refl x q.0,
      alike-refl xs q.1,
    ) refl

alike-symm : (xs ys : Shapes) → alike xs ys ≡ alike ys xs
alike-symm empty empty = refl
alike-symm empty (node m j o h y ys) = refl
alike-symm (node l k n i x xs) empty = refl
alike-symm (node l k n i x xs) (node m j o h y ys) =
    ap (λ (b : Bool). (b && (kinds_agree k j && (pointwise int_eq n o && (ids_agree i h && alike x y)))) && alike xs ys)
    (labels-symm l m)
    ∙ ap (λ (b : Bool). (pointwise same_label m l && (b && (pointwise int_eq n o && (ids_agree i h && alike x y))))
    && alike xs ys)
    (kinds-symm k j)
    ∙ ap (λ (b : Bool). (pointwise same_label m l && (kinds_agree j k && (b && (ids_agree i h && alike x y))))
    && alike xs ys)
    (numbers-symm n o)
    ∙ ap (λ (b : Bool). (pointwise same_label m l && (kinds_agree j k && (pointwise int_eq o n && (b && alike x y))))
    && alike xs ys)
    (ids-symm i h)
    ∙ ap (λ (b : Bool). (pointwise same_label m l && (kinds_agree j k && (pointwise int_eq o n && (ids_agree h i && b))))
    && alike xs ys)
    (alike-symm x y)
    ∙ ap (λ (b : Bool). (pointwise same_label m l
    && (kinds_agree j k && (pointwise int_eq o n && (ids_agree h i && alike y x))))
    && b)
    (alike-symm xs ys)

like-refl : (s : Shape) → is_tree s ≡ true → like s s ≡ true
like-refl s tree =
    let p = and_parts (not (nat_eq s.kind indirection)) (are_trees s.inner) tree in
    rw (kinds-refl s.kind p.0, numbers-refl s.numbers, ids-refl s.id, alike-refl s.inner p.1) refl

like-symm : (s t : Shape) → like s t ≡ like t s
like-symm s t =
    ap (λ (b : Bool). b && (pointwise int_eq s.numbers t.numbers && (ids_agree s.id t.id && alike s.inner t.inner)))
    (kinds-symm s.kind t.kind)
    ∙ ap (λ (b : Bool). kinds_agree t.kind s.kind && (b && (ids_agree s.id t.id && alike s.inner t.inner)))
    (numbers-symm s.numbers t.numbers)
    ∙ ap (λ (b : Bool). kinds_agree t.kind s.kind
    && (pointwise int_eq t.numbers s.numbers && (b && alike s.inner t.inner)))
    (ids-symm s.id t.id)
    ∙ ap (λ (b : Bool). kinds_agree t.kind s.kind
    && (pointwise int_eq t.numbers s.numbers && (ids_agree t.id s.id && b)))
    (alike-symm s.inner t.inner)

-- ---- either may be a graph

graphs-refl : (g : List Node) → graphs_alike (length g * length g) g 0 g 0 ≡ true
graphs-refl g = (alike-Decides (length g * length g) g 0 g 0).1 (alike-itself (length g * length g) g 0)

turned : (n m : ℕ) (g h : List Node) → n ≡ m → graphs_alike n g 0 h 0 ≡ true → graphs_alike m h 0 g 0 ≡ true
turned n m g h e a =
    subst (λ (d : ℕ). graphs_alike d h 0 g 0 ≡ true) e
    ((alike-Decides n h 0 g 0).1 (alike-turned n g 0 h 0 ((alike-Decides n g 0 h 0).0 a)))

refl-by : (o : Option (List Node)) (s : Shape) → stands_alone o s ≡ true → same_by o o s s ≡ true
refl-by None s alone = like-refl s alone
refl-by (Some g) s alone = graphs-refl g

symm-by : (o p : Option (List Node)) (s t : Shape) → same_by o p s t ≡ true → same_by p o t s ≡ true
symm-by None None s t e = like-symm t s ∙ e
symm-by None (Some h) s t e = e
symm-by (Some g) None s t e = e
symm-by (Some g) (Some h) s t e =
    turned (length g * length h) (length h * length g) g h (mul_comm (length g) (length h)) e

pub same-refl : (a : TypeCode) → StandsAlone a → Same a a
same-refl a alone = refl-by (graph_of a) (shape a) alone

pub same-symm : (a b : TypeCode) → Same a b → Same b a
same-symm a b s = symm-by (graph_of a) (graph_of b) (shape a) (shape b) s
