-- That tc_graph's test of two nodes answers as its definition says.
use Rattle.std.specs.Prelude.{ℕ, ◌≡◌, false, List, [], ◌∷◌, length, nat_eq}
use Rattle.std.proofs.Common.{refl, arith}
use Rattle.std.specs.Bool.{Decides}
use Rattle.std.specs.Cmp.Lexicographic.{pointwise}
use Rattle.std.proofs.lemmas.Bool.{ne_eqb}
use Rattle.std.proofs.lemmas.Bool.Decides.{Decides-eqb, Decides-int_eq, Decides-and, Decides-like}
use Rattle.std.proofs.lemmas.Slice.Eq.{slice_eq-Decides}
use Rattle.tc_graph.specs.declared.node.Node.{Node}
use Rattle.tc_graph.specs.Sameness.{IdsAgree, Matches, ids_agree, matches}

ids-Decides : (a b : List ℕ) → Decides (ids_agree a b) (IdsAgree a b)
ids-Decides [] b = (λ _ na nb. absurd (na refl), λ _. refl)
ids-Decides (x ∷ xs) [] =
    let some : nat_eq (length (x ∷ xs)) 0 ≡ false = ne_eqb (length (x ∷ xs)) 0 (λ e. omega (arith, e)) in
    (λ _ na nb. absurd (nb refl), λ _. rw some refl)
ids-Decides (x ∷ xs) (y ∷ ys) =
    let some : nat_eq (length (x ∷ xs)) 0 ≡ false = ne_eqb (length (x ∷ xs)) 0 (λ e. omega (arith, e)) in
    let more : nat_eq (length (y ∷ ys)) 0 ≡ false = ne_eqb (length (y ∷ ys)) 0 (λ e. omega (arith, e)) in
    let d : Decides (pointwise nat_eq (x ∷ xs) (y ∷ ys)) (x ∷ xs ≡ y ∷ ys) =
    slice_eq-Decides Decides-eqb (x ∷ xs) (y ∷ ys) (pointwise nat_eq (x ∷ xs) (y ∷ ys)) refl in
    (λ e na nb. d.0 (rw (some, more) at e), λ agree. rw (some, more) (d.1 (agree (λ e. cc (e)) (λ e. cc (e)))))

pub matches-Decides : (p q : Node) → Decides (matches p q) (Matches p q)
matches-Decides p q =
    Decides-like (matches p q)
    (λ t. record { kinds = t.0; ids = t.1.0; numbers = t.1.1.0; names = t.1.1.1.0; edges = t.1.1.1.1 })
    (λ m. (m.kinds, (m.ids, (m.numbers, (m.names, m.edges)))))
    (Decides-and _ _ (Decides-eqb p.kind q.kind)
    (Decides-and _ _ (ids-Decides p.id q.id)
    (Decides-and _ _ (slice_eq-Decides Decides-int_eq p.numbers q.numbers _ refl)
    (Decides-and _ _ (Decides-eqb (length p.names) (length q.names)) (Decides-eqb (length p.edges) (length q.edges))))))
