-- That the test `alike` answers as `Alike` says.
use Rattle.std.proofs.Common.{ℕ, zero, suc, ◌≡◌, ◌<◌, Bool, true, false, List, [], ◌∷◌, length, slice_index, nat_eq, Result, Ok, Err, IfOk, ap, refl, arith}
use Rattle.std.specs.Bool.{Decides}
use Rattle.std.specs.Cmp.Lexicographic.{pointwise}
use Rattle.std.proofs.lemmas.Bool.{and_parts, and_from, ne_eqb}
use Rattle.std.proofs.lemmas.Bool.Decides.{Decides-eqb, Decides-int_eq, Decides-and, Decides-like}
use Rattle.std.proofs.lemmas.Slice.Eq.{slice_eq-Decides}
use Rattle.tc_graph.specs.declared.node.Node.{Node}
use Rattle.tc_graph.specs.Nodes.{node_at, edge}
use Rattle.tc_graph.specs.Aliases.{bare}
use Rattle.tc_graph.specs.Sameness.{IdsAgree, Matches, Alike, ids_agree, matches, alike}

-- as many, and each two in order pass
abbrev Each : (ℕ → ℕ → Bool) → List ℕ → List ℕ → Type 0
Each E xs ys =
    (length xs ≡ length ys) × ((k : ℕ) → k < length xs → E (slice_index xs k) (slice_index ys k) ≡ true)

each-cons : (E : ℕ → ℕ → Bool) (x y : ℕ) (xs ys : List ℕ) → E x y ≡ true
    → ((k : ℕ) → k < length xs → E (slice_index xs k) (slice_index ys k) ≡ true) → (k : ℕ) → k < length (x ∷ xs)
    → E (slice_index (x ∷ xs) k) (slice_index (y ∷ ys) k) ≡ true
each-cons E x y xs ys h t zero l = h
each-cons E x y xs ys h t (suc k) l = t k (omega (arith, l))

each-Decides : (E : ℕ → ℕ → Bool) (xs ys : List ℕ) → Decides (pointwise E xs ys) (Each E xs ys)
each-Decides E [] [] = (λ _. (refl, λ k l. absurd (omega (arith, l))), λ _. refl)
each-Decides E [] (y ∷ ys) = (λ e. absurd (let n : ⊥ = cc (e) in n), λ p. absurd (let n : ⊥ = omega (arith, p.0) in n))
each-Decides E (x ∷ xs) [] = (λ e. absurd (let n : ⊥ = cc (e) in n), λ p. absurd (let n : ⊥ = omega (arith, p.0) in n))
each-Decides E (x ∷ xs) (y ∷ ys) = (
  λ e.
      let parts = and_parts (E x y) (pointwise E xs ys) e in
      let rest = (each-Decides E xs ys).0 parts.1 in
      (ap suc rest.0, each-cons E x y xs ys parts.0 rest.1),
  λ p.
      let size : length xs ≡ length ys = omega (arith, p.0) in
      and_from (E x y) (pointwise E xs ys) (p.1 0 (omega arith))
      ((each-Decides E xs ys).1 (size, λ k l. p.1 (suc k) (omega (arith, l)))),
)

ids-Decides : (a b : List ℕ) → Decides (ids_agree a b) (IdsAgree a b)
ids-Decides [] b = (λ _ na nb. absurd (na refl), λ _. refl)
ids-Decides (x ∷ xs) [] =
    let some : nat_eq (length (x ∷ xs)) 0 ≡ false = ne_eqb (length (x ∷ xs)) 0 (λ e. omega (arith, e)) in
    (λ _ na nb. absurd (nb refl), λ _. rw some refl)
ids-Decides (x ∷ xs) (y ∷ ys) =
    let some : nat_eq (length (x ∷ xs)) 0 ≡ false = ne_eqb (length (x ∷ xs)) 0 (λ e. omega (arith, e)) in
    let more : nat_eq (length (y ∷ ys)) 0 ≡ false = ne_eqb (length (y ∷ ys)) 0 (λ e. omega (arith, e)) in
    let d : Decides (pointwise nat_eq (x ∷ xs) (y ∷ ys)) (x ∷ xs ≡ y ∷ ys) =
    slice_eq-Decides Decides-eqb (x ∷ xs) (y ∷ ys) (pointwise nat_eq (x ∷ xs) (y ∷ ys)) refl in
    (λ e na nb. d.0 (rw (some, more) at e), λ agree. rw (some, more) (d.1 (agree (λ e. cc (e)) (λ e. cc (e)))))

matches-Decides : (p q : Node) → Decides (matches p q) (Matches p q)
matches-Decides p q =
    Decides-like (matches p q)
    (λ t. record { kinds = t.0; ids = t.1.0; numbers = t.1.1.0; names = t.1.1.1.0; edges = t.1.1.1.1 })
    (λ m. (m.kinds, (m.ids, (m.numbers, (m.names, m.edges)))))
    (Decides-and _ _ (Decides-eqb p.kind q.kind)
    (Decides-and _ _ (ids-Decides p.id q.id)
    (Decides-and _ _ (slice_eq-Decides Decides-int_eq p.numbers q.numbers _ refl)
    (Decides-and _ _ (Decides-eqb (length p.names) (length q.names)) (Decides-eqb (length p.edges) (length q.edges))))))

pub alike-Decides : (d : ℕ) (g : List Node) (i : ℕ) (h : List Node) (j : ℕ) → Decides (alike d g i h j) (Alike d g i h j)
unfolding alike Alike
alike-Decides zero g i h j = (λ _. tt, λ _. refl)
alike-Decides (suc d) g i h j =
    let p = node_at g (bare g i) in
    let q = node_at h (bare h j) in
    Decides-like _
    (λ t. (t.0, λ k l. (alike-Decides d g (edge p k) h (edge q k)).0 (t.1.1 k l)))
    (λ a. (a.0, (a.0.edges, λ k l. (alike-Decides d g (edge p k) h (edge q k)).1 (a.1 k l))))
    (Decides-and (matches p q) _ (matches-Decides p q) (each-Decides (λ x y. alike d g x h y) p.edges q.edges))

pub if_ok : {T E : Type 0} (r : Result T E) (P Q : T → Type 0) → ((x : T) → P x → Q x) → IfOk r P → IfOk r Q
if_ok (Ok x) P Q f h = f x h
if_ok (Err e) P Q f h = h
