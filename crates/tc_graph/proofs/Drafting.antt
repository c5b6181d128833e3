-- What a call does to a graph that is being made.
use Rattle.std.proofs.Common.{ℕ, zero, suc, ◌≡◌, ◌<◌, ◌≤◌, true, false, List, [], ◌∷◌, length, get_or, slice_index, set, Some, None, nat_lt, sym, ◌∙◌, ⊎_elim, arith}
use Rattle.std.proofs.lemmas.Bool.{cases_eq, cases_lt, lt-ltb, le-ltb}
use Rattle.std.proofs.lemmas.List.{length-set, get_or-set_same, get_or-set_other}
use Rattle.tc_graph.specs.declared.node.Node.{Node}
use Rattle.tc_graph.specs.Nodes.{blank, node_at, is_alias, edge}
use Rattle.tc_graph.specs.Aliases.{IsInLoop}
use Rattle.tc_graph.specs.Whole.{IsWhole}
use Rattle.tc_graph.specs.Drafts.{GraphDraft, with_node, first_outside, IsValidDraft, AllFilled}

pub none-outside : (n : ℕ) (es : List ℕ) → first_outside n es ≡ None → (k : ℕ) → k < length es → slice_index es k < n
none-outside n [] e k l = absurd (omega (arith, l))
none-outside n (x ∷ es) e zero l =
    ⊎_elim
    (λ (lt : x < n). lt)
    (λ (ge : n ≤ x). absurd (let f : nat_lt x n ≡ false = le-ltb x n ge in let s : Some x ≡ None = rw f at e in let no : ⊥ = cc (s) in no))
    (cases_lt x n)
none-outside n (x ∷ es) e (suc k) l =
    ⊎_elim
    (λ (lt : x < n). none-outside n es (let t : nat_lt x n ≡ true = lt-ltb x n lt in rw t at e) k (omega (arith, l)))
    (λ (ge : n ≤ x). absurd (let f : nat_lt x n ≡ false = le-ltb x n ge in let s : Some x ≡ None = rw f at e in let no : ⊥ = cc (s) in no))
    (cases_lt x n)

pub draft-filled : (b : GraphDraft) (p : ℕ) (x : Node) → IsValidDraft b → p < length b.nodes
    → ((k : ℕ) → k < length x.edges → edge x k < length b.nodes) → (is_alias x ≡ true → length x.edges ≡ 1)
    → IsValidDraft (with_node b p x)
draft-filled b p x w l inside alias =
    let same : node_at (set b.nodes p x) p ≡ x = get_or-set_same b.nodes p x (blank 0) l in
    let other : (i : ℕ) → (i ≡ p → ⊥) → node_at (set b.nodes p x) i ≡ node_at b.nodes i =
    λ i ne. get_or-set_other b.nodes p i x (blank 0) ne in
    let count : length (set b.nodes p x) ≡ length b.nodes = length-set b.nodes p x in
    record {
      size = length-set b.filled p true ∙ w.size ∙ sym count;
      few = omega (arith, w.few, count);
      within = λ i k li lk. ⊎_elim
          (λ (e : i ≡ p). let here : node_at (set b.nodes p x) i ≡ x = rw e same in
          rw (here, count) (inside k (rw here at lk)))
          (λ (ne : i ≡ p → ⊥). let here : node_at (set b.nodes p x) i ≡ node_at b.nodes i = other i ne in
          rw (here, count) (w.within i k (omega (arith, li, count)) (rw here at lk)))
          (cases_eq i p);
      aliases = λ i li f a. ⊎_elim
          (λ (e : i ≡ p). let here : node_at (set b.nodes p x) i ≡ x = rw e same in
          rw here (alias (rw here at a)))
          (λ (ne : i ≡ p → ⊥). let here : node_at (set b.nodes p x) i ≡ node_at b.nodes i = other i ne in
          let filled : get_or (set b.filled p true) i false ≡ get_or b.filled i false =
          get_or-set_other b.filled p i true false ne in
          rw here (w.aliases i (omega (arith, li, count)) (sym filled ∙ f) (rw here at a)))
          (cases_eq i p);
    }

pub whole-of : (b : GraphDraft) → IsValidDraft b → 0 < length b.nodes → AllFilled b
    → ((i : ℕ) → i < length b.nodes → IsInLoop b.nodes i → ⊥) → IsWhole b.nodes
whole-of b w some all none = record {
  some = some;
  closed = record { few = w.few; within = w.within; aliases = λ i l a. w.aliases i l (all i l) a };
  no_loops = none;
}
