-- Aliases that are removed one by one.
use Rattle.std.proofs.Common.{ℕ, zero, suc, ◌≡◌, ◌<◌, true, false, List, length, get_or, sym, refl}
use Rattle.std.proofs.lemmas.List.{get_or_read}
use Rattle.tc_graph.specs.declared.node.Node.{Node}
use Rattle.tc_graph.specs.Nodes.{blank, node_at, is_alias, edge}
use Rattle.tc_graph.specs.Aliases.{bare_within}

pub at-node : (g : List Node) (i : ℕ) (p : Node) → i < length g → p ≡ get_or g i p → node_at g i ≡ p
at-node g i p h e = sym (get_or_read g i p h e (blank 0))

pub bare-ends : (n : ℕ) (g : List Node) (i : ℕ) → is_alias (node_at g i) ≡ false → bare_within n g i ≡ i
unfolding bare_within
bare-ends zero g i e = refl
bare-ends (suc n) g i e = rw e refl

pub bare-goes : (n : ℕ) (g : List Node) (i : ℕ) → is_alias (node_at g i) ≡ true
    → bare_within (suc n) g i ≡ bare_within n g (edge (node_at g i) 0)
unfolding bare_within
bare-goes n g i e = rw e refl

pub bare-none : (g : List Node) (i : ℕ) → bare_within 0 g i ≡ i
unfolding bare_within
bare-none g i = refl
