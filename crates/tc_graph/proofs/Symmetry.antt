-- Being alike, of one place and itself and of two places turned round.
use Rattle.std.proofs.Common.{ℕ, zero, suc, List, sym, refl, arith}
use Rattle.tc_graph.specs.declared.node.Node.{Node}
use Rattle.tc_graph.specs.Sameness.{Matches, Alike}

matches-itself : (p : Node) → Matches p p
matches-itself p = record { kinds = refl; ids = λ _ _. refl; numbers = refl; names = refl; edges = refl }

matches-turned : (p q : Node) → Matches p q → Matches q p
matches-turned p q m = record {
  kinds = sym m.kinds;
  ids = λ a b. sym (m.ids b a);
  numbers = sym m.numbers;
  names = sym m.names;
  edges = sym m.edges;
}

pub alike-itself : (d : ℕ) (g : List Node) (i : ℕ) → Alike d g i g i
unfolding Alike
alike-itself zero g i = tt
alike-itself (suc d) g i = (matches-itself _, λ k l. alike-itself d g _)

pub alike-turned : (d : ℕ) (g : List Node) (i : ℕ) (h : List Node) (j : ℕ) → Alike d g i h j → Alike d h j g i
unfolding Alike
alike-turned zero g i h j a = tt
alike-turned (suc d) g i h j a =
    (matches-turned _ _ a.0, λ k l. alike-turned d g _ h _ (a.1 k (let e = a.0.edges in omega (arith, l, e))))
