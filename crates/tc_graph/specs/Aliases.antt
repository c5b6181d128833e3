-- Aliases: what is left once they are removed, and loops that they make (CORBA's chapter on the interface repository,
-- "TypeCodes": tk_alias, and that comparisons look through it).
use Rattle.std.specs.Prelude.{ℕ, zero, suc, ◌≡◌, true, cond, List, length}
use Rattle.tc_graph.specs.declared.node.Node.{Node}
use Rattle.tc_graph.specs.Nodes.{node_at, is_alias, edge}

-- the place behind so many aliases, or behind fewer where no alias follows
unfoldable pub bare_within : ℕ → List Node → ℕ → ℕ
bare_within zero g i = i
bare_within (suc n) g i = cond (is_alias (node_at g i)) (bare_within n g (edge (node_at g i) 0)) i

-- the place after all aliases are removed: a graph without loops of aliases has no longer chain of them
abbrev pub bare : List Node → ℕ → ℕ
bare g i = bare_within (length g) g i

-- so many edges, each of an alias, lead from the first place to the second
unfoldable pub AliasChain : ℕ → List Node → ℕ → ℕ → Type 0
AliasChain zero g i j = i ≡ j
AliasChain (suc n) g i j = (is_alias (node_at g i) ≡ true) × AliasChain n g (edge (node_at g i) 0) j

-- edges over aliases alone lead from the place back to it
abbrev pub IsInLoop : List Node → ℕ → Type 0
IsInLoop g p = (n : ℕ) × AliasChain (suc n) g p p
