-- What holds of all graphs that are whole.
use Rattle.std.specs.Prelude.{ℕ, ◌≡◌, ◌<◌, false, List, length}
use Rattle.tc_graph.specs.declared.node.Node.{Node}
use Rattle.tc_graph.specs.Nodes.{node_at, is_alias}
use Rattle.tc_graph.specs.Aliases.{bare}
use Rattle.tc_graph.specs.Sameness.{Same}
use Rattle.tc_graph.specs.Whole.{IsWhole}

-- no alias is left once aliases are removed
abbrev pub AliasesEnd : Type 0
AliasesEnd = (g : List Node) (i : ℕ) → IsWhole g → i < length g → is_alias (node_at g (bare g i))
    ≡ false

-- a graph is the same as itself
abbrev pub IsReflexive : Type 0
IsReflexive = (g : List Node) → Same g g

-- being the same goes both ways
abbrev pub IsSymmetric : Type 0
IsSymmetric = (g h : List Node) → Same g h → Same h g
