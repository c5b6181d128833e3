-- What holds of TypeCodes that are spelled with indirections.
use Rattle.std.specs.Prelude.{◌≡◌, ℕ, List, Option, None}
use Rattle.tc_graph.specs.Whole.{IsWhole}
use Rattle.td_cdr.specs.declared.order.Order.{Order}
use Rattle.td_cdr.specs.Lawful.{AreOctets}
use Rattle.td_cdr.specs.Spelling.{Joins}
use Rattle.td_cdr.specs.Faults.{Refuses}
use Rattle.td_typecode.specs.declared.mode.Mode.{Mode}
use Rattle.td_indirection.specs.States.{CodingState, empty, nodes}
use Rattle.td_indirection.specs.Stateful.{Transfers}
use Rattle.td_typecode.specs.Known.{KnownNode, KnownState}
use Rattle.td_typecode.specs.GraphCodes.{edges}
use Rattle.td_typecode.specs.GraphKnown.{known_of}
use Rattle.td_typecode.specs.WholeGraphs.{graph_of}

abbrev pub GraphsAreRead : Type 0
GraphsAreRead =
    (levels : ℕ) (mode : Mode) (chain : Option ℕ) (s : CodingState KnownNode)
    → Joins ((edges levels mode chain).format.spells s) ((edges levels mode chain).format.reads s)

abbrev pub GraphsAreRefused : Type 0
GraphsAreRefused =
    (levels : ℕ) (mode : Mode) (chain : Option ℕ) (s : CodingState KnownNode)
    → Refuses ((edges levels mode chain).format.faults s) ((edges levels mode chain).format.reads s)

abbrev pub GraphsAreWritten : Type 0
GraphsAreWritten = (levels : ℕ) (mode : Mode) (chain : Option ℕ)
    → Transfers (edges levels mode chain).format

-- The nodes of what is read are those of a whole graph, which tells all that was known of them.
abbrev pub GraphsAreWhole : Type 0
GraphsAreWhole =
    (levels : ℕ) (mode : Mode) (order : Order) (place j : ℕ) (next : KnownState) (b : List ℕ)
    → AreOctets b → (edges levels mode None).format.spells empty order place (j, next) b
    → (j ≡ 0) × IsWhole (graph_of (nodes next)) × (known_of (graph_of (nodes next)) ≡ nodes next)
