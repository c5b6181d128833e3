use Rattle.std.proofs.Common.{◌≡◌, ap, ◌∙◌, refl}
use Rattle.std.specs.Prelude.{None, slice_index}
use Rattle.tc_graph.specs.declared.node.Node.{Node}
use Rattle.tc_graph.specs.Nodes.{node_at}
use Rattle.tc_edges.specs.Edges.{spellings}
use Rattle.tc_edges.proofs.Noting.{spellings-length, spellings-at}
use Rattle.tc_edges.proofs.edges.SpelledGraph.edge.Goals as goal

pub edge_by-requires-clause-within : goal.edge_by-requires-clause-within
edge_by-requires-clause-within c =
    let g = c.args.self.now in
    let edges : c.as_slice-edges.result.now ≡ (node_at g c.args.place).edges =
    c.as_slice-edges.ensures ∙ ap (λ (p : Node). p.edges) c.node.ensures.value in
    let table : c.as_slice-table.result.now ≡ spellings g =
    cc (c.as_slice-table.ensures.value, c.self.invariant, c.self.view_is) in
    rw (table, edges, spellings-length g)
    (c.node.ensures.whole.closed.within c.args.place c.args.number c.requires.there c.requires.some)

pub returns-clause-value : goal.returns-clause-value
returns-clause-value c =
    let g = c.args.self.now in
    let edges : c.as_slice-edges.result.now ≡ (node_at g c.args.place).edges =
    c.as_slice-edges.ensures ∙ ap (λ (p : Node). p.edges) c.node.ensures.value in
    let table : c.as_slice-table.result.now ≡ spellings g =
    cc (c.as_slice-table.ensures.value, c.self.invariant, c.self.view_is) in
    let inside = c.node.ensures.whole.closed.within c.args.place c.args.number c.requires.there c.requires.some in
    let at = rw (table, edges) at c.edge_by.ensures in
    at ∙ rw (spellings-at g (slice_index (node_at g c.args.place).edges c.args.number) None inside) refl
