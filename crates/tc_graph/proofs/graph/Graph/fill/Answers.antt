use Rattle.std.proofs.Common.{rules, ◌≡◌, ◌<◌, length, slice_index, sym, ◌∙◌, arith, None, ℕ}
use Rattle.tc_graph.specs.Drafts.{GraphDraft, first_outside}
use Rattle.tc_graph.proofs.Drafting.{none-outside, draft-filled}
use Rattle.tc_graph.proofs.graph.Graph.fill.Goals as goal

pub invariant_of-self : goal.invariant_of-self
invariant_of-self c =
    let b : GraphDraft = record { nodes = c.self.inside.nodes.items; filled = c.self.inside.filled.items } in
    let count : c.len-count.result ≡ length b.nodes = search rules in
    let below : c.args.place < length b.nodes = omega (arith, c.if-at-count.false, count) in
    let none : first_outside c.len-count.result c.as_slice.result.now ≡ None = sym c.first_outside.ensures ∙ c.in_default.is in
    let inside : (k : ℕ) → k < length c.args.node.edges → slice_index c.args.node.edges k < length b.nodes =
    none-outside (length b.nodes) c.args.node.edges (rw (count, c.as_slice.ensures) at none) in
    draft-filled b c.args.place c.args.node c.self.invariant below inside c.requires.alias
