use Rattle.std.proofs.Common.{ℕ, ◌≡◌, ◌<◌, true, false, length, slice_index_or, ap, arith}
use Rattle.tc_graph.specs.Aliases.{IsInLoop}
use Rattle.tc_graph.specs.Drafts.{GraphDraft}
use Rattle.tc_graph.proofs.Drafting.{whole-of}
use Rattle.tc_graph.proofs.graph.Graph.finish.Goals as goal

pub of-requires : goal.of-requires
of-requires c =
    let b : GraphDraft = record { nodes = c.self.inside.nodes.items; filled = c.self.inside.filled.items } in
    let some : 0 < length b.nodes = rw (ap (λ (x : GraphDraft). length x.nodes) c.self.view_is) c.requires in
    let all : (i : ℕ) → i < length c.as_slice.result.now → slice_index_or c.as_slice.result.now i false ≡ true =
    rw c.in_default.is at c.least_open.ensures.none in
    let none : (i : ℕ) → i < length c.as_slice-2.result.now → IsInLoop c.as_slice-2.result.now i → ⊥ =
    rw c.in_default-least_in_loop.is at c.least_in_loop.ensures.none in
    let all_filled : (i : ℕ) → i < length b.filled → slice_index_or b.filled i false ≡ true =
    rw c.as_slice.ensures.value at all in
    let none_back : (i : ℕ) → i < length b.nodes → IsInLoop b.nodes i → ⊥ = rw c.as_slice-2.ensures.value at none in
    whole-of b c.self.invariant some (λ i l. all_filled i (omega (arith, l, c.self.invariant.size))) none_back
