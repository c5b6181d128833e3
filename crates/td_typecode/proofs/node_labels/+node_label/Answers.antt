use Rattle.std.proofs.Common.{sym, ◌∙◌}
use Rattle.td_typecode.proofs.OfNodes.{label-kind-reads, label-kindless-reads}
use Rattle.td_typecode.proofs.node_labels.+node_label.Goals as goal

pub label_of_kind_at-returns-in-Enum : goal.label_of_kind_at-returns-in-Enum
label_of_kind_at-returns-in-Enum t c =
    rw c.in-Enum.is (rw (c.value_count.ensures, c.node.ensures.value) at c.one_of.ensures)

pub label_of_node_at-returns-in-None : goal.label_of_node_at-returns-in-None
label_of_node_at-returns-in-None t c =
    let none = rw c.node.ensures.value at (sym c.kind_of_number.ensures ∙ c.in-None.is) in
    rw c.aligned-in-None.ensures (label-kindless-reads c.args.levels c.args.graph.now c.args.depth c.args.place
    c.if-depth-eq0.false none c.args.r.now)

pub label_of_node_at-returns-in-Some : goal.label_of_node_at-returns-in-Some
label_of_node_at-returns-in-Some t c =
    let is = rw c.node.ensures.value at (sym c.kind_of_number.ensures ∙ c.in-Some.is) in
    rw (label-kind-reads c.args.levels c.args.graph.now c.args.depth c.args.place c.in-Some.kind c.if-depth-eq0.false
    is c.args.r.now) c.label_of_kind_at.ensures
