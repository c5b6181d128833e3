use Rattle.td_typecode.proofs.values.boxed_node_label_at.Goals as goal

pub returns : goal.returns
returns c = rw c.in_ok-new.ensures c.in_ok-label.ensures
