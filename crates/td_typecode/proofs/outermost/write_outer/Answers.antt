use Rattle.td_typecode.proofs.OutermostParts.{outer-linked, outer-plain}
use Rattle.td_typecode.proofs.outermost.write_outer.Goals as goal

pub returns-in-Linked : goal.returns-in-Linked
returns-in-Linked c = rw (outer-linked c.args.levels c.args.code.now _ c.in-Linked.is) c.write_graph.ensures

pub returns-in_default : goal.returns-in_default
returns-in_default c = rw (outer-plain c.args.levels c.args.code.now c.in_default.not-Linked) c.write_typecode.ensures
