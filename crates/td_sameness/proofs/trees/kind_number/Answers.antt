use Rattle.td_sameness.proofs.PlainKinds.{kind-shown, graph-shown}
use Rattle.td_sameness.proofs.trees.kind_number.Goals as goal

pub returns-in-Linked : goal.returns-in-Linked
returns-in-Linked c = graph-shown c.args.code.now _ c.in-Linked.is

pub returns-in_default : goal.returns-in_default
returns-in_default c =
    rw (c.number.ensures, c.kind_of.ensures) (kind-shown c.args.code.now c.requires c.in_default.not-Linked)
