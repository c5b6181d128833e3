use Rattle.td_name_ops.specs.declared.call.IteratorCall.TheVariants as asked
use Rattle.td_name_session.proofs.Invoking.{destroy_iterates, unkept_iterates}
use Rattle.td_name_session.proofs.iterators.destroy.Goals as goal

pub returns-then-is_at : goal.returns-then-is_at
returns-then-is_at c = λ draft written.
    destroy_iterates c.args.number draft c.args.desk.now c.plain.result written c.args.label.now c.is_at.new.desk
    c.remove-found.new.self c.is_at.result c.requires c.is_at.ensures.kept c.if-is_at.true c.is_at.ensures.same
    c.remove-found.ensures.removed c.plain.ensures.body c.plain.ensures.accepted

pub returns-else-is_at : goal.returns-else-is_at
returns-else-is_at c = λ draft written.
    unkept_iterates c.args.number draft c.args.desk.now c.plain-else-is_at.result written asked.Destroy
    c.is_at.new.desk c.is_at.result c.system.result c.is_at.ensures.kept c.if-is_at.false c.is_at.ensures.same
    c.system.ensures c.plain-else-is_at.ensures.body c.plain-else-is_at.ensures.accepted
