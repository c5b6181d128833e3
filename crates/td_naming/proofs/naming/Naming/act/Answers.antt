use Rattle.td_naming.proofs.Remembering.{result_acts, result_kept, result_unchanged}
use Rattle.td_naming.proofs.naming.Naming.act.Goals as goal

pub invariant_of-self : goal.invariant_of-self
invariant_of-self c =
    result_kept c.self.inside.store c.record.new.store c.self.inside.history.items c.record.new.history.items
    c.args.context c.args.act c.record.result c.self.invariant c.record.ensures.ok c.record.ensures.err

pub returns-clause-ok : goal.returns-clause-ok
returns-clause-ok c =
    rw (← c.self.view_is)
    (result_acts c.self.inside.store c.record.new.store c.self.inside.history.items c.record.new.history.items
    c.args.context c.args.act c.record.result c.self.invariant c.record.ensures.ok)

pub returns-clause-err : goal.returns-clause-err
returns-clause-err c =
    rw (← c.self.view_is)
    (result_unchanged c.self.inside.store c.record.new.store c.self.inside.history.items c.record.new.history.items
    c.args.context c.args.act c.record.result c.record.ensures.err)
