use Rattle.std.proofs.Common.{refl, sym, ◌∙◌}
use Rattle.td_naming.proofs.Remembering.{result_look}
use Rattle.td_naming.proofs.naming.record.Goals as goal

pub returns-else-is_change-clause-ok : goal.returns-else-is_change-clause-ok
returns-else-is_change-clause-ok c =
    result_look c.args.store.now c.act.new.self c.args.history.now.items c.args.history.now.items c.args.context
    c.args.act c.act.result (sym c.is_change.ensures ∙ c.if-is_change.false) refl c.act.ensures.ok
