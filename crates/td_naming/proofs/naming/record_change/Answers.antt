use Rattle.std.proofs.Common.{true, false, sym, ◌∙◌}
use Rattle.td_naming.proofs.Remembering.{pushed, recorded_change}
use Rattle.td_naming.specs.Histories.{change_at}
use Rattle.td_naming.proofs.naming.record_change.Goals as goal

pub returns-then-is_done-clause-ok : goal.returns-then-is_done-clause-ok
returns-then-is_done-clause-ok c =
    let entry = change_at c.args.store.now c.args.context c.args.act in
    let behind =
    pushed c.args.history.now.items c.reserve.new.self.items c.push_reserved.new.self.items c.in_ok-change.change entry
    c.reserve.ensures.items c.in_ok-change.ensures c.push_reserved.ensures.items in
    recorded_change c.args.store.now c.act.new.self c.args.history.now.items c.push_reserved.new.self.items
    c.args.context c.args.act c.in_ok-answer.answer true c.requires c.in_ok-answer.ensures.ok
    (sym c.if-is_done.true ∙ c.is_done.ensures) behind

pub returns-else-is_done-clause-ok : goal.returns-else-is_done-clause-ok
returns-else-is_done-clause-ok c =
    recorded_change c.args.store.now c.act.new.self c.args.history.now.items c.reserve.new.self.items c.args.context
    c.args.act c.in_ok-answer.answer false c.requires c.in_ok-answer.ensures.ok
    (sym c.if-is_done.false ∙ c.is_done.ensures) c.reserve.ensures.items
