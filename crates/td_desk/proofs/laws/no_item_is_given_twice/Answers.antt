use Rattle.td_desk.proofs.Apart.{calls_apart, items_given, passes_apart}
use Rattle.td_desk.proofs.laws.no_item_is_given_twice.Goals as goal

pub returns-clause-calls : goal.returns-clause-calls
returns-clause-calls c = calls_apart

pub returns-clause-passes : goal.returns-clause-passes
returns-clause-passes c = passes_apart

pub returns-clause-items : goal.returns-clause-items
returns-clause-items c = items_given
