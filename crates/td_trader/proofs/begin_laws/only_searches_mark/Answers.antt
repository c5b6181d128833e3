use Rattle.td_trader.proofs.Begun.{only_searches, marks_once, not_marked, grow_later}
use Rattle.td_trader.proofs.begin_laws.only_searches_mark.Goals as goal

pub returns-clause-others : goal.returns-clause-others
returns-clause-others c = only_searches

pub returns-clause-once : goal.returns-clause-once
returns-clause-once c = marks_once

pub returns-clause-remembered : goal.returns-clause-remembered
returns-clause-remembered c = not_marked

pub returns-clause-later : goal.returns-clause-later
returns-clause-later c = grow_later
