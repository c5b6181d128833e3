use Rattle.td_trader_laws.proofs.WritingWorlds.{worlds-begin, worlds-change, worlds-look, worlds-watch}
use Rattle.td_trader_laws.proofs.group_laws.groups_stay_writable.Goals as goal

pub returns-clause-change : goal.returns-clause-change
returns-clause-change g c = worlds-change g.T.Traders.others g.T.Traders.later g.met.T.Traders.others_admitted

pub returns-clause-look : goal.returns-clause-look
returns-clause-look g c = worlds-look g.T.Traders.others g.T.Traders.later g.met.T.Traders.others_admitted

pub returns-clause-begin : goal.returns-clause-begin
returns-clause-begin g c = worlds-begin g.T.Traders.others g.T.Traders.later g.met.T.Traders.others_admitted

pub returns-clause-no_memory_outcome : goal.returns-clause-no_memory_outcome
returns-clause-no_memory_outcome g c = worlds-watch g.T.Traders.others g.T.Traders.later g.met.T.Traders.others_admitted
