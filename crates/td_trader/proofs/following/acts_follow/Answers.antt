use Rattle.td_trader.proofs.Growing.{begin-once, change-once, follows-itself, follows-on, look-once}
use Rattle.td_trader.proofs.following.acts_follow.Goals as goal

pub returns-clause-itself : goal.returns-clause-itself
returns-clause-itself c = follows-itself

pub returns-clause-on : goal.returns-clause-on
returns-clause-on c = follows-on

pub returns-clause-change : goal.returns-clause-change
returns-clause-change c = change-once

pub returns-clause-look : goal.returns-clause-look
returns-clause-look c = look-once

pub returns-clause-begin : goal.returns-clause-begin
returns-clause-begin c = begin-once
