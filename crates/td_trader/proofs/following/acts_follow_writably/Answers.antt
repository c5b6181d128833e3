use Rattle.td_trader.proofs.Growing.{begin-writable, change-writable, look-writable, writable-itself, writable-on}
use Rattle.td_trader.proofs.following.acts_follow_writably.Goals as goal

pub returns-clause-itself : goal.returns-clause-itself
returns-clause-itself c = writable-itself

pub returns-clause-on : goal.returns-clause-on
returns-clause-on c = writable-on

pub returns-clause-change : goal.returns-clause-change
returns-clause-change c = change-writable

pub returns-clause-look : goal.returns-clause-look
returns-clause-look c = look-writable

pub returns-clause-begin : goal.returns-clause-begin
returns-clause-begin c = begin-writable
