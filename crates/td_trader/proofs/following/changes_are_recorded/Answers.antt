use Rattle.td_trader.proofs.Growing.{legal-there, refused-leaves, stands-there, store-there}
use Rattle.td_trader.proofs.following.changes_are_recorded.Goals as goal

pub returns-clause-accepted : goal.returns-clause-accepted
returns-clause-accepted c = λ t ch content l e. stands-there t ch l content e

pub returns-clause-refused : goal.returns-clause-refused
returns-clause-refused c = refused-leaves

pub returns-clause-legal : goal.returns-clause-legal
returns-clause-legal c = legal-there

pub returns-clause-store : goal.returns-clause-store
returns-clause-store c = store-there
