use Rattle.td_trader_laws.proofs.Reached.{far-apart, made-apart}
use Rattle.td_trader_laws.proofs.reaching.searches_are_apart.Goals as goal

pub returns-clause-stated : goal.returns-clause-stated
returns-clause-stated c = far-apart

pub returns-clause-made : goal.returns-clause-made
returns-clause-made c = made-apart
