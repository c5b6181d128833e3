use Rattle.td_file.proofs.Firsts.{accepted, first, stores}
use Rattle.td_file.proofs.laws.entries_are_changes.Goals as goal

pub returns-clause-behind : goal.returns-clause-behind
returns-clause-behind c = stores

pub returns-clause-accepted : goal.returns-clause-accepted
returns-clause-accepted c = accepted

pub returns-clause-refused : goal.returns-clause-refused
returns-clause-refused c = first
