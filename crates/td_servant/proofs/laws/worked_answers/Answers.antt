use Rattle.td_servant.proofs.Worked.{interfaces, keys, lists, points, requests}
use Rattle.td_servant.proofs.laws.worked_answers.Goals as goal

pub returns-clause-keys : goal.returns-clause-keys
returns-clause-keys c = keys

pub returns-clause-requests : goal.returns-clause-requests
returns-clause-requests c = requests

pub returns-clause-interfaces : goal.returns-clause-interfaces
returns-clause-interfaces c = interfaces

pub returns-clause-points : goal.returns-clause-points
returns-clause-points c = points

pub returns-clause-lists : goal.returns-clause-lists
returns-clause-lists c = lists
