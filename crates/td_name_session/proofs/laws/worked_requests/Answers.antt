use Rattle.td_name_session.proofs.Worked.{iterator, keys, requests}
use Rattle.td_name_session.proofs.laws.worked_requests.Goals as goal

pub returns-clause-keys : goal.returns-clause-keys
returns-clause-keys c = keys

pub returns-clause-iterator : goal.returns-clause-iterator
returns-clause-iterator c = λ draft. iterator draft

pub returns-clause-requests : goal.returns-clause-requests
returns-clause-requests c = λ draft. requests draft
