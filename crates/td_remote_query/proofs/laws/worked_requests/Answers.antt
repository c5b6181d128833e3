use Rattle.td_remote_query.proofs.Worked.{another_place, batches, exception, no_iterator, places}
use Rattle.td_remote_query.proofs.laws.worked_requests.Goals as goal

pub returns-clause-nil : goal.returns-clause-nil
returns-clause-nil c = no_iterator

pub returns-clause-exception : goal.returns-clause-exception
returns-clause-exception c = exception

pub returns-clause-batches : goal.returns-clause-batches
returns-clause-batches c = batches

pub returns-clause-places : goal.returns-clause-places
returns-clause-places c = places

pub returns-clause-elsewhere : goal.returns-clause-elsewhere
returns-clause-elsewhere c = another_place
