-- What each class of calls is performed by.
use Rattle.td_name_session.proofs.Invoking.{act_invokes, is_a_invokes, iterator_invokes, list_invokes}
use Rattle.td_name_session.proofs.Invoking.{non_existent_invokes}

pub ruleset invokes = (act_invokes, is_a_invokes, iterator_invokes, list_invokes, non_existent_invokes)
