use Rattle.td_client.proofs.Given.{value_admitted}
use Rattle.td_client.proofs.peers.CallerPeers.eval_dp.Goals as goal

pub note_value-requires : goal.note_value-requires
note_value-requires g c = value_admitted _ _ c.value_meant-answer.ensures c.evaluate_over.ensures.admitted

pub returns-clause-exact : goal.returns-clause-exact
returns-clause-exact g c = (c.evaluate_over.result, c.evaluate_over.ensures.called, c.value_meant-answer.ensures)
