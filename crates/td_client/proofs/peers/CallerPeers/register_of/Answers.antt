use Rattle.td_client.proofs.Admitted.{register_admitted}
use Rattle.td_client.proofs.peers.CallerPeers.register_of.Goals as goal

pub note_reference-requires : goal.note_reference-requires
note_reference-requires g c =
    register_admitted _ _ c.reference_meant-answer.ensures c.ask_register.ensures.admitted

pub returns-clause-exact : goal.returns-clause-exact
returns-clause-exact g c = (c.ask_register.result, c.ask_register.ensures.called, c.reference_meant-answer.ensures)

pub returns-clause-admitted : goal.returns-clause-admitted
returns-clause-admitted g c = register_admitted _ _ c.reference_meant-answer.ensures c.ask_register.ensures.admitted
