use Rattle.td_client.proofs.Admitted.{resolved_admitted}
use Rattle.td_client.proofs.peers.CallerPeers.resolve.Goals as goal

pub note_reference-requires : goal.note_reference-requires
note_reference-requires g c =
    resolved_admitted c.args.name.now _ _ c.reference_meant-answer.ensures c.ask_to_resolve.ensures.admitted

pub returns-clause-exact : goal.returns-clause-exact
returns-clause-exact g c = (c.ask_to_resolve.result, c.ask_to_resolve.ensures.called, c.reference_meant-answer.ensures)

pub returns-clause-admitted : goal.returns-clause-admitted
returns-clause-admitted g c = resolved_admitted c.args.name.now _ _ c.reference_meant-answer.ensures c.ask_to_resolve.ensures.admitted
