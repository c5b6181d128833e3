use Rattle.td_call.proofs.Requesting.{has_header}
use Rattle.td_call.proofs.request.evaluation_request.Goals as goal

pub seal-requires : goal.seal-requires
seal-requires c = has_header _ _ _ _ _ _ _ _ _ _ c.in_ok-start_request.ensures.done.0 c.in_ok-put_three.ensures.done
