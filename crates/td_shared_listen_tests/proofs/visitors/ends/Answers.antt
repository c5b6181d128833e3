use denote.Param.Send.{sendable}
use Rattle.td_shared_listen_tests.proofs.visitors.ends.Goals as goal
use Rattle.td_shared_sends.proofs.Sends.{kept_send}

pub listen_sharing-status-requires-send-N-J : goal.listen_sharing-status-requires-send-N-J
listen_sharing-status-requires-send-N-J g c κs within = search (kept_send, sendable) depth 20
