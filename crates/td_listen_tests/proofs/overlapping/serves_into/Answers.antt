use denote.Param.Send.{sendable}
use Rattle.td_listen_tests.proofs.Kept.{kept_send}
use Rattle.td_listen_tests.proofs.overlapping.serves_into.Goals as goal

pub serve-status-requires-send-N-J : goal.serve-status-requires-send-N-J
serve-status-requires-send-N-J g c κs within = search (kept_send, sendable) depth 20
