use denote.Exit.{no}
use denote.Param.Send.{param_send, arg_send}
use Rattle.td_group_tests.proofs.threads.export_on_threads.Goals as goal
use Rattle.td_group.proofs.Sends.{group_pass_send}

pub map_vec-requires-send-J : goal.map_vec-requires-send-J
map_vec-requires-send-J g c κs out =
    param_send _ _ (arg_send _ no _ (group_pass_send _ _ c.type_bounds.sync-R))

pub map_vec-requires-send-X : goal.map_vec-requires-send-X
map_vec-requires-send-X g c κs out =
    param_send _ _ (arg_send _ no _ (group_pass_send _ _ c.type_bounds.sync-R))
