use denote.Exit.{no}
use denote.Param.Send.{param_send, arg_send}
use Rattle.td_shared_names.proofs.pass.NamePass.TheSendSync as pass_cross
use Rattle.td_shared_names_tests.proofs.threads.make_on_threads.Goals as goal

pub map_vec-requires-send-J : goal.map_vec-requires-send-J
map_vec-requires-send-J g c κs out = param_send _ _ (arg_send _ no _ (pass_cross.the_send _ _ c.type_bounds.sync-R))

pub map_vec-requires-send-X : goal.map_vec-requires-send-X
map_vec-requires-send-X g c κs out = param_send _ _ (arg_send _ no _ (pass_cross.the_send _ _ c.type_bounds.sync-R))
