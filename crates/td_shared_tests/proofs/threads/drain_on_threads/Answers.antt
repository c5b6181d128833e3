use denote.Exit.{no}
use denote.Param.Send.{IsSend, arg_send, param_send, recorded_send, sendable, shr_send, struct_send}
use denote.Ref.{NamedLft}
use denote.Struct.Declared.{shape}
use Rattle.std.proofs.Crossing.{crosses}
use Rattle.td_cell.proofs.pass.Pass.TheSendSync as pass_cross
use Rattle.td_desk.specs.contracts.shared.SharedDesk as desk
use Rattle.td_shared_sends.proofs.Sends.{book_send, desk_sync, kept_field}
use Rattle.td_shared_tests.proofs.threads.drain_on_threads.Goals as goal
use Rattle.td_shared_tests.specs.contracts.connection.Connection as connection
use Rattle.td_shared_tests.specs.contracts.threads.Reader as reader

module _ (d : NamedLft) where
  connection_field : IsSend (connection.the_field d).row
  connection_field =
      struct_send (shape (connection.the_type d)) (
        shr_send d.mir d.lft desk.the_row desk_sync,
        (
          search (pass_cross.the_field_send, book_send, sendable) depth 20,
          (kept_field, tt),
        ),
      )

  reader_send : IsSend (reader.the_row d)
  reader_send =
      recorded_send (reader.the_field d).row _ _ (reader.the_type d).to_one
      (struct_send (shape (reader.the_type d)) (connection_field, (search (sendable, crosses) depth 20, tt)))

pub map_vec-requires-send-J : goal.map_vec-requires-send-J
map_vec-requires-send-J g c κs out = param_send _ _ (arg_send _ no _ (reader_send _))

pub map_vec-requires-send-X : goal.map_vec-requires-send-X
map_vec-requires-send-X g c κs out = param_send _ _ (arg_send _ no _ (reader_send _))
