-- What a worker takes and gives back may go to another thread.
use denote.Param.Send.{IsSend, IsSync, recorded_send, sendable, shr_send, struct_send}
use denote.RattleType.{RattleType}
use denote.Ref.{NamedLft}
use denote.Struct.Declared.{shape}
use Rattle.std.proofs.Crossing.{crosses}
use Rattle.td_cell.proofs.pass.Pass.TheSendSync as pass_cross
use Rattle.td_desk.specs.contracts.shared.SharedDesk as desk
use Rattle.td_group.proofs.Sends.{group_pass_field}
use Rattle.td_shared_sends.proofs.Sends.{book_send, desk_sync}
use Rattle.td_shared_sessions.specs.contracts.session.PassesLeft as passes_left
use Rattle.td_shared_sessions.specs.contracts.session.SessionEnd as session_end
use Rattle.td_shared_sessions.specs.contracts.session.SharedPass as shared_pass
use Rattle.td_stream.proofs.end.End.TheSendSync as end_cross
use Rattle.td_walk.proofs.trace.Address.TheSendSync as address_cross
use Rattle.td_walk.specs.contracts.trace.Address as address

pub session_end_send : (J : RattleType) → IsSend J → IsSend (session_end.the_row J)
session_end_send J j =
    recorded_send (session_end.the_field J).row _ _ (session_end.the_type J).to_one
    (struct_send (shape (session_end.the_type J)) (end_cross.the_field_send, (search (j, sendable), tt)))

module _ (a : NamedLft) (R : RattleType) (r : IsSync R) where
  pub passes_left_send : IsSend (passes_left.the_row a R)
  passes_left_send =
      recorded_send (passes_left.the_field a R).row _ _ (passes_left.the_type a R).to_one
      (struct_send (shape (passes_left.the_type a R)) (
        group_pass_field a R r,
        (search (pass_cross.the_field_send, book_send, sendable) depth 20, tt),
      ))

  pub shared_pass_send : IsSend (shared_pass.the_row a R)
  shared_pass_send =
      recorded_send (shared_pass.the_field a R).row _ _ (shared_pass.the_type a R).to_one
      (struct_send (shape (shared_pass.the_type a R)) (
        shr_send a.mir a.lft R r,
        (
          search (sendable, crosses) depth 20,
          (
            shr_send a.mir a.lft address.the_row address_cross.the_sync,
            (
              group_pass_field a R r,
              (
                shr_send a.mir a.lft desk.the_row desk_sync,
                (search (pass_cross.the_field_send, book_send, sendable) depth 20, tt),
              ),
            ),
          ),
        ),
      ))
