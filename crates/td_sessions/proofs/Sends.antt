-- What a worker takes and gives back may go to another thread.
use denote.Param.Send.{IsSend, IsSync, recorded_send, sendable, shr_send, struct_send, view_send}
use denote.RattleType.{RattleType}
use denote.Ref.{NamedLft}
use denote.Struct.Declared.{shape}
use Rattle.std.proofs.Crossing.{crosses}
use Rattle.td_cdr.proofs.boxed.Boxed.TheSendSync as boxed_cross
use Rattle.td_cdr.proofs.list.List.TheSendSync as list_cross
use Rattle.td_cdr.proofs.text.Text.TheSendSync as text_cross
use Rattle.td_typecode.proofs.reference.Ior.TheSendSync as ior_cross
use Rattle.td_iter.specs.contracts.desk.Desk as desk
use Rattle.td_iter.specs.contracts.item.Item as item
use Rattle.td_journal.specs.declared.journal.Journal.{Ghosts}
use Rattle.td_sessions.specs.contracts.session.SessionEnd as session_end
use Rattle.td_sessions.specs.contracts.session.TraderPass as trader_pass
use Rattle.td_group.proofs.Sends.{any_send, group_pass_field, offer_send}
use Rattle.td_dispatch.proofs.replies.Replies.TheSendSync as replies_cross
use Rattle.td_stream.proofs.end.End.TheSendSync as end_cross
use Rattle.td_session.specs.contracts.room.Room as room
use Rattle.td_session.specs.contracts.room.Room.TheInside as room_inside
use Rattle.td_walk.proofs.trace.Address.TheSendSync as address_cross
use Rattle.td_walk.specs.contracts.answer.SubAnswer as sub_answer
use Rattle.td_walk.specs.contracts.trace.TraceItem as trace_item

ruleset valued = (
  any_send,
  offer_send,
  sendable,
  crosses,
  text_cross.the_send,
  list_cross.the_send,
  boxed_cross.the_send,
  ior_cross.the_field_send,
  ior_cross.the_send,
)

desk_send : IsSend (desk.the_row item.the_row)
desk_send = search valued depth 40 fits 20000

sub_answer_field : IsSend (sub_answer.the_field).row
sub_answer_field = search valued depth 20

trace_item_send : IsSend trace_item.the_row
trace_item_send = search (sub_answer_field, valued) depth 30 fits 20000

module _ (J : RattleType) (n : Ghosts J.Denot) (j : IsSend J) where
  pub room_send : IsSend (room.the_row J n)
  room_send =
      view_send (room_inside.the_row J n) _ _ _ _
      (recorded_send (room_inside.the_field J n).row _ _ (room_inside.the_type J n).to_one
      (struct_send (shape (room_inside.the_type J n)) (
        address_cross.the_field_send,
        (desk_send, (search (j, sendable), (replies_cross.the_send, tt))),
      )))

  pub session_end_send : IsSend (session_end.the_row J)
  session_end_send =
      recorded_send (session_end.the_field J).row _ _ (session_end.the_type J).to_one
      (struct_send (shape (session_end.the_type J)) (end_cross.the_field_send, (search (j, sendable), tt)))

  pub pass_send : (a : NamedLft) (R : RattleType) → IsSync R → IsSend (trader_pass.the_row a J R n)
  pass_send a R r =
      recorded_send (trader_pass.the_field a J R n).row _ _ (trader_pass.the_type a J R n).to_one
      (struct_send (shape (trader_pass.the_type a J R n)) (
        search (sendable, crosses) depth 20,
        (room_send, (group_pass_field a R r, tt)),
      ))
