-- A journal that keeps its entries may go to another thread.
use denote.Param.Send.{IsSend, recorded_send, sendable, struct_send}
use denote.Struct.Declared.{shape}
use Rattle.std.proofs.Crossing.{crosses}
use Rattle.td_cdr.proofs.boxed.Boxed.TheSendSync as boxed_cross
use Rattle.td_cdr.proofs.list.List.TheSendSync as list_cross
use Rattle.td_cdr.proofs.text.Text.TheSendSync as text_cross
use Rattle.td_typecode.proofs.reference.Ior.TheSendSync as ior_cross
use Rattle.td_journal.specs.contracts.kept.KeptJournal as kept
use Rattle.td_servant.specs.contracts.entry.Entry as entry
use Rattle.td_group.proofs.Sends.{any_send, offer_send}
use Rattle.td_walk.specs.contracts.answer.SubAnswer as sub_answer
use Rattle.td_walk.specs.contracts.trace.TraceItem as trace_item

ruleset valued = (
  any_send,
  offer_send,
  sendable,
  crosses,
  text_cross.the_send,
  list_cross.the_send,
  boxed_cross.the_send,
  ior_cross.the_field_send,
  ior_cross.the_send,
)

sub_answer_field : IsSend (sub_answer.the_field).row
sub_answer_field = search valued depth 20

trace_item_send : IsSend trace_item.the_row
trace_item_send = search (sub_answer_field, valued) depth 30 fits 20000

entry_send : IsSend entry.the_row
entry_send = search (trace_item_send, valued) depth 30 fits 20000

pub kept_send : IsSend kept.the_row
kept_send =
    recorded_send (kept.the_field).row _ _ (kept.the_type).to_one
    (struct_send (shape kept.the_type) (search (entry_send, crosses) depth 20, tt))
