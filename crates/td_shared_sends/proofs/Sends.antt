-- A session over a shared desk of iterators may go to another thread.
--     desk_sync      several threads may see the desk at once
--     book_send      what stands on it, and with that a pass of it
--     kept_field, kept_send      a journal that keeps what is noted, as a field and by itself
use denote.Param.Send.{IsSend, IsSync, recorded_send, recorded_sync, sendable, struct_send, struct_sync, view_send}
use denote.Struct.Declared.{shape}
use Rattle.std.proofs.Crossing.{crosses}
use Rattle.td_cdr.proofs.boxed.Boxed.TheSendSync as boxed_cross
use Rattle.td_cdr.proofs.list.List.TheSendSync as list_cross
use Rattle.td_cdr.proofs.text.Text.TheSendSync as text_cross
use Rattle.td_cell.proofs.cell.Cell.TheSendSync as cell_cross
use Rattle.td_cell.proofs.pass.Pass.TheSendSync as pass_cross
use Rattle.td_typecode.proofs.reference.Ior.TheSendSync as ior_cross
use Rattle.td_desk.specs.contracts.book.DeskBook as book
use Rattle.td_desk.specs.contracts.book.DeskBook.TheInside as book_inside
use Rattle.td_desk.specs.contracts.shared.SharedDesk as desk
use Rattle.td_iter.specs.contracts.desk.DeskEntry as iterator
use Rattle.td_iter.specs.contracts.item.Item as item
use Rattle.td_ghost_list.proofs.past.Past.TheLaws.TheKnot.{send-Past}
use Rattle.td_servant.specs.contracts.entry.Entry as entry
use Rattle.td_group.proofs.Sends.{any_send, offer_send}
use Rattle.td_shared.specs.contracts.entry.SharedEntry as shared_entry
use Rattle.td_shared.specs.contracts.kept.KeptSharedJournal as kept
use Rattle.td_walk.specs.contracts.answer.SubAnswer as sub_answer
use Rattle.td_walk.specs.contracts.trace.TraceItem as trace_item

ruleset valued = (
  any_send,
  offer_send,
  sendable,
  crosses,
  text_cross.the_send,
  list_cross.the_send,
  boxed_cross.the_send,
  ior_cross.the_field_send,
  ior_cross.the_send,
)

-- ---- the desk
iterator_send : IsSend (iterator.the_row item.the_row)
iterator_send = search valued depth 40 fits 20000

pub book_send : IsSend book.the_row
book_send =
    view_send book_inside.the_row _ _ _ _
    (recorded_send (book_inside.the_field).row _ _ (book_inside.the_type).to_one
    (struct_send (shape book_inside.the_type) (
      search (sendable, crosses) depth 20,
      (
        search (iterator_send, sendable, crosses) depth 20,
        (
          search sendable,
          (search sendable, (search sendable, (search (send-Past, sendable) depth 20, tt))),
        ),
      ),
    )))

pub desk_sync : IsSync desk.the_row
desk_sync =
    recorded_sync (desk.the_field).row _ _ (desk.the_type).to_one
    (struct_sync (shape desk.the_type) (search (cell_cross.the_field_sync, book_send, sendable) depth 20, tt))

-- ---- what is noted
sub_answer_field : IsSend (sub_answer.the_field).row
sub_answer_field = search valued depth 20

trace_item_send : IsSend trace_item.the_row
trace_item_send = search (sub_answer_field, valued) depth 30 fits 20000

entry_send : IsSend entry.the_row
entry_send = search (trace_item_send, valued) depth 30 fits 20000

shared_entry_send : IsSend shared_entry.the_row
shared_entry_send = search (entry_send, valued) depth 30 fits 20000

pub kept_field : IsSend (kept.the_field).row
kept_field = struct_send (shape kept.the_type) (search (shared_entry_send, crosses) depth 20, tt)

pub kept_send : IsSend kept.the_row
kept_send = recorded_send (kept.the_field).row _ _ (kept.the_type).to_one kept_field
