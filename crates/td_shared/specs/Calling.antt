-- The iterator that a message is for, what its call is answered by, and what is noted of it.
use Rattle.std.specs.Prelude.{◌≡◌, ℕ, Bool, true, List, ◌++◌, Some, Result, Ok, Err}
use Rattle.td_cdr.specs.declared.memory.Memory.{Memory as MemoryFault}
use Rattle.td_cdr.specs.declared.order.Order.{Order}
use Rattle.td_desk_calls.specs.Calls.{iterator_key}
use Rattle.td_desk_calls.specs.declared.desk_call.DeskCall.{DeskCall}
use Rattle.td_desk_calls.specs.declared.desk_call.DeskCall.TheVariants.{Full}
use Rattle.td_desk_calls.specs.declared.desk_call.IteratorCall.{IteratorCall}
use Rattle.td_giop.specs.declared.head.RequestHead.{RequestHead}
use Rattle.td_giop.specs.declared.raw.Raw.{Raw}
use Rattle.td_dispatch.specs.declared.reply_to.ReplyTo.{ReplyTo}
use Rattle.td_stream.specs.declared.head.Head.{Head}
use Rattle.td_stream.specs.declared.head.Head.TheVariants.{Request, Locate, Cancel}
use Rattle.td_shared.specs.Stages.{IsDone, entry_of_call}
use Rattle.td_shared.specs.declared.entry.SharedEntry.{SharedEntry}

-- what the Reply to a Request with this head answers
abbrev pub replied_to : Order → (minor : ℕ) → RequestHead → ReplyTo
replied_to order minor h = record { order = order; minor = minor; id = h.id; answered = h.answered }

-- what a LocateReply answers: one is always expected
abbrev pub located_by : Order → (minor id : ℕ) → ReplyTo
located_by order minor id = record { order = order; minor = minor; id = id; answered = true }

-- the message is for this iterator, whose key it has
abbrev pub IsCallOf : Raw → Head → IteratorCall → Type 0
IsCallOf m (Request h) call =
    (iterator_key h.key.now ≡ Some (call.trader.now, call.number))
    × (call.to ≡ replied_to m.order m.minor h)
IsCallOf m (Locate id key) call =
    (iterator_key key.now ≡ Some (call.trader.now, call.number))
    × (call.to ≡ located_by m.order m.minor id)
IsCallOf m (Cancel id) call = ⊥

-- what a call of the desk has left in the session's journal, or that the desk was full and nothing was noted
abbrev pub NotesCall : DeskCall → (before after : List SharedEntry) → (full full_then : Bool)
    → Result (Unit {0}) MemoryFault → Type 0
NotesCall c before after full full_then (Ok u) = IsDone c × (after ≡ before ++ entry_of_call c)
    × (full_then ≡ full)
NotesCall c before after full full_then (Err memory) = (c ≡ Full) × (after ≡ before)
    × (full_then ≡ true)
