-- What a Request for an iterator asks, which call of the desk it makes, and its outcome (OMG's Trading Object Service,
-- interfaces OfferIterator and OfferIdIterator; CORBA, chapter "ORB Interface", is_a and non_existent, and chapter
-- "Standard Exceptions").
use Rattle.std.specs.Prelude.{ℕ, Bool, true, false, List, drop, take, Option, Some, None, Result, Ok, Err}
use Rattle.td_cdr.specs.Place.{At}
use Rattle.td_cdr.specs.declared.order.Order.{Order}
use Rattle.td_typecode.specs.Formats.{is_nonempty}
use Rattle.td_desk.specs.Batching.{count_of, is_offers, size_of}
use Rattle.td_desk.specs.declared.event.Event.{Event}
use Rattle.td_desk.specs.declared.event.Event.TheVariants as event
use Rattle.td_ior.specs.Keys.{key_of}
use Rattle.td_iter.specs.declared.desk.DeskEntry.{DeskEntry}
use Rattle.td_iter.specs.declared.item.Item.{Item}
use Rattle.td_iter.specs.declared.item.Item.TheVariants.{Offers, Ids}
use Rattle.td_objects.specs.Interfaces.{is_a}
use Rattle.td_objects.specs.declared.interface.Interface.{Interface}
use Rattle.td_objects.specs.declared.interface.Interface.TheVariants.{OfferIterator, OfferIdIterator}
use Rattle.td_ops.specs.declared.call.Call.{Call}
use Rattle.td_ops.specs.declared.call.Call.TheVariants as call
use Rattle.td_ops.specs.declared.call.IterCall.TheVariants as iter
use Rattle.td_ops.specs.declared.fault.OpsFault.{OpsFault}
use Rattle.td_ops.specs.declared.fault.OpsFault.TheVariants as fault
use Rattle.td_ops.specs.declared.outcome.Outcome.{Outcome}
use Rattle.td_ops.specs.declared.outcome.Outcome.TheVariants.{Done, System}
use Rattle.td_ops.specs.declared.outcome.Reply.TheVariants as reply
use Rattle.td_ops.specs.declared.outcome.SystemKind.{SystemKind}
use Rattle.td_ops.specs.declared.outcome.SystemKind.TheVariants.{BadOperation, Marshal, NoImplement, NoMemory}
use Rattle.td_servant.specs.Iterating.{gone}
use Rattle.td_value.specs.declared.key.Kind.{Kind}
use Rattle.td_value.specs.declared.key.Kind.TheVariants as kind
use Rattle.td_value.specs.declared.key.ObjectKey.{ObjectKey}
use Rattle.td_desk_calls.specs.declared.judging.IteratorRequest.{IteratorRequest}
use Rattle.td_desk_calls.specs.declared.judging.IteratorRequest.TheVariants.{NextN, Destroy, Inquire}
use Rattle.td_desk_calls.specs.declared.judging.Inquiry.{Inquiry}
use Rattle.td_desk_calls.specs.declared.judging.Inquiry.TheVariants.{MaxLeft, IsA, NonExistent, Refused}

-- ---- keys

abbrev pub iterator_in : (trader : List ℕ) → Kind → Option (List ℕ × ℕ)
iterator_in trader kind.Lookup = None
iterator_in trader kind.Register = None
iterator_in trader kind.Link = None
iterator_in trader kind.Proxy = None
iterator_in trader kind.Admin = None
iterator_in trader kind.Types = None
iterator_in trader (kind.Iterator n) = Some (trader, n)

abbrev pub iterator_of_key : Option ObjectKey → Option (List ℕ × ℕ)
iterator_of_key None = None
iterator_of_key (Some key) = iterator_in key.trader key.kind

-- the trader's name and the number in the key of an iterator
abbrev pub iterator_key : (octets : List ℕ) → Option (List ℕ × ℕ)
iterator_key octets = iterator_of_key (key_of octets)

-- ---- what a Request asks

-- it spells no call
abbrev pub refused_request : SystemKind → (minor : ℕ) → IteratorRequest
refused_request exception minor = Inquire (Refused exception minor)

-- an iterator has no other operations than these
abbrev pub asked_of : Call → IteratorRequest
asked_of (call.Change c) = refused_request BadOperation 0
asked_of (call.Look l) = refused_request BadOperation 0
asked_of (call.Query q) = refused_request BadOperation 0
asked_of (call.AddLink l) = refused_request BadOperation 0
asked_of (call.Resolve names) = refused_request BadOperation 0
asked_of (call.Iter iter.MaxLeft) = Inquire MaxLeft
asked_of (call.Iter (iter.NextN n)) = NextN n
asked_of (call.Iter iter.Destroy) = Destroy
asked_of (call.IsA id) = Inquire (IsA id)
asked_of call.NonExistent = Inquire NonExistent

-- by what its operation and its body are read as
abbrev pub asked_by : Result (Call × At) OpsFault → IteratorRequest
asked_by (Ok read) = asked_of read.0
asked_by (Err fault.BadOperation) = refused_request BadOperation 0
asked_by (Err (fault.Marshal place)) = refused_request Marshal place
asked_by (Err fault.NoImplement) = refused_request NoImplement 0
asked_by (Err fault.Memory) = refused_request NoMemory 0

-- the call that it makes of the desk
abbrev pub event_of : IteratorRequest → (trader : List ℕ) → (number : ℕ) → Order → Event
event_of (NextN n) trader number order = event.Next trader number n order
event_of Destroy trader number order = event.Destroy trader number
event_of (Inquire i) trader number order = event.Left trader number

-- ---- its outcome

-- of an iterator over offers, or over ids
abbrev pub interface_over : (offers : Bool) → Interface
interface_over true = OfferIterator
interface_over false = OfferIdIterator

-- so many items are left
abbrev pub inquiry_outcome : Inquiry → (left : ℕ) → (offers : Bool) → Outcome
inquiry_outcome MaxLeft left offers = Done (reply.Number left)
inquiry_outcome (IsA id) left offers = Done (reply.Truth (is_a (interface_over offers) id))
inquiry_outcome NonExistent left offers = Done (reply.Truth false)
inquiry_outcome (Refused exception minor) left offers = System exception minor 1

-- the batch for n of what is left
abbrev pub batch_outcome : (n : ℕ) → Order → Item → Outcome
batch_outcome n order (Offers left) =
    Done (reply.Batch (is_nonempty (drop (count_of n order (Offers left)) left))
    (take (count_of n order (Offers left)) left))
batch_outcome n order (Ids left) =
    Done (reply.IdBatch (is_nonempty (drop (count_of n order (Ids left)) left))
    (take (count_of n order (Ids left)) left))

-- of the iterator that has this left
abbrev pub outcome_of : IteratorRequest → Order → Item → Outcome
outcome_of (NextN n) order item = batch_outcome n order item
outcome_of Destroy order item = Done reply.Nothing
outcome_of (Inquire i) order item = inquiry_outcome i (size_of item) (is_offers item)

-- where the iterator is there, and where it isn't
abbrev pub outcome_by : IteratorRequest → Order → Option (DeskEntry Item) → Outcome
outcome_by asked order None = gone
outcome_by asked order (Some e) = outcome_of asked order e.item
