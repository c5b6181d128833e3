-- How a session serves one message whose server shares a desk of iterators: a message for an iterator is one call of
-- the desk; any other draws a number, and is served as a session serves it whose next iterator has this number, which
-- is then put on the desk.
use Rattle.std.specs.Prelude.{◌≡◌, ◌⊎◌, ℕ, Bool, true, false, List, [], ◌∷◌, ◌++◌, map, Option, Some, None, Ok, Err}
use Rattle.td_cdr.specs.Marks.{Marks}
use Rattle.td_cdr.specs.Place.{At}
use Rattle.td_cell.specs.declared.pass.View.{View}
use Rattle.td_desk.specs.Sharing.{ActsInTurn}
use Rattle.td_desk.specs.declared.act.Act.TheVariants as act
use Rattle.td_desk.specs.declared.act.Reply.TheVariants as content
use Rattle.td_desk.specs.declared.event.Event.{Event}
use Rattle.td_desk.specs.declared.fault.DeskFault.TheVariants as fault
use Rattle.td_desk_calls.specs.Calls.{asked_by, iterator_key}
use Rattle.td_desk_calls.specs.Serving.{IsFullThen, LocatesIterator, ServesIterator}
use Rattle.td_desk_calls.specs.declared.desk_call.DeskCall.{DeskCall}
use Rattle.td_desk_calls.specs.declared.desk_call.DeskCall.TheVariants.{Full}
use Rattle.td_giop.specs.Heads.{Request, locate_at, request_at}
use Rattle.td_giop.specs.declared.message_type.TheConstants.{LOCATE_REQUEST, REQUEST}
use Rattle.td_iter.specs.declared.desk.DeskEntry.{DeskEntry as Iterator}
use Rattle.td_iter.specs.declared.item.Item.{Item}
use Rattle.td_ops.specs.Calls.{call_read}
use Rattle.td_register.specs.declared.history.Accepted.{Accepted}
use Rattle.td_dispatch.specs.ReplyBytes.{reply_to}
use Rattle.td_dispatch.specs.declared.reply_to.ReplyTo.{ReplyTo}
use Rattle.td_session.specs.Serving.{ServesMessage}
use Rattle.td_session.specs.Stages.{Stage}
use Rattle.td_stream.specs.Messages.{behind, kind_of, minor_of, order_of}
use Rattle.td_value.specs.declared.key.Kind.TheVariants as object_kind
use Rattle.td_shared.specs.Stages.{IsDone, SharedStage, entry_of_call, with_desk}
use Rattle.td_shared.specs.declared.entry.SharedEntry.TheVariants.{Session}

-- what the reply to a LocateRequest is written by: one is always expected
abbrev pub located_to : (message : List ℕ) → (id : ℕ) → ReplyTo
located_to message id = record {
  order = order_of message;
  minor = minor_of message;
  id = id;
  answered = true;
}

-- ---- messages for iterators

module _ (s : SharedStage) (message reply : List ℕ) (u : SharedStage) where
  -- A Request whose key is an iterator's, of whatever trader: it makes its call of the desk, whose place is noted.
  pub record ServesKeyed : Type 0 where
    pub head : Request
    pub body : At
    pub kind : kind_of message ≡ REQUEST
    pub read : request_at (minor_of message) (behind message) ≡ Ok (head, body)
    pub trader : List ℕ
    pub number : ℕ
    pub key : iterator_key head.key ≡ Some (trader, number)
    pub call : DeskCall
    pub serves : ServesIterator (reply_to (order_of message) (minor_of message) head)
        trader number s.view (asked_by
        (call_read (object_kind.Iterator number) head.operation body)) reply call u.view
    pub is_done : IsDone call
    pub journal : u.journal ≡ s.journal ++ entry_of_call call
    pub rest : u.stage ≡ s.stage

  -- the same of a LocateRequest
  pub record LocatesKeyed : Type 0 where
    pub id : ℕ
    pub octets : List ℕ
    pub kind : kind_of message ≡ LOCATE_REQUEST
    pub read : locate_at (behind message) ≡ Ok (id, octets)
    pub trader : List ℕ
    pub number : ℕ
    pub key : iterator_key octets ≡ Some (trader, number)
    pub call : DeskCall
    pub locates : LocatesIterator (located_to message id) trader number s.view reply call u.view
    pub is_done : IsDone call
    pub journal : u.journal ≡ s.journal ++ entry_of_call call
    pub rest : u.stage ≡ s.stage

-- the message is a Request or a LocateRequest whose key is an iterator's
pub data IsKeyed (s : SharedStage) (message reply : List ℕ) (u : SharedStage) : Type 0 where
  request : ServesKeyed s message reply u → IsKeyed s message reply u
  locate : LocatesKeyed s message reply u → IsKeyed s message reply u

-- ---- other messages

-- it is no Request and no LocateRequest with the key of an iterator
pub record IsUnkeyed (message : List ℕ) : Type 0 where
  pub request : (head : Request) (body : At) → kind_of message ≡ REQUEST
      → request_at (minor_of message) (behind message) ≡ Ok (head, body) → iterator_key head.key
      ≡ None
  pub locate : (id : ℕ) (octets : List ℕ) → kind_of message ≡ LOCATE_REQUEST
      → locate_at (behind message) ≡ Ok (id, octets) → iterator_key octets ≡ None

-- what was kept of one message is put on the desk; that is one iterator at most
abbrev pub PutsKept : View (List Event) → List (Iterator Item) → View (List Event) → Type 0
PutsKept v [] w = w ≡ v
PutsKept v (e ∷ []) w = (back : Option (Iterator Item)) × ActsInTurn v (act.Add e)
    (content.Added back) w
PutsKept v (e ∷ f ∷ es) w = ⊥

module _ (others : List Accepted → Type 0) (later : Marks → Marks → Type 0) where
  -- A number was drawn, the message served with it, and what it kept was put on the desk.
  pub record ServesOther (s : SharedStage) (message reply : List ℕ) (u : SharedStage) : Type 0 where
    pub unkeyed : IsUnkeyed message
    pub number : ℕ
    pub drawn : View (List Event)
    pub draws : ActsInTurn s.view act.Draw (content.Drawn (Ok number)) drawn
    pub served : Stage
    pub serves : ServesMessage others later (with_desk s.stage [] number) message reply served
    pub keeps : PutsKept drawn served.scene.desk.0 u.view
    pub journal : u.journal ≡ s.journal ++ map Session served.journal
    pub rest : u.stage ≡ with_desk served [] served.scene.desk.1

  -- the message is served with this reply
  pub data ServesShared (s : SharedStage) (message reply : List ℕ) (u : SharedStage) : Type 0 where
    keyed : IsKeyed s message reply u → ServesShared s message reply u
    other : ServesOther s message reply u → ServesShared s message reply u

-- ---- where a message isn't served

-- As many numbers were drawn as may be, or as many calls of iterators done.
abbrev pub IsFullNow : View (List Event) → View (List Event) → Type 0
IsFullNow v w = ActsInTurn v act.Draw (content.Drawn (Err fault.Full)) w ⊎ IsFullThen v w

-- memory ran out: at most a number was drawn, which isn't used
abbrev pub DrawsAtMost : View (List Event) → View (List Event) → Type 0
DrawsAtMost v w = (w ≡ v) ⊎ ((number : ℕ) × ActsInTurn v act.Draw (content.Drawn (Ok number)) w)

-- No message was served; that the desk was full is known.
abbrev pub StaysBy : (full : Bool) → View (List Event) → View (List Event) → Type 0
StaysBy true v w = IsFullNow v w
StaysBy false v w = DrawsAtMost v w

pub record StaysShared (full : Bool) (s u : SharedStage) : Type 0 where
  pub view : StaysBy full s.view u.view
  pub journal : u.journal ≡ s.journal
  pub rest : with_desk u.stage [] 0 ≡ with_desk s.stage [] 0

-- ---- what a servant knows: whether the desk was full, behind which no message is served

abbrev pub ServesWith : (others : List Accepted → Type 0) → (later : Marks → Marks → Type 0)
    → (full full_then : Bool) → SharedStage → (message reply : List ℕ) → SharedStage → Type 0
ServesWith others later full full_then s message reply u =
    (full_then ≡ full) × ServesShared others later s message reply u

abbrev pub StaysWith : (full full_then : Bool) → SharedStage → SharedStage → Type 0
StaysWith full full_then s u = full ≡ false → StaysShared full_then s u
