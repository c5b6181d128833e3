-- A message for an iterator, from what is done for it.
use Rattle.std.proofs.Common.{◌≡◌, ℕ, List, [], ◌++◌, None, Some, Bool, OnOk, Result, Ok, Err, refl, sym, ap, subst}
use Rattle.std.proofs.Common.{◌∙◌, arith}
use Rattle.td_cdr.specs.Place.{At}
use Rattle.td_cdr.specs.declared.memory.Memory.{Memory as MemoryFault}
use Rattle.td_cdr.specs.declared.order.Order.{Order}
use Rattle.td_cell.specs.declared.pass.View.{View}
use Rattle.td_desk.specs.declared.event.Event.{Event}
use Rattle.td_desk_calls.specs.Calls.{asked_by, iterator_key}
use Rattle.td_desk_calls.specs.Serving.{LocatesIterator, ServesIterator}
use Rattle.td_desk_calls.specs.declared.desk_call.DeskCall.{DeskCall}
use Rattle.td_giop.specs.Heads.{Request as Asked, behind_header, locate_at, request_at}
use Rattle.td_giop.specs.declared.head.RequestHead.{RequestHead}
use Rattle.td_giop.specs.declared.raw.Raw.{Raw}
use Rattle.td_ops.specs.Calls.{call_read}
use Rattle.td_session.specs.Stages.{Stage}
use Rattle.td_stream.specs.Heads.{HasHead, IsCancelRequest, IsLocateRequest, IsMessage, asked_of}
use Rattle.td_stream.specs.Messages.{behind, minor_of, order_of}
use Rattle.td_stream.specs.declared.head.Head.TheVariants.{Request}
use Rattle.td_value.specs.declared.key.Kind.TheVariants as object_kind
use Rattle.td_dispatch.specs.declared.reply_to.ReplyTo.{ReplyTo}
use Rattle.td_shared.specs.Calling.{NotesCall, located_by, replied_to}
use Rattle.td_shared.specs.Serving.{IsKeyed, IsUnkeyed, request, locate}
use Rattle.td_shared.specs.Stages.{IsDone, entry_of_call, shared_stage}
use Rattle.td_shared.specs.declared.entry.SharedEntry.{SharedEntry}

-- ---- which iterator it is for

abbrev key_in : {F : Type 0} → Result (Asked × At) F → List ℕ
key_in (Ok x) = x.0.key
key_in (Err f) = []

abbrev octets_in : {F : Type 0} → Result (ℕ × List ℕ) F → List ℕ
octets_in (Ok x) = x.1
octets_in (Err f) = []

module _ (m : Raw) (is : IsMessage m) where
  request_read : (h : RequestHead) → HasHead m (Request h)
      → request_at (minor_of m.bytes.now) (behind m.bytes.now) ≡ Ok (asked_of h, h.body)
  request_read h has =
      subst (λ (n : ℕ). request_at n (behind m.bytes.now) ≡ Ok (asked_of h, h.body)) is.minor
      (subst (λ (o : Order). request_at m.minor (behind_header o m.bytes.now) ≡ Ok (asked_of h, h.body)) is.order
      has.1)

  locate_read : (id : ℕ) (octets : List ℕ) → locate_at (behind_header m.order m.bytes.now) ≡ Ok (id, octets)
      → locate_at (behind m.bytes.now) ≡ Ok (id, octets)
  locate_read id octets read =
      subst (λ (o : Order). locate_at (behind_header o m.bytes.now) ≡ Ok (id, octets)) is.order read

  pub unkeyed_request : (h : RequestHead) → HasHead m (Request h) → iterator_key h.key.now ≡ None
      → IsUnkeyed m.bytes.now
  unkeyed_request h has key = record {
    request = λ head body of_kind read. ap iterator_key (ap key_in (sym read ∙ request_read h has)) ∙ key;
    locate = λ id octets of_kind read. absurd (let e : 0 ≡ 3 = sym has.0 ∙ is.kind ∙ of_kind in omega (arith, e));
  }

  pub unkeyed_locate : (id : ℕ) (octets : List ℕ)
      → IsLocateRequest m × (locate_at (behind_header m.order m.bytes.now) ≡ Ok (id, octets))
      → iterator_key octets ≡ None → IsUnkeyed m.bytes.now
  unkeyed_locate id octets has key = record {
    request = λ head body of_kind read. absurd (let e : 3 ≡ 0 = sym has.0 ∙ is.kind ∙ of_kind in omega (arith, e));
    locate = λ id_read octets_read of_kind read.
        ap iterator_key (ap octets_in (sym read ∙ locate_read id octets has.1)) ∙ key;
  }

  pub unkeyed_cancel : IsCancelRequest m → IsUnkeyed m.bytes.now
  unkeyed_cancel has = record {
    request = λ head body of_kind read. absurd (let e : 2 ≡ 0 = sym has ∙ is.kind ∙ of_kind in omega (arith, e));
    locate = λ id octets of_kind read. absurd (let e : 2 ≡ 3 = sym has ∙ is.kind ∙ of_kind in omega (arith, e));
  }

-- ---- what its call comes to

module _ (s s_then : Stage) (v w : View (List Event)) (j k : List SharedEntry) (reply : List ℕ) (m : Raw)
    (is : IsMessage m) (trader : List ℕ) (number : ℕ) (call : DeskCall) (done : IsDone call)
    (notes : k ≡ j ++ entry_of_call call) (same : s_then ≡ s) where
  pub keyed_request : (h : RequestHead) → HasHead m (Request h) → iterator_key h.key.now ≡ Some (trader, number)
      → ServesIterator (replied_to m.order m.minor h) trader number v
      (asked_by (call_read (object_kind.Iterator number) h.operation.now h.body)) reply call w
      → IsKeyed (shared_stage s v j) m.bytes.now reply (shared_stage s_then w k)
  keyed_request h has key serves = request (record {
    head = asked_of h;
    body = h.body;
    kind = sym is.kind ∙ has.0;
    read = request_read m is h has;
    trader = trader;
    number = number;
    key = key;
    call = call;
    serves =
        subst (λ (n : ℕ). ServesIterator (replied_to (order_of m.bytes.now) n h) trader number v
        (asked_by (call_read (object_kind.Iterator number) h.operation.now h.body)) reply call w) is.minor
        (subst (λ (o : Order). ServesIterator (replied_to o m.minor h) trader number v
        (asked_by (call_read (object_kind.Iterator number) h.operation.now h.body)) reply call w) is.order serves);
    is_done = done;
    journal = notes;
    rest = same;
  })

  pub keyed_locate : (id : ℕ) (octets : List ℕ)
      → IsLocateRequest m × (locate_at (behind_header m.order m.bytes.now) ≡ Ok (id, octets))
      → iterator_key octets ≡ Some (trader, number)
      → LocatesIterator (located_by m.order m.minor id) trader number v reply call w
      → IsKeyed (shared_stage s v j) m.bytes.now reply (shared_stage s_then w k)
  keyed_locate id octets has key locates = locate (record {
    id = id;
    octets = octets;
    kind = sym is.kind ∙ has.0;
    read = locate_read m is id octets has.1;
    trader = trader;
    number = number;
    key = key;
    call = call;
    locates =
        subst (λ (n : ℕ). LocatesIterator (located_by (order_of m.bytes.now) n id) trader number v reply call w)
        is.minor
        (subst (λ (o : Order). LocatesIterator (located_by o m.minor id) trader number v reply call w) is.order
        locates);
    is_done = done;
    journal = notes;
    rest = same;
  })

-- ---- what was answered and noted

pub request_answered : (v w : View (List Event)) (j k : List SharedEntry) (reply : List ℕ) (m : Raw)
    (is : IsMessage m) (trader : List ℕ) (number : ℕ) (call : DeskCall) (full full_then : Bool)
    (r : Result (Unit {0}) MemoryFault) (h : RequestHead) (to : ReplyTo) → NotesCall call j k full full_then r
    → HasHead m (Request h) → iterator_key h.key.now ≡ Some (trader, number) → to ≡ replied_to m.order m.minor h
    → ServesIterator to trader number v (asked_by (call_read (object_kind.Iterator number) h.operation.now h.body))
    reply call w
    → OnOk r ((s : Stage) → IsKeyed (shared_stage s v j) m.bytes.now reply (shared_stage s w k))
request_answered v w j k reply m is trader number call full full_then (Ok u) h to notes has key same serves =
    λ s. keyed_request s s v w j k reply m is trader number call notes.0 notes.1 refl h has key
    (subst (λ (t : ReplyTo).
    ServesIterator t trader number v (asked_by (call_read (object_kind.Iterator number) h.operation.now h.body)) reply
    call w) same serves)
request_answered v w j k reply m is trader number call full full_then (Err memory) h to notes has key same serves =
    tt
