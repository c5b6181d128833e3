-- When the body of a Reply spells an outcome (CORBA, chapter on General Inter-ORB Protocol, "Reply Body").
use Rattle.std.specs.Prelude.{◌≡◌, ℕ, Bool, true, false, List, [], ◌++◌, length}
use Rattle.td_cdr.specs.Sound.{◌&◌, text, ulong}
use Rattle.td_cdr.specs.declared.order.Order.{Order}
use Rattle.td_exceptions.specs.Exceptions.{row_of, user_id}
use Rattle.td_giop.specs.Written.{reply_start, seal_size}
use Rattle.td_objects.specs.declared.interface.Interface.TheVariants.{OfferIdIterator}
use Rattle.td_objects.specs.declared.interface.Interface.{Interface}
use Rattle.td_ops.specs.Called.{operation_in}
use Rattle.td_ops.specs.Operations.{row}
use Rattle.td_ops.specs.Outcomes.{outcome_status, system_id}
use Rattle.td_ops.specs.Shapes.{results, shape_of}
use Rattle.td_ops.specs.declared.call.Call.{Call as Asked}
use Rattle.td_ops.specs.declared.call.Call.TheVariants as call
use Rattle.td_ops.specs.declared.call.IterCall.TheVariants as iter
use Rattle.td_ops.specs.declared.outcome.Outcome.{Outcome}
use Rattle.td_ops.specs.declared.outcome.Outcome.TheVariants.{Done, User, System}
use Rattle.td_ops.specs.declared.shape.Shape.{Shape}
use Rattle.td_ops.specs.declared.shape.Shape.TheVariants as shape
use Rattle.td_servant.specs.declared.judging.Judged.{Judged}
use Rattle.td_servant.specs.declared.judging.Judged.TheVariants.{Call, Refused}
use Rattle.td_servant.specs.declared.objects.Object.{Object}
use Rattle.td_dispatch.specs.declared.reply_to.ReplyTo.{ReplyTo}
use Rattle.td_session_runs.specs.Turns.{ServedRequest}

-- ---- the shape of a result

-- next_n of an iterator over ids gives ids
abbrev pub next_shape : Interface → Shape
next_shape OfferIdIterator = shape.IdBatch
next_shape other = shape.Batch

-- what a call of an object is answered with
abbrev pub shape_asked : Object → Asked → Shape
shape_asked x (call.Iter (iter.NextN n)) = next_shape x.interface
shape_asked x c = (row (operation_in c)).result

-- ---- outcomes that can be written

-- a result of this shape, or an exception
abbrev pub AdmitsShaped : Shape → Outcome → Type 0
AdmitsShaped which (Done r) = (shape_of r ≡ which) × (results (shape_of r)).format.admits r
AdmitsShaped which (User e) = (row_of e).members.format.admits e
AdmitsShaped which (System kind minor completion) = ulong.format.admits minor
    × ulong.format.admits completion

-- a system exception whose codes are ulongs
abbrev pub AdmitsSystem : Outcome → Type 0
AdmitsSystem (System kind minor completion) = ulong.format.admits minor
    × ulong.format.admits completion
AdmitsSystem other = ⊥

-- Of a call an outcome of its shape. A Request that spells no call is told a system exception.
abbrev pub AdmitsAnswer : Judged → Outcome → Type 0
AdmitsAnswer (Call x c) o = AdmitsShaped (shape_asked x c) o
AdmitsAnswer (Refused r) o = AdmitsSystem o

abbrev pub HasAdmittedAnswer : ServedRequest → Type 0
HasAdmittedAnswer n = AdmitsAnswer n.judged n.outcome

-- ---- bytes that spell one

-- the repository id, the minor code and the completion status
abbrev pub SpellsSystem : Outcome → Order → ℕ → List ℕ → Type 0
SpellsSystem (System kind minor completion) order place b =
    (text & ulong & ulong).format.spells order place (system_id kind, (minor, completion)) b
SpellsSystem other order place b = ⊥

-- a result of this shape, or an exception: a user exception is its repository id, and then its members
abbrev pub SpellsOutcome : Shape → Outcome → Order → ℕ → List ℕ → Type 0
SpellsOutcome which (Done r) order place b = (results which).format.spells order place r b
SpellsOutcome which (User e) order place b = (text & (row_of e).members).format.spells order place
    (user_id e, e) b
SpellsOutcome which (System kind minor completion) order place b =
    SpellsSystem (System kind minor completion) order place b

abbrev pub SpellsAnswer : Judged → Outcome → Order → ℕ → List ℕ → Type 0
SpellsAnswer (Call x c) o order place b = SpellsOutcome (shape_asked x c) o order place b
SpellsAnswer (Refused r) o order place b = SpellsSystem o order place b

-- the bytes are a Reply to the Request of this id, under the outcome's status, whose body spells the outcome
pub record IsSpelled (to : ReplyTo) (n : ServedRequest) (bytes : List ℕ) : Type 0 where
  pub body : List ℕ
  pub reply : bytes ≡ seal_size to.order
      (reply_start to.order to.minor to.id (outcome_status n.outcome) ++ body)
  pub spells : SpellsAnswer n.judged n.outcome to.order
      (length (reply_start to.order to.minor to.id (outcome_status n.outcome))) body

abbrev pub SpellsReplyIf : (answered : Bool) → ReplyTo → ServedRequest → List ℕ → Type 0
SpellsReplyIf false to n bytes = bytes ≡ []
SpellsReplyIf true to n bytes = IsSpelled to n bytes

-- a Request that expects no reply gets no bytes
abbrev pub SpellsReply : ReplyTo → ServedRequest → List ℕ → Type 0
SpellsReply to n bytes = SpellsReplyIf to.answered to n bytes
