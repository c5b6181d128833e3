-- What a client is told by a reply of a status (CORBA, chapter on General Inter-ORB Protocol, "Reply Header"
-- and "Reply Body").
use Rattle.std.specs.Prelude.{◌≡◌, ℕ, nat_eq, Result, Some, None, refl}
use Rattle.td_cdr.specs.Place.{At}
use Rattle.td_cdr.specs.Format.{Piece}
use Rattle.td_cdr.specs.Sound.{Sound, ◌&◌, variant, failure, either, text, ulong}
use Rattle.td_cdr.specs.declared.value_fault.ValueFault.{ValueFault}
use Rattle.td_cdr.specs.declared.value_fault.ValueFault.TheVariants.{BadValue}
use Rattle.td_exceptions.specs.Exceptions.{row_of, user_id}
use Rattle.td_ops.specs.declared.call.Call.{Call}
use Rattle.td_ops.specs.declared.operation.Operation.{Operation}
use Rattle.td_ops.specs.declared.fault.OpsFault.{OpsFault}
use Rattle.td_ops.specs.declared.outcome.Outcome.{Outcome}
use Rattle.td_ops.specs.declared.outcome.Outcome.TheVariants as outcome
use Rattle.td_ops.specs.declared.outcome.Answered.{Answered}
use Rattle.td_ops.specs.declared.outcome.Answered.TheVariants.{Done, User, System}
use Rattle.td_ops.specs.declared.shape.Shape.{Shape}
use Rattle.td_ops.specs.Called.{operation_in}
use Rattle.td_ops.specs.Operations.{row}
use Rattle.td_ops.specs.Shapes.{results, shape_of}
use Rattle.td_ops.specs.Outcomes.{outcome_piece, system_id}
use Rattle.td_ops.specs.Refusals.{reading_of}

abbrev pub done_answer : Shape → Sound ValueFault Answered
done_answer shape = variant (λ r. Done r) (elim [ Done r ↦ Some r | _ ↦ None ]) (λ _. refl)
    (results shape)

abbrev pub user_answer : Sound ValueFault Answered
user_answer = variant (λ id. User id) (elim [ User id ↦ Some id | _ ↦ None ]) (λ _. refl) text

abbrev pub system_answer : Sound ValueFault Answered
system_answer =
    variant (λ p. System p.0 p.1.0 p.1.1) (elim [ System x y z ↦ Some (x, (y, z)) | _ ↦ None ])
    (λ _. refl) (text & ulong & ulong)

abbrev pub no_answer : Sound ValueFault Answered
no_answer = failure (λ a. BadValue a.place)

-- a reply's body: the result, the id of a user exception whose members stay unread, or a system exception.
-- No other status has a body here.
abbrev pub answer_of : Operation → ℕ → Sound ValueFault Answered
answer_of operation status =
    either (nat_eq status 0) (done_answer (row operation).result)
    (either (nat_eq status 1) user_answer (either (nat_eq status 2) system_answer no_answer))

-- what is told and where the reader then stands, or the first fault
abbrev pub outcome_read : Call → ℕ → At → Result (Answered × At) OpsFault
outcome_read c status a = reading_of ((answer_of (operation_in c) status).format.reads a)

-- what a client is told of an outcome
abbrev pub client_answer : Outcome → Answered
client_answer (outcome.Done r) = Done r
client_answer (outcome.User e) = User (user_id e)
client_answer (outcome.System kind minor completion) = System (system_id kind) minor completion

-- the bytes that tell it
abbrev pub answer_piece : Outcome → Piece
answer_piece (outcome.User e) = text.format.writes (user_id e)
answer_piece o = outcome_piece o

-- the outcomes of an operation that can be written: a result of its shape, an exception, whose texts have no NUL and
-- whose anys, TypeCodes and references are admitted
abbrev pub AdmitsOutcome : Operation → Outcome → Type 0
AdmitsOutcome operation (outcome.Done r) =
    (shape_of r ≡ (row operation).result) × (results (shape_of r)).format.admits r
AdmitsOutcome operation (outcome.User e) = (row_of e).members.format.admits e
AdmitsOutcome operation (outcome.System kind minor completion) =
    ulong.format.admits minor × ulong.format.admits completion
