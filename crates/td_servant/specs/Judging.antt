-- How a Request is judged, part by part: an unknown key is OBJECT_NOT_EXIST, an operation that the object doesn't have
-- is BAD_OPERATION, a body that isn't in the grammar MARSHAL, with the place of its first fault as minor code, or
-- NO_IMPLEMENT for a kind of value that is left out (CORBA, chapter "Standard Exceptions", and chapter on General
-- Inter-ORB Protocol, "Request Header" and "Request Body").
use Rattle.std.specs.Prelude.{ℕ, List, Option, None, Some, Result, Ok, Err}
use Rattle.td_cdr.specs.Place.{At}
use Rattle.td_iter.specs.Desks.{Live}
use Rattle.td_ops.specs.Calls.{AdmitsCall, call_read}
use Rattle.td_ops.specs.declared.call.Call.{Call as Asked}
use Rattle.td_ops.specs.declared.fault.OpsFault.{OpsFault}
use Rattle.td_ops.specs.declared.fault.OpsFault.TheVariants as fault
use Rattle.td_ops.specs.declared.outcome.Outcome.{Outcome}
use Rattle.td_ops.specs.declared.outcome.SystemKind.TheVariants.{BadOperation, Marshal, NoImplement, ObjectNotExist}
use Rattle.td_trader.specs.Worlds.{View}
use Rattle.td_servant.specs.Answers.{no_memory, system}
use Rattle.td_servant.specs.Objects.{IsNamed, object_at}
use Rattle.td_servant.specs.declared.judging.Judged.{Judged}
use Rattle.td_servant.specs.declared.judging.Judged.TheVariants.{Call, Refused}
use Rattle.td_servant.specs.declared.objects.Object.{Object}

-- with what a request is refused that spells no call
abbrev pub refusal_of : OpsFault → Outcome
refusal_of fault.BadOperation = system BadOperation 0
refusal_of (fault.Marshal place) = system Marshal place
refusal_of fault.NoImplement = system NoImplement 0
refusal_of fault.Memory = no_memory

abbrev pub judged_reading : Object → Result (Asked × At) OpsFault → Judged
judged_reading x (Ok read) = Call x read.0
judged_reading x (Err f) = Refused (refusal_of f)

abbrev pub judged_by : Option Object → (operation : List ℕ) → At → Judged
judged_by None operation a = Refused (system ObjectNotExist 0)
judged_by (Some x) operation a = judged_reading x (call_read x.kind operation a)

-- the call that a request with this key, operation and body spells, or its refusal
abbrev pub judge_request : List View → Live → (key operation : List ℕ) → (body : At) → Judged
judge_request w d key operation body = judged_by (object_at w d key) operation body

-- the trader of a call can be named by keys, and the parameters can be written
abbrev pub IsServable : List View → Judged → Type 0
IsServable w (Call x c) = IsNamed w x.trader × AdmitsCall c
IsServable w (Refused o) = Unit {0}
