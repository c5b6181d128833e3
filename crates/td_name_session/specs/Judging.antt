-- What a Request is judged by: its key, its operation, its body (CORBA, chapter "Standard Exceptions":
-- OBJECT_NOT_EXIST, BAD_OPERATION, NO_IMPLEMENT and MARSHAL).
use Rattle.std.specs.Prelude.{◌≡◌, ℕ, Bool, cond, List, Option, Some, None, Result, Ok, Err}
use Rattle.td_cdr.specs.Place.{At}
use Rattle.td_name_ops.specs.Calls.{call_read}
use Rattle.td_name_ops.specs.declared.call.NameCall.{NameCall}
use Rattle.td_naming.specs.Views.{View}
use Rattle.td_naming.specs.declared.history.NameChange.{NameChange}
use Rattle.td_ops.specs.declared.fault.OpsFault.{OpsFault}
use Rattle.td_ops.specs.declared.fault.OpsFault.TheVariants as fault
use Rattle.td_ops.specs.declared.outcome.SystemKind.TheVariants as system
use Rattle.td_name_session.specs.Keys.{key_of, kind_of}
use Rattle.td_name_session.specs.Scenes.{FindsObject, IteratorList}
use Rattle.td_name_session.specs.declared.judging.Judged.{Judged}
use Rattle.td_name_session.specs.declared.judging.Judged.TheVariants.{Call, Refused}
use Rattle.td_name_session.specs.declared.keys.NameKey.{NameKey}

-- the minor code of MARSHAL is the place of the fault in the message, in bytes from 0, and that of others is 0
abbrev pub refused_for : OpsFault → Judged
refused_for fault.BadOperation = Refused system.BadOperation 0
refused_for (fault.Marshal place) = Refused system.Marshal place
refused_for fault.NoImplement = Refused system.NoImplement 0
refused_for fault.Memory = Refused system.NoMemory 0

abbrev pub judged_as : NameKey → Result (NameCall × At) OpsFault → Judged
judged_as key (Ok c) = Call key c.0
judged_as key (Err e) = refused_for e

-- the call of a live object, or its refusal
abbrev pub judged_body : NameKey → List ℕ → At → Judged
judged_body key operation body = judged_as key (call_read (kind_of key) operation body)

abbrev pub judged_if : Bool → NameKey → List ℕ → At → Judged
judged_if live key operation body = cond live (judged_body key operation body)
    (Refused system.ObjectNotExist 0)

module _ (others : List NameChange → Type 0) where
  -- an object's Request is judged at what is seen of it
  pub record JudgesKey (v : View) (d : IteratorList) (key : NameKey) (operation : List ℕ)
      (body : At)
      (j : Judged) (u : View) : Type 0 where
    pub live : Bool
    pub finds : FindsObject others v d key live u
    pub is : j ≡ judged_if live key operation body

  abbrev pub JudgesOption : View → IteratorList → Option NameKey → List ℕ → At → Judged → View
      → Type 0
  JudgesOption v d None operation body j u = (j ≡ Refused system.ObjectNotExist 0) × (u ≡ v)
  JudgesOption v d (Some key) operation body j u = JudgesKey v d key operation body j u

  -- a Request with this key is judged so
  abbrev pub JudgesRequest : View → IteratorList → List ℕ → List ℕ → At → Judged → View → Type 0
  JudgesRequest v d key operation body j u = JudgesOption v d (key_of key) operation body j u
