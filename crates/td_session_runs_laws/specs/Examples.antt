-- Worked examples: what spells a truth, as `_is_a` answers it, in big order from place 24 on, where the head of a Reply
-- ends; and what does not.
use Rattle.std.specs.Prelude.{ℕ, ◌-◌, ◌^◌, true, List, [], ◌∷◌, ◌++◌, codes}
use Rattle.td_cdr.specs.declared.order.Order.TheVariants.{Big}
use Rattle.td_ops.specs.declared.call.Call.TheVariants as call
use Rattle.td_ops.specs.declared.outcome.Outcome.TheVariants.{Done, System}
use Rattle.td_ops.specs.declared.outcome.Outcome.{Outcome}
use Rattle.td_ops.specs.declared.outcome.Reply.TheVariants.{Number, Truth}
use Rattle.td_ops.specs.declared.outcome.SystemKind.TheVariants.{BadOperation, Marshal}
use Rattle.td_ops.specs.declared.shape.Shape.TheVariants as shape
use Rattle.td_servant.specs.declared.entry.Entry.TheVariants.{Plain}
use Rattle.td_servant.specs.declared.judging.Judged.TheVariants.{Call, Refused}
use Rattle.td_servant.specs.declared.objects.Object.{Object}
use Rattle.td_dispatch.specs.Requests.{FitsCode}
use Rattle.td_dispatch.specs.declared.reply_to.ReplyTo.{ReplyTo}
use Rattle.td_session_runs.specs.Turns.{ServedRequest}
use Rattle.td_session_runs_laws.specs.Spelled.{SpellsReply, SpellsAnswer, SpellsOutcome}

-- BAD_OPERATION with the minor code 0, of a call that wasn't done
abbrev pub bad_operation : Outcome
bad_operation = System BadOperation 0 1

-- its repository id behind its length, with a NUL, and then two ulongs
abbrev pub bad_operation_reply : (completion : ℕ) → List ℕ
bad_operation_reply completion =
    0 ∷ 0 ∷ 0 ∷ 36 ∷ codes "IDL:omg.org/CORBA/BAD_OPERATION:1.0"
    ++ 0 ∷ 0 ∷ 0 ∷ 0 ∷ 0 ∷ 0 ∷ 0 ∷ 0 ∷ completion ∷ []

-- a body that is at fault at this place
abbrev pub marshal : (place : ℕ) → Outcome
marshal place = System Marshal place 1

-- an object says that it is of an interface
abbrev pub is_one : Object → ServedRequest
is_one x = record {
  judged = Call x (call.IsA (codes "IDL:omg.org/CORBA/Object:1.0"));
  outcome = Done (Truth true);
  entry = Plain;
}

-- what the Reply to the Request 5 answers
abbrev pub to_five : ReplyTo
to_five = record { order = Big; minor = 0; id = 5; answered = true }

-- that Reply, which ends with this octet
abbrev pub is_a_reply : (octet : ℕ) → List ℕ
is_a_reply octet =
    71 ∷ 73 ∷ 79 ∷ 80 ∷ 1 ∷ 0 ∷ 0 ∷ 1 ∷ 0 ∷ 0 ∷ 0 ∷ 13 ∷ 0 ∷ 0 ∷ 0 ∷ 0 ∷ 0 ∷ 0 ∷ 0 ∷ 5 ∷ 0 ∷ 0 ∷ 0
    ∷ 0 ∷ octet ∷ []

pub record WorkedSpelling : Type 0 where
  pub truth : SpellsOutcome shape.Truth (Done (Truth true)) Big 24 (1 ∷ [])
  pub no_falsehood : SpellsOutcome shape.Truth (Done (Truth true)) Big 24 (0 ∷ []) → ⊥
  -- a number is no truth, whatever its bytes
  pub no_number : (b : List ℕ) → SpellsOutcome shape.Truth (Done (Number 1)) Big 24 b → ⊥
  pub refusal : SpellsOutcome shape.Truth bad_operation Big 24 (bad_operation_reply 1)
  pub no_other_completion : SpellsOutcome shape.Truth bad_operation Big 24 (bad_operation_reply 2)
      → ⊥
  -- a Request that spells no call is told an exception, and no result
  pub no_call : SpellsAnswer (Refused bad_operation) bad_operation Big 24 (bad_operation_reply 1)
  pub no_result : (b : List ℕ) → SpellsAnswer (Refused bad_operation) (Done (Truth true)) Big 24 b
      → ⊥
  -- its minor code is a ulong
  pub last_code : FitsCode (Refused (marshal (2 ^ 32 - 1))) (marshal (2 ^ 32 - 1))
  pub no_code : FitsCode (Refused (marshal (2 ^ 32))) (marshal (2 ^ 32)) → ⊥
  pub reply : (x : Object) → SpellsReply to_five (is_one x) (is_a_reply 1)
  pub no_other_reply : (x : Object) → SpellsReply to_five (is_one x) (is_a_reply 0) → ⊥
  pub no_reply : (x : Object) → SpellsReply to_five (is_one x) [] → ⊥
