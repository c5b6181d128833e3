-- What a change comes to: a reply with the store behind it, or a refusal, which leaves the store as it was (OMG's
-- Trading Object Service; CORBA's chapter "Standard Exceptions" for the system exceptions).
use Rattle.std.specs.Prelude.{Bool, if◌then◌else◌, Option, None, Some, Result, Ok, Err}
use Rattle.td_exceptions.specs.declared.exception.UserException.{UserException}
use Rattle.td_ops.specs.declared.outcome.Outcome.{Outcome}
use Rattle.td_ops.specs.declared.outcome.Outcome.TheVariants.{Done, User, System}
use Rattle.td_ops.specs.declared.outcome.Reply.{Reply}
use Rattle.td_ops.specs.declared.outcome.SystemKind.{SystemKind}
use Rattle.td_ops.specs.declared.outcome.SystemKind.TheVariants.{ImpLimit, NoImplement}
use Rattle.td_register.specs.Stores.{Store}
use Rattle.td_register.specs.declared.refusal.Refusal.{Refusal}
use Rattle.td_register.specs.declared.refusal.Refusal.TheVariants.{Raised, NotSupported, Limit}

-- a system exception of a call that wasn't done: its minor code is 0, and its completion NO
abbrev pub system : SystemKind → Outcome
system kind = System kind 0 1

-- NO_IMPLEMENT where something isn't supported, IMP_LIMIT past a limit
abbrev pub refusal_outcome : Refusal → Outcome
refusal_outcome (Raised e) = User e
refusal_outcome NotSupported = system NoImplement
refusal_outcome Limit = system ImpLimit

-- ---- causes

-- why a call is refused, if it is
abbrev pub Cause : Type 0
Cause = Option Refusal

-- an exception, where this is so
abbrev pub raise_if : Bool → UserException → Cause
raise_if so e = if so then Some (Raised e) else None

-- where a limit would be passed
abbrev pub limit_if : Bool → Cause
limit_if passed = if passed then Some Limit else None

abbrev pub unless_supported : Bool → Cause
unless_supported supported = if supported then None else Some NotSupported

-- the first cause that is met
infixr 5 ◌otherwise◌
abbrev pub ◌otherwise◌ : Cause → Cause → Cause
None otherwise later = later
(Some f) otherwise later = Some f

-- ---- what is looked for by a name or an id, and the refusal where it isn't there

abbrev pub OrRefusal : Type 0 → Type 0
OrRefusal X = Result X Refusal

abbrev pub raise : {X : Type 0} → UserException → OrRefusal X
raise e = Err (Raised e)

-- the thing that may be there, or else this exception
abbrev pub there : {X : Type 0} → Option X → UserException → OrRefusal X
there None e = raise e
there (Some x) e = Ok x

-- what else is at fault with what was found
abbrev pub with_cause : {X : Type 0} → OrRefusal X → (X → Cause) → Cause
with_cause (Ok x) cause = cause x
with_cause (Err f) cause = Some f

-- what a look at it comes to
abbrev pub tells : {X : Type 0} → OrRefusal X → (X → Reply) → Outcome
tells (Ok x) reply = Done (reply x)
tells (Err f) reply = refusal_outcome f

-- ---- changes

-- the reply, and the store behind it; or the refusal
abbrev pub ChangeResult : Type 0
ChangeResult = Result (Reply × Store) Refusal

-- refused for this cause, or accepted
abbrev pub unless : Cause → Reply → Store → ChangeResult
unless None reply after = Ok (reply, after)
unless (Some f) reply after = Err f

-- the same; where no more changes are accepted, that is the last cause
abbrev pub unless_full : (full : Bool) → Cause → Reply → Store → ChangeResult
unless_full full cause reply after = unless (cause otherwise limit_if full) reply after

-- an outcome, and the store behind it
pub record Effect : Type 0 where
  pub outcome : Outcome
  pub store : Store

-- a refusal of any kind leaves the store as it was
abbrev pub effect_of : Store → ChangeResult → Effect
effect_of s (Ok accepted) = record { outcome = Done accepted.0; store = accepted.1 }
effect_of s (Err f) = record { outcome = refusal_outcome f; store = s }
