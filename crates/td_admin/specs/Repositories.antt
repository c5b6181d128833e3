-- What the type repository answers, as outcomes (OMG's Trading Object Service, interface
-- CosTradingRepos::ServiceTypeRepository).
use Rattle.std.specs.Prelude.{ℕ, ◌+◌, ◌-◌, ◌*◌, ◌^◌, min, List, Option, None, Some, Ok, Err}
use Rattle.td_value.specs.declared.structures.IncarnationNumber.{IncarnationNumber}
use Rattle.td_value.specs.declared.unions.SpecifiedServiceTypes.{SpecifiedServiceTypes}
use Rattle.td_value.specs.declared.unions.SpecifiedServiceTypes.TheVariants as listed
use Rattle.td_types.specs.Calls as types
use Rattle.td_types.specs.Repository.{halves}
use Rattle.td_types.specs.declared.fault.RepoFault.{RepoFault}
use Rattle.td_types.specs.declared.fault.RepoFault.TheVariants as fault
use Rattle.td_types.specs.declared.fault.TypesFault.{TypesFault}
use Rattle.td_types.specs.declared.fault.TypesFault.TheVariants.{User as Raises, Full, Memory}
use Rattle.td_types.specs.declared.reply.TypesReply.{TypesReply}
use Rattle.td_types.specs.declared.reply.TypesReply.TheVariants as content
use Rattle.td_exceptions.specs.declared.exception.UserException.{UserException}
use Rattle.td_exceptions.specs.declared.exception.UserException.TheVariants as user
use Rattle.td_ops.specs.declared.outcome.Outcome.{Outcome}
use Rattle.td_ops.specs.declared.outcome.Outcome.TheVariants.{Done}
use Rattle.td_ops.specs.declared.outcome.Reply.{Reply}
use Rattle.td_ops.specs.declared.outcome.Reply.TheVariants as reply
use Rattle.td_register.specs.Causes.{Cause, refusal_outcome}
use Rattle.td_register.specs.Stores.{Store}
use Rattle.td_register.specs.declared.refusal.Refusal.{Refusal}
use Rattle.td_register.specs.declared.refusal.Refusal.TheVariants.{Raised, Limit}

abbrev pub reply_of : TypesReply → Reply
reply_of (content.Added incarnation) = reply.Incarnation (halves incarnation)
reply_of content.Removed = reply.Nothing
reply_of content.Masked = reply.Nothing
reply_of content.Unmasked = reply.Nothing
reply_of (content.Names names) = reply.Names names
reply_of (content.Described described) = reply.Typed described

abbrev pub exception_of : RepoFault → UserException
exception_of (fault.IllegalServiceType name) = user.IllegalServiceType name
exception_of (fault.UnknownServiceType name) = user.UnknownServiceType name
exception_of (fault.ServiceTypeExists name) = user.ServiceTypeExists name
exception_of (fault.IllegalPropertyName name) = user.IllegalPropertyName name
exception_of (fault.DuplicatePropertyName name) = user.DuplicatePropertyName name
exception_of (fault.DuplicateServiceTypeName name) = user.DuplicateServiceTypeName name
exception_of (fault.InterfaceTypeMismatch base_service base_if derived_service derived_if) =
    user.ReposInterfaceTypeMismatch base_service base_if derived_service derived_if
exception_of (fault.ValueTypeRedefinition type_1 definition_1 type_2
    definition_2) = user.ValueTypeRedefinition type_1 definition_1 type_2 definition_2
exception_of (fault.HasSubTypes the_type sub_type) = user.HasSubTypes the_type sub_type
exception_of (fault.AlreadyMasked name) = user.AlreadyMasked name
exception_of (fault.NotMasked name) = user.NotMasked name

-- Past a limit it is IMP_LIMIT. As they are defined, the repository's calls come to no lack of memory (law
-- `calls_never_run_out_of_memory` of td_types), so the last line is never met.
abbrev pub refusal_of : TypesFault → Refusal
refusal_of (Raises f) = Raised (exception_of f)
refusal_of Full = Limit
refusal_of Memory = Limit

-- why the repository refuses a change, if it does
abbrev pub types_cause : types.RepositoryResult → Cause
types_cause (Ok answer) = None
types_cause (Err f) = Some (refusal_of f)

-- the store with the repository behind it
abbrev pub with_types : Store → types.RepositoryResult → Store
with_types s (Ok answer) = record s { types = answer.1 }
with_types s (Err f) = s

-- The next incarnation. It stays far below 2^64, where it would stand still.
abbrev pub next_incarnation : ℕ → ℕ
next_incarnation last = min (last + 1) (2 ^ 64 - 1)

-- with what a type that is added is answered
abbrev pub added_reply : Store → Reply
added_reply s = reply.Incarnation (halves (next_incarnation s.types.last))

-- a look at the repository
abbrev pub outcome_of : types.RepositoryResult → Outcome
outcome_of (Ok answer) = Done (reply_of answer.0)
outcome_of (Err f) = refusal_outcome (refusal_of f)

-- ---- looks

-- the number that two halves give
abbrev pub number_of : IncarnationNumber → ℕ
number_of i = i.high * 2 ^ 32 + i.low

abbrev pub since : SpecifiedServiceTypes → Option ℕ
since listed.All = None
since (listed.Since i) = Some (number_of i)

unfoldable pub list_types : Store → SpecifiedServiceTypes → Outcome
list_types s which = outcome_of (types.list_types s.types (since which))

unfoldable pub describe_type : Store → List ℕ → Outcome
describe_type s name = outcome_of (types.describe_type s.types name)

unfoldable pub fully_describe_type : Store → List ℕ → Outcome
fully_describe_type s name = outcome_of (types.fully_describe_type s.types name)
