-- What a client is told of an answer.
use Rattle.std.specs.Prelude.{ℕ}
use Rattle.td_iter.specs.Heads.{nil}
use Rattle.td_name_ops.specs.declared.outcome.NameOutcome.{NameOutcome}
use Rattle.td_name_ops.specs.declared.outcome.NameOutcome.TheVariants as outcome
use Rattle.td_name_ops.specs.declared.outcome.NameResult.{NameResult}
use Rattle.td_name_ops.specs.declared.outcome.NameResult.TheVariants as result
use Rattle.td_names.specs.declared.act.NameAnswer.{NameAnswer}
use Rattle.td_names.specs.declared.act.NameAnswer.TheVariants.{Done, User, System}
use Rattle.td_names.specs.declared.act.NameRefusal.{NameRefusal}
use Rattle.td_names.specs.declared.act.NameRefusal.TheVariants as refusal
use Rattle.td_names.specs.declared.act.NameReply.{NameReply}
use Rattle.td_names.specs.declared.act.NameReply.TheVariants as reply
use Rattle.td_ops.specs.declared.outcome.SystemKind.{SystemKind}
use Rattle.td_ops.specs.declared.outcome.SystemKind.TheVariants as kind

-- a system exception of a call that wasn't done: its completion is COMPLETED_NO
abbrev pub refusal_outcome : SystemKind → (minor : ℕ) → NameOutcome
refusal_outcome k minor = outcome.System k minor 1

-- one whose minor code is 0
abbrev pub system : SystemKind → NameOutcome
system k = refusal_outcome k 0

abbrev pub no_memory : NameOutcome
no_memory = system kind.NoMemory

abbrev pub refusal_kind : NameRefusal → SystemKind
refusal_kind refusal.ImpLimit = kind.ImpLimit
refusal_kind refusal.NoImplement = kind.NoImplement
refusal_kind refusal.ObjectNotExist = kind.ObjectNotExist

-- all bindings of a listing, of which a batch is told
abbrev pub result_of : NameReply → NameResult
result_of reply.Nothing = result.Nothing
result_of (reply.Object object) = result.Object object
result_of (reply.Bindings bindings) = result.List bindings nil

abbrev pub outcome_of : NameAnswer → NameOutcome
outcome_of (Done r) = outcome.Done (result_of r)
outcome_of (User e) = outcome.User e
outcome_of (System r) = system (refusal_kind r)
