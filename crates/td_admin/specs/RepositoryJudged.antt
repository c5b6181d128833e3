-- What the functions behind a change of the type repository answer.
use Rattle.std.specs.Prelude.{◌≡◌, Result, Ok, Err}
use Rattle.td_ops.specs.declared.outcome.Reply.{Reply}
use Rattle.td_types.specs.declared.fault.TypesFault.{TypesFault}
use Rattle.td_types.specs.declared.fault.TypesFault.TheVariants as types
use Rattle.td_types.specs.declared.reply.TypesReply.{TypesReply}
use Rattle.td_types.specs.declared.reply.TypesReply.TheVariants as content
use Rattle.td_register.specs.declared.refusal.Fault.{Fault}
use Rattle.td_register.specs.declared.refusal.Fault.TheVariants.{Refused, Memory}
use Rattle.td_register.specs.declared.refusal.Refusal.TheVariants.{Limit}
use Rattle.td_admin.specs.Repositories.{reply_of, refusal_of}

-- the repository's answer, as a reply or a refusal
abbrev pub IsRepositoryAnswer : Result TypesReply TypesFault → Result Reply Fault → Type 0
IsRepositoryAnswer (Ok answer) result = result ≡ Ok (reply_of answer)
IsRepositoryAnswer (Err types.Memory) result = result ≡ Err Memory
IsRepositoryAnswer (Err f) result = result ≡ Err (Refused (refusal_of f))

-- the fault of this judgement, or IMP_LIMIT where it is accepted
abbrev pub IsFullFault : {X : Type 0} → Result X TypesFault → Fault → Type 0
IsFullFault (Ok x) f = f ≡ Refused Limit
IsFullFault (Err types.Memory) f = f ≡ Memory
IsFullFault (Err e) f = f ≡ Refused (refusal_of e)

-- it is no answer to a look
abbrev pub IsOfChange : Result TypesReply TypesFault → Type 0
IsOfChange (Ok (content.Added incarnation)) = Unit {0}
IsOfChange (Ok content.Removed) = Unit {0}
IsOfChange (Ok content.Masked) = Unit {0}
IsOfChange (Ok content.Unmasked) = Unit {0}
IsOfChange (Ok (content.Names names)) = ⊥
IsOfChange (Ok (content.Described described)) = ⊥
IsOfChange (Err f) = Unit {0}
