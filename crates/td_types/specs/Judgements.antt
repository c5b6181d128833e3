-- Whether a call on one type is accepted (interface CosTradingRepos::ServiceTypeRepository, add_type, remove_type,
-- mask_type and unmask_type).
use Rattle.std.specs.Prelude.{◌≡◌, ℕ, List, IsOk, IsErr, Result, Ok, Err}
use Rattle.td_types.specs.Calls.{RepositoryResult, refuse}
use Rattle.td_types.specs.declared.fault.RepoFault.TheVariants as fault
use Rattle.td_types.specs.declared.fault.TypesFault.{TypesFault}
use Rattle.td_types.specs.declared.fault.TypesFault.TheVariants.{User, Full, Memory}
use Rattle.td_types.specs.declared.judgement.Judgement.{Judgement}
use Rattle.td_types.specs.declared.judgement.Judgement.TheVariants.{Accepted, IllegalServiceType, UnknownServiceType}
use Rattle.td_types.specs.declared.judgement.Judgement.TheVariants.{HasSubTypes, AlreadyMasked, NotMasked}

-- what a call on the type of this name comes to is judged right
abbrev pub IsJudged : RepositoryResult → (name : List ℕ) → Judgement → Type 0
IsJudged comes name Accepted = IsOk comes
IsJudged comes name IllegalServiceType = comes ≡ refuse (fault.IllegalServiceType name)
IsJudged comes name UnknownServiceType = comes ≡ refuse (fault.UnknownServiceType name)
IsJudged comes name (HasSubTypes sub) = comes ≡ refuse (fault.HasSubTypes name sub.now)
IsJudged comes name AlreadyMasked = comes ≡ refuse (fault.AlreadyMasked name)
IsJudged comes name NotMasked = comes ≡ refuse (fault.NotMasked name)

-- the call is refused so, or memory ran out, as it may for a refusal alone
abbrev pub IsRefusal : RepositoryResult → TypesFault → Type 0
IsRefusal comes (User f) = comes ≡ refuse f
IsRefusal comes Full = ⊥
IsRefusal comes Memory = IsErr comes

-- the call is accepted, or refused so; or memory ran out, which says nothing
abbrev pub Foretells : {X : Type 0} → RepositoryResult → Result X TypesFault → Type 0
Foretells comes (Ok x) = IsOk comes
Foretells comes (Err (User f)) = comes ≡ refuse f
Foretells comes (Err Full) = comes ≡ Err Full
Foretells comes (Err Memory) = Unit {0}
