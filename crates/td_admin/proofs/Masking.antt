-- What no call on masks is refused for.
use Rattle.std.proofs.Common.{◌≡◌, Bool, true, false, cond, List, ℕ, Option, Some, None, Ok}
use Rattle.td_cdr.specs.Names.{word_name}
use Rattle.td_types.specs.Calls.{RepositoryResult, act_on, mask_type, refuse, set_mask, unmask_type}
use Rattle.td_types.specs.Repository.{Repository, type_named}
use Rattle.td_types.specs.declared.entry.ServiceType.{ServiceType}
use Rattle.td_types.specs.declared.fault.RepoFault.{RepoFault}
use Rattle.td_types.specs.declared.fault.RepoFault.TheVariants as fault
use Rattle.td_types.specs.declared.reply.TypesReply.TheVariants as content

never_if : (masked : Bool) (a b : RepositoryResult) (f : RepoFault) → (a ≡ refuse f → ⊥) → (b ≡ refuse f → ⊥) →
    cond masked a b ≡ refuse f → ⊥
never_if true a b f not_a not_b h = not_a h
never_if false a b f not_a not_b h = not_b h

never_on : (named : Bool) (found : Option ServiceType) (name : List ℕ) (act : ServiceType → RepositoryResult) (f : RepoFault) →
    ((t : ServiceType) → act t ≡ refuse f → ⊥) → (refuse (fault.UnknownServiceType name) ≡ refuse f → ⊥) →
    (refuse (fault.IllegalServiceType name) ≡ refuse f → ⊥) →
    cond named (act_on found name act) (refuse (fault.IllegalServiceType name)) ≡ refuse f → ⊥
never_on true (Some t) name act f not_act not_unknown not_illegal h = not_act t h
never_on true None name act f not_act not_unknown not_illegal h = not_unknown h
never_on false found name act f not_act not_unknown not_illegal h = not_illegal h

module _ (r : Repository) (name : List ℕ) where
  abbrev masking : ServiceType → RepositoryResult
  masking t = cond t.masked (refuse (fault.AlreadyMasked name)) (Ok (content.Masked, set_mask r name true))

  abbrev unmasking : ServiceType → RepositoryResult
  unmasking t = cond t.masked (Ok (content.Unmasked, set_mask r name false)) (refuse (fault.NotMasked name))

  pub mask_not_sub_types : (sub : List ℕ) → mask_type r name ≡ refuse (fault.HasSubTypes name sub) → ⊥
  unfolding mask_type
  mask_not_sub_types sub h =
      never_on (word_name name) (type_named r.types name) name masking (fault.HasSubTypes name sub)
      (λ t e. never_if t.masked (refuse (fault.AlreadyMasked name)) (Ok (content.Masked, set_mask r name true))
      (fault.HasSubTypes name sub) (λ k. cc) (λ k. cc) e)
      (λ k. cc) (λ k. cc) h

  pub mask_not_not_masked : mask_type r name ≡ refuse (fault.NotMasked name) → ⊥
  unfolding mask_type
  mask_not_not_masked h =
      never_on (word_name name) (type_named r.types name) name masking (fault.NotMasked name)
      (λ t e. never_if t.masked (refuse (fault.AlreadyMasked name)) (Ok (content.Masked, set_mask r name true))
      (fault.NotMasked name) (λ k. cc) (λ k. cc) e)
      (λ k. cc) (λ k. cc) h

  pub unmask_not_sub_types : (sub : List ℕ) → unmask_type r name ≡ refuse (fault.HasSubTypes name sub) → ⊥
  unfolding unmask_type
  unmask_not_sub_types sub h =
      never_on (word_name name) (type_named r.types name) name unmasking (fault.HasSubTypes name sub)
      (λ t e. never_if t.masked (Ok (content.Unmasked, set_mask r name false)) (refuse (fault.NotMasked name))
      (fault.HasSubTypes name sub) (λ k. cc) (λ k. cc) e)
      (λ k. cc) (λ k. cc) h

  pub unmask_not_already_masked : unmask_type r name ≡ refuse (fault.AlreadyMasked name) → ⊥
  unfolding unmask_type
  unmask_not_already_masked h =
      never_on (word_name name) (type_named r.types name) name unmasking (fault.AlreadyMasked name)
      (λ t e. never_if t.masked (Ok (content.Unmasked, set_mask r name false)) (refuse (fault.NotMasked name))
      (fault.AlreadyMasked name) (λ k. cc) (λ k. cc) e)
      (λ k. cc) (λ k. cc) h
