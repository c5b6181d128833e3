-- As they are defined, the calls of the repository come to an answer, an exception or the limit.
use Rattle.std.proofs.Common.{◌≡◌, ℕ, Bool, true, false, cond, List, Option, None, Some, Ok, Err, subst}
use Rattle.td_cdr.specs.Names.{word_name}
use Rattle.td_value.specs.declared.structures.PropStruct.{PropStruct}
use Rattle.td_types.specs.Adding.{new_type, with_type, passes_limit}
use Rattle.td_types.specs.Calls.{RepositoryResult, refuse, unless, act_on, on_type, add_fault, add_type, remove_unless}
use Rattle.td_types.specs.Calls.{sub_type}
use Rattle.td_types.specs.Calls.{set_mask, remove_type, mask_type, unmask_type, list_types, describe_type}
use Rattle.td_types.specs.Calls.{fully_describe_type}
use Rattle.td_types.specs.Repository.{Repository, ServiceType, type_named}
use Rattle.td_types.specs.declared.fault.RepoFault.{RepoFault}
use Rattle.td_types.specs.declared.fault.RepoFault.TheVariants as fault
use Rattle.td_types.specs.declared.fault.TypesFault.TheVariants.{User, Full, Memory}
use Rattle.td_types.specs.declared.reply.TypesReply.TheVariants as reply

abbrev IsAnswered : RepositoryResult → Type 0
IsAnswered (Ok answer) = Unit {0}
IsAnswered (Err (User f)) = Unit {0}
IsAnswered (Err Full) = Unit {0}
IsAnswered (Err Memory) = ⊥

never : (comes : RepositoryResult) → IsAnswered comes → comes ≡ Err Memory → ⊥
never comes h e = subst IsAnswered e h

when : (b : Bool) (x y : RepositoryResult) → IsAnswered x → IsAnswered y → IsAnswered (cond b x y)
when true x y h k = h
when false x y h k = k

unless-answered : (o : Option RepoFault) (comes : RepositoryResult) → IsAnswered comes → IsAnswered (unless o comes)
unless-answered None comes h = h
unless-answered (Some f) comes h = tt

act-answered : (o : Option ServiceType) (name : List ℕ) (act : ServiceType → RepositoryResult)
    → ((t : ServiceType) → IsAnswered (act t)) → IsAnswered (act_on o name act)
act-answered None name act h = tt
act-answered (Some t) name act h = h t

known-answered : (r : Repository) (name : List ℕ) (act : ServiceType → RepositoryResult)
    → ((t : ServiceType) → IsAnswered (act t)) → IsAnswered (on_type r name act)
known-answered r name act h =
    when (word_name name) (act_on (type_named r.types name) name act) (refuse (fault.IllegalServiceType name))
    (act-answered (type_named r.types name) name act h) tt

pub adding-answered : (r : Repository) (name if_name : List ℕ) (props : List PropStruct) (supers : List (List ℕ))
    → add_type r name if_name props supers ≡ Err Memory → ⊥
unfolding add_type
adding-answered r name if_name props supers =
    let t = new_type r name if_name props supers in
    let comes : RepositoryResult = cond (passes_limit (with_type r t) t) (Err Full)
    (Ok (reply.Added t.incarnation, with_type r t)) in
    never (unless (add_fault r name if_name props supers) comes)
    (unless-answered (add_fault r name if_name props supers) comes
    (when (passes_limit (with_type r t) t) (Err Full) (Ok (reply.Added t.incarnation, with_type r t)) tt tt))

removes : (r : Repository) (t : ServiceType) (o : Option ServiceType) → IsAnswered (remove_unless r t o)
removes r t None = tt
removes r t (Some sub) = tt

pub removing-answered : (r : Repository) (name : List ℕ) → remove_type r name ≡ Err Memory → ⊥
unfolding remove_type
removing-answered r name =
    never (on_type r name (λ t. remove_unless r t (sub_type r name)))
    (known-answered r name (λ t. remove_unless r t (sub_type r name)) (λ t. removes r t (sub_type r name)))

pub masking-answered : (r : Repository) (name : List ℕ) → mask_type r name ≡ Err Memory → ⊥
unfolding mask_type
masking-answered r name =
    let act : ServiceType → RepositoryResult =
    λ t. cond t.masked (refuse (fault.AlreadyMasked name)) (Ok (reply.Masked, set_mask r name true)) in
    never (on_type r name act)
    (known-answered r name act
    (λ t. when t.masked (refuse (fault.AlreadyMasked name)) (Ok (reply.Masked, set_mask r name true)) tt tt))

pub unmasking-answered : (r : Repository) (name : List ℕ) → unmask_type r name ≡ Err Memory → ⊥
unfolding unmask_type
unmasking-answered r name =
    let act : ServiceType → RepositoryResult =
    λ t. cond t.masked (Ok (reply.Unmasked, set_mask r name false)) (refuse (fault.NotMasked name)) in
    never (on_type r name act)
    (known-answered r name act
    (λ t. when t.masked (Ok (reply.Unmasked, set_mask r name false)) (refuse (fault.NotMasked name)) tt tt))

pub describing-answered : (r : Repository) (name : List ℕ) → describe_type r name ≡ Err Memory → ⊥
unfolding describe_type
describing-answered r name = never (describe_type r name) (known-answered r name _ (λ t. tt))

pub fully_describing-answered : (r : Repository) (name : List ℕ) → fully_describe_type r name ≡ Err Memory → ⊥
unfolding fully_describe_type
fully_describing-answered r name = never (fully_describe_type r name) (known-answered r name _ (λ t. tt))

pub listing-answered : (r : Repository) (since : Option ℕ) → list_types r since ≡ Err Memory → ⊥
unfolding list_types
listing-answered r since = never (list_types r since) tt
