-- What the calls of the repository come to (interface CosTradingRepos::ServiceTypeRepository).
use Rattle.std.specs.Prelude.{◌≡◌, ℕ, nat_le, Bool, true, false, not, ◌&&◌, if◌then◌else◌, List, [], map, filter, find}
use Rattle.std.specs.Prelude.{Option, None, Some, Result, Ok, Err, IsErr}
use Rattle.td_cdr.specs.Names.{word_name}
use Rattle.td_value.specs.declared.structures.PropStruct.{PropStruct}
use Rattle.td_types.specs.Adding.{new_type, with_type, or_else, name_fault, property_fault, supers_fault, redefinition}
use Rattle.td_types.specs.Adding.{definitions, inherited_definitions, passes_limit}
use Rattle.td_types.specs.Conforming.{conforms}
use Rattle.td_types.specs.Descriptions.{description, full_description}
use Rattle.td_types.specs.Repository.{Repository, ServiceType, type_named, is_named}
use Rattle.td_types.specs.declared.fault.RepoFault.{RepoFault}
use Rattle.td_types.specs.declared.fault.RepoFault.TheVariants as fault
use Rattle.td_types.specs.declared.fault.TypesFault.{TypesFault}
use Rattle.td_types.specs.declared.fault.TypesFault.TheVariants.{User, Full, Memory}
use Rattle.td_types.specs.declared.reply.TypesReply.{TypesReply}
use Rattle.td_types.specs.declared.reply.TypesReply.TheVariants as reply

-- a reply with the repository behind it, or a refusal, which leaves the repository as it was
abbrev pub RepositoryResult : Type 0
RepositoryResult = Result (TypesReply × Repository) TypesFault

abbrev pub refuse : RepoFault → RepositoryResult
refuse f = Err (User f)

-- refused for this cause if there is one
abbrev pub unless : Option RepoFault → RepositoryResult → RepositoryResult
unless None comes = comes
unless (Some f) comes = refuse f

-- ---- adding

abbrev pub add_fault : Repository → (name if_name : List ℕ) → List PropStruct → List (List ℕ)
    → Option RepoFault
add_fault r name if_name props supers =
    or_else (name_fault r name)
    (or_else (property_fault [] props)
    (or_else (supers_fault r name if_name [] supers)
    (redefinition (definitions name true props) (inherited_definitions r supers))))

unfoldable pub add_type : Repository → (name if_name : List ℕ) → List PropStruct → List (List ℕ)
    → RepositoryResult
add_type r name if_name props supers =
    let t = new_type r name if_name props supers in
    unless (add_fault r name if_name props supers)
    (if passes_limit (with_type r t) t then Err Full else Ok
    (reply.Added t.incarnation, with_type r t))

-- ---- a type by its name

abbrev pub act_on : Option ServiceType → List ℕ → (ServiceType → RepositoryResult)
    → RepositoryResult
act_on None name act = refuse (fault.UnknownServiceType name)
act_on (Some t) name act = act t

-- what is done with the type of that name
abbrev pub on_type : Repository → List ℕ → (ServiceType → RepositoryResult) → RepositoryResult
on_type r name act =
    if word_name name then act_on (type_named r.types name) name act else refuse
    (fault.IllegalServiceType name)

unfoldable pub describe_type : Repository → List ℕ → RepositoryResult
describe_type r name = on_type r name λ t. Ok (reply.Described (description t), r)

unfoldable pub fully_describe_type : Repository → List ℕ → RepositoryResult
fully_describe_type r name = on_type r name
    λ t. Ok (reply.Described (full_description r.types t), r)

-- ---- removing and masking

abbrev pub without : Repository → List ℕ → Repository
without r name = record r { types = filter (λ t. not (is_named name t)) r.types }

-- another type that conforms to this one; the types stand in the order of their incarnations
abbrev pub sub_type : Repository → List ℕ → Option ServiceType
sub_type r name = find (λ t. not (is_named name t) && conforms r.types t.name name) r.types

abbrev pub remove_unless : Repository → ServiceType → Option ServiceType → RepositoryResult
remove_unless r t None = Ok (reply.Removed, without r t.name)
remove_unless r t (Some sub) = refuse (fault.HasSubTypes t.name sub.name)

unfoldable pub remove_type : Repository → List ℕ → RepositoryResult
remove_type r name = on_type r name λ t. remove_unless r t (sub_type r name)

abbrev pub set_mask : Repository → List ℕ → Bool → Repository
set_mask r name masked = record r {
  types = map (λ t. if is_named name t then record t { masked = masked } else t) r.types;
}

unfoldable pub mask_type : Repository → List ℕ → RepositoryResult
mask_type r name =
    on_type r name λ t. if t.masked then refuse (fault.AlreadyMasked name) else Ok
    (reply.Masked, set_mask r name true)

unfoldable pub unmask_type : Repository → List ℕ → RepositoryResult
unmask_type r name =
    on_type r name λ t. if t.masked then Ok (reply.Unmasked, set_mask r name false) else refuse
    (fault.NotMasked name)

-- ---- listing

-- all types, or those of this incarnation or a later one
abbrev pub is_listed : Option ℕ → ServiceType → Bool
is_listed None t = true
is_listed (Some since) t = nat_le since t.incarnation

unfoldable pub list_types : Repository → Option ℕ → RepositoryResult
list_types r since = Ok (reply.Names (map (λ t. t.name) (filter (is_listed since) r.types)), r)

-- ---- clauses

-- The call is answered as it is said, and the repository is then as it is said; or memory ran out, and nothing
-- changed.
abbrev pub AnswersRepositoryCall : RepositoryResult → (old new : Repository)
    → Result TypesReply TypesFault → Type 0
AnswersRepositoryCall comes old new (Ok reply) = comes ≡ Ok (reply, new)
AnswersRepositoryCall comes old new (Err (User f)) = (comes ≡ refuse f) × (new ≡ old)
AnswersRepositoryCall comes old new (Err Full) = (comes ≡ Err Full) × (new ≡ old)
AnswersRepositoryCall comes old new (Err Memory) = new ≡ old

-- As above, and memory runs out for a refusal alone.
abbrev pub AnswersFreely : RepositoryResult → (old new : Repository) → Result TypesReply TypesFault
    → Type 0
AnswersFreely comes old new (Ok reply) = comes ≡ Ok (reply, new)
AnswersFreely comes old new (Err (User f)) = (comes ≡ refuse f) × (new ≡ old)
AnswersFreely comes old new (Err Full) = ⊥
AnswersFreely comes old new (Err Memory) = IsErr comes × (new ≡ old)
