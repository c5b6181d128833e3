-- The replies of the type repository.
use Rattle.std.proofs.Common.{◌≡◌, ℕ, ◌+◌, ◌≤◌, ◌^◌, Bool, true, false, List, Option, Some, None, Ok, Err, cond}
use Rattle.std.proofs.Common.{length, nat_lt, ltb-false, ◌||◌, refl, sym, ap}
use Rattle.td_cdr.specs.Names.{word_name}
use Rattle.td_cdr.specs.declared.order.Order.TheVariants.{Big}
use Rattle.td_types.specs.Adding.{last_incarnation, most_bytes, most_properties, most_types, new_type}
use Rattle.td_types.specs.Adding.{passes_limit, with_type}
use Rattle.td_types.specs.Descriptions.{full_description}
use Rattle.td_types.specs.Properties.{full_properties}
use Rattle.td_value.specs.Structures.{type_struct}
use Rattle.td_types.specs.Calls.{RepositoryResult, act_on, add_fault, add_type, on_type, mask_type, refuse, remove_type}
use Rattle.td_types.specs.Calls.{remove_unless, set_mask, sub_type, unless, unmask_type}
use Rattle.td_types.specs.Repository.{Repository, type_named}
use Rattle.td_types.specs.declared.entry.ServiceType.{ServiceType}
use Rattle.td_types.specs.declared.fault.RepoFault.{RepoFault}
use Rattle.td_types.specs.declared.fault.RepoFault.TheVariants as fault
use Rattle.td_types.specs.declared.fault.TypesFault.TheVariants.{Full}
use Rattle.td_types.specs.declared.reply.TypesReply.{TypesReply}
use Rattle.td_types.specs.declared.reply.TypesReply.TheVariants as content
use Rattle.td_value.specs.declared.structures.PropStruct.{PropStruct}

abbrev content_in : TypesReply → RepositoryResult → TypesReply
content_in r (Ok a) = a.0
content_in r (Err f) = r

-- ---- of a type by its name

known-if : (named : Bool) (t : Option ServiceType) (name : List ℕ) (act : ServiceType → RepositoryResult) (a : TypesReply ×
    Repository) (p : TypesReply) → ((x : ServiceType) → act x ≡ Ok a → a.0 ≡ p) →
    cond named (act_on t name act) (refuse (fault.IllegalServiceType name)) ≡ Ok a → a.0 ≡ p
known-if false t name act a p on h = absurd cc
known-if true None name act a p on h = absurd cc
known-if true (Some x) name act a p on h = on x h

pub known-content : (r : Repository) (name : List ℕ) (act : ServiceType → RepositoryResult) (a : TypesReply × Repository) (p :
    TypesReply) → ((x : ServiceType) → act x ≡ Ok a → a.0 ≡ p) → on_type r name act ≡ Ok a → a.0 ≡ p
known-content r name act a p on h = known-if (word_name name) (type_named r.types name) name act a p on h

removed-if : (r : Repository) (t : ServiceType) (sub : Option ServiceType) (a : TypesReply × Repository) →
    remove_unless r t sub ≡ Ok a → a.0 ≡ content.Removed
removed-if r t None a h = sym (ap (content_in content.Removed) h)
removed-if r t (Some x) a h = absurd cc

pub removed-content : (r : Repository) (name : List ℕ) (a : TypesReply × Repository) → remove_type r name ≡ Ok a →
    a.0 ≡ content.Removed
unfolding remove_type
removed-content r name a h =
    known-content r name (λ t. remove_unless r t (sub_type r name)) a content.Removed (λ t e. removed-if r t (sub_type r
    name) a e) h

masked-if : (r : Repository) (name : List ℕ) (masked : Bool) (a : TypesReply × Repository) →
    cond masked (refuse (fault.AlreadyMasked name)) (Ok (content.Masked, set_mask r name true)) ≡ Ok a →
    a.0 ≡ content.Masked
masked-if r name true a h = absurd cc
masked-if r name false a h = sym (ap (content_in content.Masked) h)

pub masked-content : (r : Repository) (name : List ℕ) (a : TypesReply × Repository) → mask_type r name ≡ Ok a →
    a.0 ≡ content.Masked
unfolding mask_type
masked-content r name a h =
    known-content r name (λ t. cond t.masked (refuse (fault.AlreadyMasked name)) (Ok (
      content.Masked,
      set_mask r name
          true,
    ))) a content.Masked (λ t e. masked-if r name t.masked a e) h

unmasked-if : (r : Repository) (name : List ℕ) (masked : Bool) (a : TypesReply × Repository) →
    cond masked (Ok (content.Unmasked, set_mask r name false)) (refuse (fault.NotMasked name)) ≡ Ok a →
    a.0 ≡ content.Unmasked
unmasked-if r name false a h = absurd cc
unmasked-if r name true a h = sym (ap (content_in content.Unmasked) h)

pub unmasked-content : (r : Repository) (name : List ℕ) (a : TypesReply × Repository) → unmask_type r name ≡ Ok a →
    a.0 ≡ content.Unmasked
unfolding unmask_type
unmasked-content r name a h =
    known-content r name (λ t. cond t.masked (Ok (content.Unmasked, set_mask r name false)) (refuse (fault.NotMasked
    name))) a content.Unmasked (λ t e. unmasked-if r name t.masked a e) h

-- ---- a type that is added

-- a type was added with this incarnation, far below 2^64
pub record IsAdded (r : Repository) (a : TypesReply × Repository) : Type 0 where
  pub reply : a.0 ≡ content.Added (r.last + 1)
  pub below : r.last + 1 ≤ 2 ^ 40

narrow : (after : Repository) (n : ℕ) (wide long : Bool) (a : TypesReply × Repository) →
    cond (wide || long) (Err Full) (Ok (content.Added n, after)) ≡ Ok a → a.0 ≡ content.Added n
narrow after n true long a h = absurd cc
narrow after n false true a h = absurd cc
narrow after n false false a h = sym (ap (content_in (content.Added n)) h)

below-last : (after : Repository) (n most : ℕ) (above wide long : Bool) (a : TypesReply × Repository) →
    nat_lt most n ≡ above → cond ((above || wide) || long) (Err Full) (Ok (content.Added n, after)) ≡ Ok a →
    (a.0 ≡ content.Added n) × (n ≤ most)
below-last after n most true wide long a e h = absurd cc
below-last after n most false wide long a e h = (narrow after n wide long a h, ltb-false most n e)

added-within : (after : Repository) (n most : ℕ) (many wide long : Bool) (a : TypesReply × Repository) →
    cond (((many || nat_lt most n) || wide) || long) (Err Full) (Ok (content.Added n, after)) ≡ Ok a →
    (a.0 ≡ content.Added n) × (n ≤ most)
added-within after n most true wide long a h = absurd cc
added-within after n most false wide long a h = below-last after n most (nat_lt most n) wide long a refl h

accepted-comes : (f : Option RepoFault) (comes : RepositoryResult) (a : TypesReply × Repository) → unless f comes ≡ Ok a →
    comes ≡ Ok a
accepted-comes None comes a h = h
accepted-comes (Some f) comes a h = absurd cc

pub added-content : (r : Repository) (name if_name : List ℕ) (props : List PropStruct) (supers : List (List ℕ)) (a :
    TypesReply × Repository) → add_type r name if_name props supers ≡ Ok a → IsAdded r a
unfolding add_type
added-content r name if_name props supers a h =
    let t : ServiceType = new_type r name if_name props supers in
    let after : Repository = with_type r t in
    let comes : RepositoryResult = cond (passes_limit after t) (Err Full) (Ok (content.Added t.incarnation, after)) in
    let both = added-within after (r.last + 1) last_incarnation (nat_lt most_types (length after.types)) (nat_lt
    most_properties (length (full_properties after.types name))) (nat_lt most_bytes (length
    (type_struct.format.writes (full_description after.types t) Big 0))) a (accepted-comes (add_fault r name if_name
    props supers) comes a h) in
    record { reply = both.0; below = both.1 }
