-- The two types of a generated trader are added.
use Rattle.std.proofs.Common.{◌≡◌, ℕ, Bool, false, if◌then◌else◌, List, [], ◌∷◌, codes, Option, None, Ok, Err}
use Rattle.std.proofs.Common.{refl, ap, ◌∙◌}
use Rattle.std.proofs.lemmas.Bool.{le-ltb}
use Rattle.td_admin.specs.Repositories.{types_cause, with_types}
use Rattle.td_changes.specs.Applying.{acceptance, comes_to}
use Rattle.td_make_file_laws.proofs.AtMost.{root-short, sub-short}
use Rattle.td_make_file_laws.proofs.Going.{Becomes}
use Rattle.td_make_laws.specs.Said.{cost_demanded}
use Rattle.td_ops.specs.declared.call.Change.TheVariants.{AddType}
use Rattle.td_register.specs.Causes.{ChangeResult as StoreComes, unless as unless_cause}
use Rattle.td_register.specs.Stores.{Store}
use Rattle.td_types.specs.Adding.{new_type, passes_limit, with_type}
use Rattle.td_types.specs.Calls.{RepositoryResult, add_fault, add_type, unless}
use Rattle.td_types.specs.Conforming.{ancestors}
use Rattle.td_types.specs.Interfaces.{interface_conforms}
use Rattle.td_types.specs.Properties.{full_properties}
use Rattle.td_types.specs.Repository.{Repository, halves}
use Rattle.td_types.specs.declared.entry.ServiceType.{ServiceType}
use Rattle.td_types.specs.declared.fault.RepoFault.{RepoFault}
use Rattle.td_types.specs.declared.fault.TypesFault.TheVariants.{Full}
use Rattle.td_types.specs.declared.reply.TypesReply.TheVariants as content
use Rattle.td_value.specs.declared.enumerations.PropertyMode.TheVariants.{Mandatory}
use Rattle.td_value.specs.declared.structures.PropStruct.{PropStruct}

-- a type that nothing is at fault with, and that passes no limit
added : (r : Repository) (name if_name : List ℕ) (props : List PropStruct) (supers : List (List ℕ))
    → add_fault r name if_name props supers ≡ None
    → passes_limit (with_type r (new_type r name if_name props supers)) (new_type r name if_name props supers) ≡ false
    → add_type r name if_name props supers
    ≡ Ok (
      content.Added (new_type r name if_name props supers).incarnation,
      with_type r (new_type r name if_name props supers),
    )
unfolding add_type
added r name if_name props supers none within =
    let t : ServiceType = new_type r name if_name props supers in
    let after : RepositoryResult = Ok (content.Added t.incarnation, with_type r t) in
    ap (λ (f : Option RepoFault). unless f (if passes_limit (with_type r t) t then Err Full else after)) none
    ∙ ap (λ (b : Bool). if b then Err Full else after) within

-- so the store's repository has one type more
store-added : (s : Store) (r : Repository) (name if_name : List ℕ) (props : List PropStruct) (supers : List (List ℕ))
    → s.types ≡ r
    → add_fault r name if_name props supers ≡ None
    → passes_limit (with_type r (new_type r name if_name props supers)) (new_type r name if_name props supers) ≡ false
    → Becomes s (AddType name if_name props supers)
    (record s { types = with_type r (new_type r name if_name props supers) })
unfolding comes_to
store-added s r name if_name props supers e none within = record {
  reply = acceptance s (AddType name if_name props supers);
  is =
      ap (λ (x : Repository). adds (add_type x name if_name props supers)) e
      ∙ ap (λ (c : RepositoryResult). adds c) (added r name if_name props supers none within);
}
  where
    adds : RepositoryResult → StoreComes
    adds c = unless_cause (types_cause c) (acceptance s (AddType name if_name props supers)) (with_types s c)

-- ---- Base and Sub

abbrev pub no_types : Repository
no_types = record { types = []; interfaces = []; last = 0 }

abbrev base : ServiceType
base = record {
  name = codes "Base";
  if_name = [];
  props = cost_demanded ∷ [];
  supers = [];
  masked = false;
  incarnation = 1;
}

abbrev sub : ServiceType
sub = record {
  name = codes "Sub";
  if_name = [];
  props = [];
  supers = codes "Base" ∷ [];
  masked = false;
  incarnation = 2;
}

abbrev pub base_alone : Repository
base_alone = record { types = base ∷ []; interfaces = []; last = 1 }

abbrev pub both_types : Repository
both_types = record { types = base ∷ sub ∷ []; interfaces = []; last = 2 }

base-free : add_fault no_types (codes "Base") [] (cost_demanded ∷ []) [] ≡ None
base-free = refl

base-within : passes_limit base_alone base ≡ false
unfolding full_properties ancestors
base-within = le-ltb 1048576 _ (root-short Mandatory false (halves 1))

pub base-added : (s : Store) → s.types ≡ no_types
    → Becomes s (AddType (codes "Base") [] (cost_demanded ∷ []) []) (record s { types = base_alone })
base-added s e = store-added s no_types (codes "Base") [] (cost_demanded ∷ []) [] e base-free base-within

sub-free : add_fault base_alone (codes "Sub") [] [] (codes "Base" ∷ []) ≡ None
unfolding full_properties interface_conforms
sub-free = refl

sub-within : passes_limit both_types sub ≡ false
unfolding full_properties ancestors
sub-within = le-ltb 1048576 _ (sub-short Mandatory false (halves 2))

pub sub-added : (s : Store) → s.types ≡ base_alone
    → Becomes s (AddType (codes "Sub") [] [] (codes "Base" ∷ [])) (record s { types = both_types })
sub-added s e = store-added s base_alone (codes "Sub") [] [] (codes "Base" ∷ []) e sub-free sub-within
