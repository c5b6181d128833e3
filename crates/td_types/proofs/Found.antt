-- An entry that is looked for, and what is done with its type.
use Rattle.std.proofs.Common.{◌≡◌, ℕ, Bool, true, false, List, [], ◌∷◌, refl, sym, ap, ◌∙◌, Ok, Err, Option, None, Some}
use Rattle.std.proofs.Common.{map, cond, subst}
use Rattle.std.specs.List.{AllByRecursion}
use Rattle.std.specs.Option.{option_map}
use Rattle.td_cdr.specs.Names.{word_name}
use Rattle.td_value.specs.declared.structures.TypeStruct.{TypeStruct}
use Rattle.td_types.specs.Calls.{RepositoryResult, refuse, on_type, act_on, AnswersRepositoryCall, describe_type}
use Rattle.td_types.specs.Calls.{fully_describe_type}
use Rattle.td_types.specs.Descriptions.{description, full_description}
use Rattle.td_types.specs.Kept.{entry_type, repository, IsValidEntry, AreEntries, kept_description}
use Rattle.td_types.specs.Repository.{Repository, InterfaceBases, ServiceType, is_named, type_named}
use Rattle.td_types.specs.Sought.{entry_named, entry_or_unknown, find_entry, IsRefusedCall}
use Rattle.td_types.specs.declared.entry.TypeEntry.{TypeEntry}
use Rattle.td_types.specs.declared.fault.RepoFault.{RepoFault}
use Rattle.td_types.specs.declared.fault.RepoFault.TheVariants as fault
use Rattle.td_types.specs.declared.fault.TypesFault.{TypesFault}
use Rattle.td_types.specs.declared.fault.TypesFault.TheVariants.{User, Full, Memory}
use Rattle.td_types.specs.declared.reply.TypesReply.TheVariants as reply

first_type : (e : TypeEntry) (b : Bool) (type : Option ServiceType) (entry : Option TypeEntry) → type ≡ option_map entry_type entry
    → cond b (Some (entry_type e)) type ≡ option_map entry_type (cond b (Some e) entry)
first_type e true type entry h = refl
first_type e false type entry h = h

-- the type of a name is that of the entry of the name
pub type_of_entry : (es : List TypeEntry) (name : List ℕ)
    → type_named (map entry_type es) name ≡ option_map entry_type (entry_named es name)
type_of_entry [] name = refl
type_of_entry (e ∷ es) name = first_type e (is_named name (entry_type e)) _ _ (type_of_entry es name)

first_found : (P : TypeEntry → Type 0) (x e : TypeEntry) (b : Bool) (later : Option TypeEntry) → P x → (later ≡ Some e → P e)
    → cond b (Some x) later ≡ Some e → P e
first_found P x e true later here there h = let same : x ≡ e = cc in subst P same here
first_found P x e false later here there h = there h

-- what holds of each entry holds of the one that is found
pub of_found : (P : TypeEntry → Type 0) (es : List TypeEntry) (name : List ℕ) (e : TypeEntry) → AllByRecursion P es
    → entry_named es name ≡ Some e → P e
of_found P [] name e all h = absurd (let bad : ⊥ = cc in bad)
of_found P (x ∷ es) name e all h =
    first_found P x e (is_named name (entry_type x)) (entry_named es name) all.0 (of_found P es name e all.1) h

-- ---- what is done with the type of a name

known_when : (r : Repository) (es : List TypeEntry) (name : List ℕ) (e : TypeEntry) (act : ServiceType → RepositoryResult) (b : Bool)
    (found : Option TypeEntry)
    → (cond b (entry_or_unknown found name) (Err (fault.IllegalServiceType name))) ≡ Ok e
    → cond b (act_on (option_map entry_type found) name act) (refuse (fault.IllegalServiceType name)) ≡ act (entry_type e)
known_when r es name e act true (Some x) h = let same : x ≡ e = cc in ap (λ (y : TypeEntry). act (entry_type y)) same
known_when r es name e act true None h = absurd (let bad : ⊥ = cc in bad)
known_when r es name e act false found h = absurd (let bad : ⊥ = cc in bad)

pub known_found : (es : List TypeEntry) (interfaces : InterfaceBases) (last : ℕ) (name : List ℕ) (e : TypeEntry)
    (act : ServiceType → RepositoryResult)
    → find_entry es name ≡ Ok e → on_type (repository es interfaces last) name act ≡ act (entry_type e)
known_found es interfaces last name e act h =
    rw (type_of_entry es name)
    (known_when (repository es interfaces last) es name e act (word_name name) (entry_named es name) h)

refused_when : (name : List ℕ) (f : RepoFault) (act : ServiceType → RepositoryResult) (b : Bool) (found : Option TypeEntry) →
    (cond b (entry_or_unknown found name) (Err (fault.IllegalServiceType name))) ≡ Err f
    → cond b (act_on (option_map entry_type found) name act) (refuse (fault.IllegalServiceType name)) ≡ refuse f
refused_when name f act true (Some x) h = absurd (let bad : ⊥ = cc in bad)
refused_when name f act true None h = let same : fault.UnknownServiceType name ≡ f = cc in ap refuse same
refused_when name f act false found h = let same : fault.IllegalServiceType name ≡ f = cc in ap refuse same

pub known_refused : (es : List TypeEntry) (interfaces : InterfaceBases) (last : ℕ) (name : List ℕ) (f : RepoFault)
    (act : ServiceType → RepositoryResult)
    → find_entry es name ≡ Err f → on_type (repository es interfaces last) name act ≡ refuse f
known_refused es interfaces last name f act h =
    rw (type_of_entry es name) (refused_when name f act (word_name name) (entry_named es name) h)

-- the answer to a name that is refused
pub refused : (es : List TypeEntry) (interfaces : InterfaceBases) (last : ℕ) (name : List ℕ) (act : ServiceType → RepositoryResult)
    (r : Repository) (t : TypesFault)
    → IsRefusedCall (find_entry es name) t → AnswersRepositoryCall (on_type (repository es interfaces last) name act) r r (Err t)
refused es interfaces last name act r (User f) h = (known_refused es interfaces last name f act h, refl)
refused es interfaces last name act r Full h = absurd h
refused es interfaces last name act r Memory h = refl

-- ---- descriptions

found_in : (name : List ℕ) (e : TypeEntry) (b : Bool) (found : Option TypeEntry)
    → cond b (entry_or_unknown found name) (Err (fault.IllegalServiceType name)) ≡ Ok e → found ≡ Some e
found_in name e true (Some x) h = let same : x ≡ e = cc in ap Some same
found_in name e true None h = absurd (let bad : ⊥ = cc in bad)
found_in name e false found h = absurd (let bad : ⊥ = cc in bad)

pub found_named : (es : List TypeEntry) (name : List ℕ) (e : TypeEntry) → find_entry es name ≡ Ok e → entry_named es name ≡ Some e
found_named es name e h = found_in name e (word_name name) (entry_named es name) h

full_as_kept : (types : List ServiceType) (e : TypeEntry) → IsValidEntry types e
    → full_description types (entry_type e) ≡ kept_description e
full_as_kept types e k = rw (← k.full, ← k.ancestors) refl

pub described_as_kept : (es : List TypeEntry) (interfaces : InterfaceBases) (last : ℕ) (name : List ℕ) (e : TypeEntry)
    → AreEntries es interfaces last → find_entry es name ≡ Ok e
    → full_description (map entry_type es) (entry_type e) ≡ kept_description e
described_as_kept es interfaces last name e valid h =
    full_as_kept (map entry_type es) e (of_found (IsValidEntry (map entry_type es)) es name e valid.kept (found_named es name e h))

pub described : (es : List TypeEntry) (interfaces : InterfaceBases) (last : ℕ) (name : List ℕ) (e : TypeEntry) (d : TypeStruct)
    → find_entry es name ≡ Ok e → d ≡ description (entry_type e)
    → describe_type (repository es interfaces last) name ≡ Ok (reply.Described d, repository es interfaces last)
unfolding describe_type
described es interfaces last name e d h is =
    known_found es interfaces last name e (λ t. Ok (reply.Described (description t), repository es interfaces last)) h
    ∙ ap (λ (x : TypeStruct). Ok (reply.Described x, repository es interfaces last)) (sym is)

pub fully_described : (es : List TypeEntry) (interfaces : InterfaceBases) (last : ℕ) (name : List ℕ) (e : TypeEntry) (d : TypeStruct)
    → AreEntries es interfaces last → find_entry es name ≡ Ok e → d ≡ kept_description e
    → fully_describe_type (repository es interfaces last) name ≡ Ok (reply.Described d, repository es interfaces last)
unfolding fully_describe_type
fully_described es interfaces last name e d valid h is =
    known_found es interfaces last name e
    (λ t. Ok (reply.Described (full_description (map entry_type es) t), repository es interfaces last)) h
    ∙ ap (λ (x : TypeStruct). Ok (reply.Described x, repository es interfaces last))
    (described_as_kept es interfaces last name e valid h ∙ sym is)

module _ (es : List TypeEntry) (interfaces : InterfaceBases) (last : ℕ) (name : List ℕ) (t : TypesFault)
    (h : IsRefusedCall (find_entry es name) t) where
  pub describe_refused : AnswersRepositoryCall (describe_type (repository es interfaces last) name) (repository es interfaces last)
      (repository es interfaces last) (Err t)
  unfolding describe_type
  describe_refused =
      refused es interfaces last name (λ t. Ok (reply.Described (description t), repository es interfaces last))
      (repository es interfaces last) t h

  pub fully_describe_refused : AnswersRepositoryCall (fully_describe_type (repository es interfaces last) name)
      (repository es interfaces last) (repository es interfaces last) (Err t)
  unfolding fully_describe_type
  fully_describe_refused =
      refused es interfaces last name
      (λ t. Ok (reply.Described (full_description (map entry_type es) t), repository es interfaces last))
      (repository es interfaces last) t h
