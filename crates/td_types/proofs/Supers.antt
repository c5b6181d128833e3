-- The supertypes of a new type, one by one.
use Rattle.std.proofs.Common.{◌≡◌, ℕ, ◌+◌, ◌<◌, Bool, true, false, cond, not, List, [], ◌∷◌, ◌++◌, length, drop, take}
use Rattle.std.proofs.Common.{get_or, map, reverse, refl, sym, ap, ◌∙◌, Option, None, Some, Result, Ok, Err, add-one}
use Rattle.std.proofs.Common.{◌||◌, Bor}
use Rattle.td_types.proofs.Equal.{bytes_eq-sym}
use Rattle.std.proofs.lemmas.List.{reverse-append, map-append}
use Rattle.std.proofs.Math.Seq.{take-suc}
use Rattle.std.specs.Option.{option_map}
use Rattle.std.specs.Str.{bytes_eq}
use Rattle.td_cdr.specs.Names.{word_name}
use Rattle.td_types.proofs.Found.{type_of_entry}
use Rattle.td_types.proofs.Rest.{rest}
use Rattle.td_types.specs.Adding.{base_fault, super_fault, supers_fault}
use Rattle.td_types.specs.Interfaces.{interface_conforms}
use Rattle.td_types.specs.Judged.{IsFirstFault, AreBases}
use Rattle.td_types.specs.Kept.{entry_type, repository}
use Rattle.td_types.specs.Repository.{Repository, InterfaceBases, is_among}
use Rattle.td_cdr.specs.Seen.{has_seen, HaveSeen}
use Rattle.td_types.specs.Sought.{entry_named, entry_or_unknown, find_entry, IsRefusedCall}
use Rattle.td_types.specs.declared.entry.TypeEntry.{TypeEntry}
use Rattle.td_types.specs.declared.fault.RepoFault.{RepoFault}
use Rattle.td_types.specs.declared.fault.RepoFault.TheVariants as fault
use Rattle.td_types.specs.declared.fault.TypesFault.{TypesFault}
use Rattle.td_types.specs.declared.fault.TypesFault.TheVariants.{User, Full, Memory}

-- ---- one supertype

refused_when : (r : Repository) (name if_name : List ℕ) (before : List (List ℕ)) (s : List ℕ) (f : RepoFault) (b : Bool)
    (found : Option TypeEntry)
    → cond b (entry_or_unknown found s) (Err (fault.IllegalServiceType s)) ≡ Err f
    → cond b (base_fault r name if_name before s (option_map entry_type found)) (Some (fault.IllegalServiceType s)) ≡ Some f
refused_when r name if_name before s f true (Some x) h = absurd (let bad : ⊥ = cc in bad)
refused_when r name if_name before s f true None h = let same : fault.UnknownServiceType s ≡ f = cc in ap Some same
refused_when r name if_name before s f false found h = let same : fault.IllegalServiceType s ≡ f = cc in ap Some same

pub super_refused : (es : List TypeEntry) (interfaces : InterfaceBases) (name if_name : List ℕ) (before : List (List ℕ))
    (s : List ℕ) (f : RepoFault)
    → find_entry es s ≡ Err f → super_fault (repository es interfaces 0) name if_name before s ≡ Some f
super_refused es interfaces name if_name before s f h =
    rw (type_of_entry es s) (refused_when (repository es interfaces 0) name if_name before s f (word_name s)
    (entry_named es s) h)

found_when : (r : Repository) (name if_name : List ℕ) (before : List (List ℕ)) (s : List ℕ) (e : TypeEntry) (b : Bool)
    (found : Option TypeEntry)
    → cond b (entry_or_unknown found s) (Err (fault.IllegalServiceType s)) ≡ Ok e
    → cond b (base_fault r name if_name before s (option_map entry_type found)) (Some (fault.IllegalServiceType s))
    ≡ base_fault r name if_name before s (Some (entry_type e))
found_when r name if_name before s e true (Some x) h =
    let same : x ≡ e = cc in ap (λ (y : TypeEntry). base_fault r name if_name before s (Some (entry_type y))) same
found_when r name if_name before s e true None h = absurd (let bad : ⊥ = cc in bad)
found_when r name if_name before s e false found h = absurd (let bad : ⊥ = cc in bad)

pub super_found : (es : List TypeEntry) (interfaces : InterfaceBases) (name if_name : List ℕ) (before : List (List ℕ))
    (s : List ℕ) (e : TypeEntry)
    → find_entry es s ≡ Ok e
    → super_fault (repository es interfaces 0) name if_name before s
    ≡ base_fault (repository es interfaces 0) name if_name before s (Some (entry_type e))
super_found es interfaces name if_name before s e h =
    rw (type_of_entry es s) (found_when (repository es interfaces 0) name if_name before s e (word_name s)
    (entry_named es s) h)

met_twice : (among : Bool) (conforms : Bool) (second mismatch : RepoFault) → among ≡ true
    → cond among (Some second) (cond conforms None (Some mismatch)) ≡ Some second
met_twice among conforms second mismatch h = rw h refl

pub super_twice : (es : List TypeEntry) (interfaces : InterfaceBases) (name if_name : List ℕ) (before : List (List ℕ))
    (s : List ℕ) (e : TypeEntry)
    → find_entry es s ≡ Ok e → is_among s before ≡ true
    → super_fault (repository es interfaces 0) name if_name before s ≡ Some (fault.DuplicateServiceTypeName s)
super_twice es interfaces name if_name before s e h twice =
    super_found es interfaces name if_name before s e h
    ∙ met_twice (is_among s before) (interface_conforms interfaces if_name e.service_type.if_name)
    (fault.DuplicateServiceTypeName s) (fault.InterfaceTypeMismatch s e.service_type.if_name name if_name) twice

met_once : (among : Bool) (conforms : Bool) (second mismatch : RepoFault) → among ≡ false → conforms ≡ false
    → cond among (Some second) (cond conforms None (Some mismatch)) ≡ Some mismatch
met_once among conforms second mismatch h bad = rw (h, bad) refl

pub super_mismatch : (es : List TypeEntry) (interfaces : InterfaceBases) (name if_name : List ℕ) (before : List (List ℕ))
    (s : List ℕ) (e : TypeEntry)
    → find_entry es s ≡ Ok e → is_among s before ≡ false
    → interface_conforms interfaces if_name e.service_type.if_name ≡ false
    → super_fault (repository es interfaces 0) name if_name before s
    ≡ Some (fault.InterfaceTypeMismatch s e.service_type.if_name name if_name)
super_mismatch es interfaces name if_name before s e h first bad =
    super_found es interfaces name if_name before s e h
    ∙ met_once (is_among s before) (interface_conforms interfaces if_name e.service_type.if_name)
    (fault.DuplicateServiceTypeName s) (fault.InterfaceTypeMismatch s e.service_type.if_name name if_name) first bad

is_fine : (among : Bool) (conforms : Bool) (second mismatch : RepoFault) → among ≡ false → conforms ≡ true
    → cond among (Some second) (cond conforms None (Some mismatch)) ≡ None
is_fine among conforms second mismatch h good = rw (h, good) refl

pub super_fine : (es : List TypeEntry) (interfaces : InterfaceBases) (name if_name : List ℕ) (before : List (List ℕ)) (s : List ℕ)
    (e : TypeEntry)
    → find_entry es s ≡ Ok e → is_among s before ≡ false
    → interface_conforms interfaces if_name e.service_type.if_name ≡ true
    → super_fault (repository es interfaces 0) name if_name before s ≡ None
super_fine es interfaces name if_name before s e h first good =
    super_found es interfaces name if_name before s e h
    ∙ is_fine (is_among s before) (interface_conforms interfaces if_name e.service_type.if_name)
    (fault.DuplicateServiceTypeName s) (fault.InterfaceTypeMismatch s e.service_type.if_name name if_name) first
    good

-- ---- in a loop

abbrev met : List (List ℕ) → ℕ → List (List ℕ)
met supers i = reverse (take i supers)

one_more : (supers : List (List ℕ)) (i : ℕ) (s : List ℕ) → i < length supers → s ≡ get_or supers i s
    → met supers (i + 1) ≡ s ∷ met supers i
one_more supers i s lt is = rw (add-one, take-suc supers i s lt, ← is, reverse-append) refl

pub stops : (r : Repository) (name if_name : List ℕ) (supers : List (List ℕ)) (i : ℕ) (s : List ℕ) (f : RepoFault)
    (total : Option RepoFault)
    → i < length supers → s ≡ get_or supers i s → super_fault r name if_name (met supers i) s ≡ Some f
    → supers_fault r name if_name (met supers i) (drop i supers) ≡ total → total ≡ Some f
stops r name if_name supers i s f total lt is h so_far =
    let one : supers_fault r name if_name (met supers i) (drop i supers) ≡ Some f =
    rw (rest supers i s lt is, h) refl in
    sym so_far ∙ one

pub goes_on : (r : Repository) (name if_name : List ℕ) (supers : List (List ℕ)) (i : ℕ) (s : List ℕ)
    (total : Option RepoFault)
    → i < length supers → s ≡ get_or supers i s → super_fault r name if_name (met supers i) s ≡ None
    → supers_fault r name if_name (met supers i) (drop i supers) ≡ total
    → supers_fault r name if_name (met supers (i + 1)) (drop (i + 1) supers) ≡ total
goes_on r name if_name supers i s total lt is h so_far =
    let one : supers_fault r name if_name (met supers i) (drop i supers)
    ≡ supers_fault r name if_name (met supers (i + 1)) (drop (i + 1) supers) =
    rw (rest supers i s lt is, h, one_more supers i s lt is) refl in
    sym one ∙ so_far

pub sees : (seen new : List (List ℕ)) (supers : List (List ℕ)) (i : ℕ) (s : List ℕ) → i < length supers
    → s ≡ get_or supers i s → HaveSeen seen (met supers i)
    → ((other : List ℕ) → has_seen new other ≡ (bytes_eq s other || has_seen seen other))
    → HaveSeen new (met supers (i + 1))
sees seen new supers i s lt is h added other =
    rw (one_more supers i s lt is) (added other ∙ (rw (h other, bytes_eq-sym s other) refl))

-- ---- the entries found

pub AreBases-snoc : (es : List TypeEntry) (ss : List (List ℕ)) (bs : List TypeEntry) (s : List ℕ) (b : TypeEntry)
    → AreBases es ss bs → entry_named es s ≡ Some b → AreBases es (ss ++ s ∷ []) (bs ++ b ∷ [])
AreBases-snoc es [] [] s b h e = (e, tt)
AreBases-snoc es [] (x ∷ bs) s b h e = absurd h
AreBases-snoc es (x ∷ ss) [] s b h e = absurd h
AreBases-snoc es (x ∷ ss) (y ∷ bs) s b h e = (h.0, AreBases-snoc es ss bs s b h.1 e)

pub finds : (es : List TypeEntry) (supers : List (List ℕ)) (i : ℕ) (s : List ℕ) (bases new : List (Bor TypeEntry))
    (b : Bor TypeEntry)
    → i < length supers → s ≡ get_or supers i s → entry_named es s ≡ Some b.now
    → AreBases es (take i supers) (map (λ (x : Bor TypeEntry). x.now) bases) → new ≡ bases ++ b ∷ []
    → AreBases es (take (i + 1) supers) (map (λ (x : Bor TypeEntry). x.now) new)
finds es supers i s bases new b lt is e h new_is =
    rw (add-one, take-suc supers i s lt, ← is, new_is, map-append)
    (AreBases-snoc es (take i supers) (map (λ (x : Bor TypeEntry). x.now) bases) s b.now h e)

-- ---- answers

pub refuses : {X : Type 0} (given : X → Type 0) (total : Option RepoFault) (comes : Result TypeEntry RepoFault)
    (t : TypesFault)
    → ((f : RepoFault) → comes ≡ Err f → total ≡ Some f) → IsRefusedCall comes t → IsFirstFault total given (Err t)
refuses given total comes (User f) content h = content f h
refuses given total comes Full content h = absurd h
refuses given total comes Memory content h = tt

pub met_before : (fresh has among : Bool) → fresh ≡ not has → has ≡ among → fresh ≡ false → among ≡ true
met_before true has among e same h = absurd (let bad : ⊥ = cc in bad)
met_before false true among e same h = sym same
met_before false false among e same h = absurd (let bad : ⊥ = cc in bad)

pub met_first : (fresh has among : Bool) → fresh ≡ not has → has ≡ among → fresh ≡ true → among ≡ false
met_first false has among e same h = absurd (let bad : ⊥ = cc in bad)
met_first true false among e same h = sym same
met_first true true among e same h = absurd (let bad : ⊥ = cc in bad)
