-- A type that is added: what it has by its supertypes, and what the others keep.
use Rattle.std.proofs.Common.{◌≡◌, ℕ, ◌+◌, ◌≤◌, Bool, true, false, ◌||◌, cond, not, List, [], ◌∷◌, ◌++◌, map, flat_map}
use Rattle.std.proofs.Common.{reverse, refl, sym, ap, ◌∙◌, Option, None, Some, Ok, Err, subst, arith}
use Rattle.std.proofs.lemmas.List.{reverse-append, map-append}
use Rattle.std.proofs.lemmas.List.Elements.{All-nil, All-cons}
use Rattle.std.proofs.lemmas.List.Folds.{list_any-append}
use Rattle.std.specs.Bool.{IsTrue}
use Rattle.std.specs.List.{list_any, All, AllByRecursion}
use Rattle.std.specs.Option.{is_some}
use Rattle.std.specs.Str.{bytes_eq}
use Rattle.td_cdr.specs.Names.{word_name}
use Rattle.td_value.specs.declared.structures.PropStruct.{PropStruct}
use Rattle.td_types.proofs.Equal.{bytes_same, bytes_refl, bytes_eq-sym}
use Rattle.td_types.proofs.Gathered.{once-append}
use Rattle.td_types.proofs.Named.{is_found}
use Rattle.td_types.specs.Adding.{or_else, super_fault, supers_fault, name_fault, property_fault, redefinition}
use Rattle.td_types.specs.Adding.{definitions, inherited_definitions, new_type, with_type, passes_limit}
use Rattle.td_types.specs.Calls.{add_fault, add_type, refuse}
use Rattle.td_types.specs.Conforming.{walk, once, add_once, ancestors}
use Rattle.td_types.specs.Judged.{AreBases, inherited_properties, inherited_from, names_above}
use Rattle.td_types.specs.Kept.{entry_type, repository, IsValidEntry}
use Rattle.td_types.specs.Properties.{full, full_properties, with_inherited}
use Rattle.td_types.specs.Repository.{Repository, ServiceType, InterfaceBases, IsWellFounded, IsRepository, has_type}
use Rattle.td_types.specs.Repository.{is_named}
use Rattle.td_types.specs.Repository.{is_among, top}
use Rattle.td_types.specs.Sought.{entry_named}
use Rattle.td_types.specs.declared.entry.TypeEntry.{TypeEntry}
use Rattle.td_types.specs.declared.fault.RepoFault.{RepoFault}
use Rattle.td_types.specs.declared.fault.TypesFault.TheVariants.{Full}
use Rattle.td_types.specs.declared.reply.TypesReply.TheVariants as reply

-- ---- the youngest type

pub youngest : (types : List ServiceType) (t : ServiceType) → reverse (types ++ t ∷ []) ≡ t ∷ reverse types
youngest types t = reverse-append types (t ∷ [])

pub ancestors_of_new : (types : List ServiceType) (t : ServiceType)
    → ancestors (types ++ t ∷ []) t.name ≡ once [] (flat_map (λ s. s ∷ walk (reverse types) s) t.supers)
unfolding ancestors
ancestors_of_new types t = rw (youngest types t, bytes_refl t.name) refl

pub full_of_new : (types : List ServiceType) (t : ServiceType)
    → full_properties (types ++ t ∷ []) t.name ≡ with_inherited t.props (flat_map (full (reverse types)) t.supers)
unfolding full_properties
full_of_new types t = rw (youngest types t, bytes_refl t.name) refl

pub ancestors_of_other : (types : List ServiceType) (t : ServiceType) (name : List ℕ) → bytes_eq t.name name ≡ false
    → ancestors (types ++ t ∷ []) name ≡ ancestors types name
unfolding ancestors
ancestors_of_other types t name h = rw (youngest types t, h) refl

pub full_of_other : (types : List ServiceType) (t : ServiceType) (name : List ℕ) → bytes_eq t.name name ≡ false
    → full_properties (types ++ t ∷ []) name ≡ full_properties types name
unfolding full_properties
full_of_other types t name h = rw (youngest types t, h) refl

-- ---- by the supertypes' entries

found_name : (e x : TypeEntry) (b : Bool) (later : Option TypeEntry) (s : List ℕ) → (b ≡ true → x.service_type.name ≡ s)
    → (later ≡ Some e → e.service_type.name ≡ s) → cond b (Some x) later ≡ Some e → e.service_type.name ≡ s
found_name e x true later s here there h =
    let same : x ≡ e = cc in ap (λ (y : TypeEntry). y.service_type.name) (sym same) ∙ here refl
found_name e x false later s here there h = there h

-- the entry of a name has that name
pub name_of_found : (es : List TypeEntry) (s : List ℕ) (e : TypeEntry) → entry_named es s ≡ Some e → e.service_type.name ≡ s
name_of_found [] s e h = absurd (let bad : ⊥ = cc in bad)
name_of_found (x ∷ es) s e h =
    found_name e x (bytes_eq x.service_type.name s) (entry_named es s) s (bytes_same x.service_type.name s)
    (name_of_found es s e) h

first_of : (P : TypeEntry → Type 0) (x e : TypeEntry) (b : Bool) (later : Option TypeEntry) → P x → (later ≡ Some e → P e)
    → cond b (Some x) later ≡ Some e → P e
first_of P x e true later here there h = let same : x ≡ e = cc in subst P same here
first_of P x e false later here there h = there h

pub kept_found : (P : TypeEntry → Type 0) (es : List TypeEntry) (s : List ℕ) (e : TypeEntry) → AllByRecursion P es
    → entry_named es s ≡ Some e → P e
kept_found P [] s e all h = absurd (let bad : ⊥ = cc in bad)
kept_found P (x ∷ es) s e all h =
    first_of P x e (bytes_eq x.service_type.name s) (entry_named es s) all.0 (kept_found P es s e all.1) h

full_found : (types : List ServiceType) (s : List ℕ) (e : TypeEntry) → IsValidEntry types e → e.service_type.name ≡ s
    → full (reverse types) s ≡ e.full
unfolding full_properties
full_found types s e k same = rw (← same) (sym k.full)

-- their full properties
pub inherited_are : (es all : List TypeEntry) (supers : List (List ℕ)) (bs : List TypeEntry)
    → AllByRecursion (IsValidEntry (map entry_type all)) es → AreBases es supers bs
    → flat_map (full (reverse (map entry_type all))) supers ≡ inherited_properties bs
inherited_are es all [] [] k h = refl
inherited_are es all [] (b ∷ bs) k h = absurd h
inherited_are es all (s ∷ ss) [] k h = absurd h
inherited_are es all (s ∷ ss) (b ∷ bs) k h =
    rw (
      full_found (map entry_type all) s b (kept_found (IsValidEntry (map entry_type all)) es s b k h.0) (name_of_found es s b h.0),
      inherited_are es all ss bs k h.1,
    )
    refl

definitions_found : (types : List ServiceType) (s : List ℕ) (e : TypeEntry) → IsValidEntry types e → e.service_type.name ≡ s
    → definitions s false (full_properties types s) ≡ definitions e.service_type.name false e.full
definitions_found types s e k same = rw (← same, ← k.full) refl

-- their definitions
pub definitions_are : (es all : List TypeEntry) (interfaces : InterfaceBases) (last : ℕ) (supers : List (List ℕ))
    (bs : List TypeEntry)
    → AllByRecursion (IsValidEntry (map entry_type all)) es → AreBases es supers bs
    → inherited_definitions (repository all interfaces last) supers ≡ inherited_from bs
definitions_are es all interfaces last [] [] k h = refl
definitions_are es all interfaces last [] (b ∷ bs) k h = absurd h
definitions_are es all interfaces last (s ∷ ss) [] k h = absurd h
definitions_are es all interfaces last (s ∷ ss) (b ∷ bs) k h =
    rw (
      definitions_found (map entry_type all) s b (kept_found (IsValidEntry (map entry_type all)) es s b k h.0)
          (name_of_found es s b h.0),
      definitions_are es all interfaces last ss bs k h.1,
    )
    refl

-- ---- names once

any_more : (p : List ℕ → Bool) (xs ys : List (List ℕ)) → list_any p xs ≡ true → list_any p (xs ++ ys) ≡ true
any_more p xs ys h = list_any-append p xs ys ∙ (rw h refl)

more_when : (b : Bool) (p : List ℕ → Bool) (met : List (List ℕ)) (x : List ℕ) → list_any p met ≡ true
    → list_any p (cond b met (met ++ x ∷ [])) ≡ true
more_when true p met x h = h
more_when false p met x h = any_more p met (x ∷ []) h

among_more : (met : List (List ℕ)) (x name : List ℕ) → is_among name met ≡ true → is_among name (add_once met x) ≡ true
among_more met x name h = more_when (is_among x met) (bytes_eq name) met x h

among_once : (met xs : List (List ℕ)) (name : List ℕ) → is_among name met ≡ true → is_among name (once met xs) ≡ true
among_once met [] name h = h
among_once met (x ∷ xs) name h = among_once (add_once met x) xs name (among_more met x name h)

or_true : (b : Bool) → (b || true) ≡ true
or_true true = refl
or_true false = refl

last_among : (p : List ℕ → Bool) (met : List (List ℕ)) (x : List ℕ) → p x ≡ true → list_any p (met ++ x ∷ []) ≡ true
last_among p met x h = list_any-append p met (x ∷ []) ∙ (rw h (or_true (list_any p met)))

added_when : (b : Bool) (met : List (List ℕ)) (x name : List ℕ) → bytes_eq name x ≡ true
    → (b ≡ true → is_among name met ≡ true) → is_among name (cond b met (met ++ x ∷ [])) ≡ true
added_when true met x name e h = h refl
added_when false met x name e h = last_among (bytes_eq name) met x e

added_among : (met : List (List ℕ)) (x name : List ℕ) → bytes_eq name x ≡ true → is_among name (add_once met x) ≡ true
added_among met x name e =
    added_when (is_among x met) met x name e (λ h. ap (λ (n : List ℕ). is_among n met) (bytes_same name x e) ∙ h)

either_among : (b c : Bool) (met xs : List (List ℕ)) (x name : List ℕ) → bytes_eq name x ≡ b → is_among name xs ≡ c
    → (b || c) ≡ true → ((met' : List (List ℕ)) → is_among name xs ≡ true → is_among name (once met' xs) ≡ true)
    → is_among name (once (add_once met x) xs) ≡ true
either_among true c met xs x name p q h k = among_once (add_once met x) xs name (added_among met x name p)
either_among false true met xs x name p q h k = k (add_once met x) q
either_among false false met xs x name p q h k = absurd (let bad : ⊥ = cc in bad)

-- what is among names is among them each once
among_of : (met xs : List (List ℕ)) (name : List ℕ) → is_among name xs ≡ true → is_among name (once met xs) ≡ true
among_of met [] name h = absurd (let bad : ⊥ = cc in bad)
among_of met (x ∷ xs) name h =
    either_among (bytes_eq name x) (is_among name xs) met xs x name refl refl h (λ met'. among_of met' xs name)

nothing_new : (met : List (List ℕ)) (x : List ℕ) → is_among x met ≡ true → met ≡ add_once met x
nothing_new met x h = rw h refl

one_when : (b : Bool) (met before : List (List ℕ)) (x : List ℕ) → (b ≡ true → is_among x before ≡ true)
    → once met (cond b before (before ++ x ∷ [])) ≡ add_once (once met before) x
one_when true met before x h = nothing_new (once met before) x (among_of met before x (h refl))
one_when false met before x h = once-append met before (x ∷ [])

-- names once, after others: as the names themselves
pub absorbs : (met before xs : List (List ℕ)) → once met (once before xs) ≡ once (once met before) xs
absorbs met before [] = refl
absorbs met before (x ∷ xs) =
    absorbs met (add_once before x) xs
    ∙ ap (λ (ns : List (List ℕ)). once ns xs) (one_when (is_among x before) met before x (λ h. h))

walk_found : (types : List ServiceType) (s : List ℕ) (e : TypeEntry) → IsValidEntry types e → e.service_type.name ≡ s
    → once [] (walk (reverse types) s) ≡ e.ancestors
unfolding ancestors
walk_found types s e k same = rw (← same) (sym k.ancestors)

above_step : (met rest_a rest_b walked kept_names : List (List ℕ)) (s name : List ℕ) → name ≡ s
    → once [] walked ≡ kept_names → ((m : List (List ℕ)) → once m rest_a ≡ once m rest_b)
    → once met ((s ∷ walked) ++ rest_a) ≡ once met ((name ∷ kept_names) ++ rest_b)
above_step met rest_a rest_b walked kept_names s name same k h =
    rw (
      same,
      ← k,
      once-append (add_once met s) walked rest_a,
      once-append (add_once met s) (once [] walked) rest_b,
      absorbs (add_once met s) [] walked,
    )
    (h (once (add_once met s) walked))

pub above_are : (es all : List TypeEntry) (supers : List (List ℕ)) (bs : List TypeEntry) (met : List (List ℕ))
    → AllByRecursion (IsValidEntry (map entry_type all)) es → AreBases es supers bs
    → once met (flat_map (λ s. s ∷ walk (reverse (map entry_type all)) s) supers) ≡ once met (names_above bs)
above_are es all [] [] met k h = refl
above_are es all [] (b ∷ bs) met k h = absurd h
above_are es all (s ∷ ss) [] met k h = absurd h
above_are es all (s ∷ ss) (b ∷ bs) met k h =
    above_step met (flat_map (λ s. s ∷ walk (reverse (map entry_type all)) s) ss) (names_above bs)
    (walk (reverse (map entry_type all)) s) b.ancestors s b.service_type.name (name_of_found es s b h.0)
    (walk_found (map entry_type all) s b (kept_found (IsValidEntry (map entry_type all)) es s b k h.0) (name_of_found es s b h.0))
    (λ m. above_are es all ss bs m k h.1)

-- ---- what the others keep

none_left : (a b : Bool) → (a || b) ≡ false → (a ≡ false) × (b ≡ false)
none_left true b h = absurd (let bad : ⊥ = cc in bad)
none_left false b h = (refl, h)

stays_kept : (types : List ServiceType) (t : ServiceType) (e : TypeEntry) → bytes_eq e.service_type.name t.name ≡ false
    → IsValidEntry types e → IsValidEntry (types ++ t ∷ []) e
stays_kept types t e h k =
    let other : bytes_eq t.name e.service_type.name ≡ false = bytes_eq-sym t.name e.service_type.name ∙ h in
    record {
      ancestors = k.ancestors ∙ sym (ancestors_of_other types t e.service_type.name other);
      full = k.full ∙ sym (full_of_other types t e.service_type.name other);
    }

pub stay_kept : (types : List ServiceType) (t : ServiceType) (es : List TypeEntry) → has_type (map entry_type es) t.name ≡ false
    → AllByRecursion (IsValidEntry types) es → AllByRecursion (IsValidEntry (types ++ t ∷ [])) es
stay_kept types t [] h k = tt
stay_kept types t (e ∷ es) h k =
    let none = none_left (bytes_eq e.service_type.name t.name) (has_type (map entry_type es) t.name) h in
    (stays_kept types t e none.0 k.0, stay_kept types t es none.1 k.1)

pub All-snoc : (P : TypeEntry → Type 0) (es : List TypeEntry) (e : TypeEntry) → AllByRecursion P es → P e
    → AllByRecursion P (es ++ e ∷ [])
All-snoc P [] e k h = (h, tt)
All-snoc P (x ∷ es) e k h = (k.0, All-snoc P es e k.1 h)

-- ---- the repository with the new type

turned : (a b : Bool) → (a || (b || false)) ≡ (b || a)
turned true true = refl
turned true false = refl
turned false true = refl
turned false false = refl

any_last : {X : Type 0} (p : X → Bool) (xs : List X) → list_any p (reverse xs) ≡ list_any p xs
any_last p [] = refl
any_last p (x ∷ xs) =
    ap (list_any p) (reverse-append (x ∷ []) xs)
    ∙ (list_any-append p (reverse xs) (x ∷ []) ∙ (rw (any_last p xs) (turned (list_any p xs) (p x))))

some_found : (es : List TypeEntry) (s : List ℕ) (b : TypeEntry) → entry_named es s ≡ Some b → has_type (map entry_type es) s ≡ true
some_found es s b h = is_found es s ∙ ap (λ (o : Option TypeEntry). is_some o) h

supers_known : (es : List TypeEntry) (supers : List (List ℕ)) (bs : List TypeEntry) → AreBases es supers bs
    → All (λ s. IsTrue (has_type (reverse (map entry_type es)) s)) supers
supers_known es [] [] h = All-nil (λ (s : List ℕ). IsTrue (has_type (reverse (map entry_type es)) s))
supers_known es [] (b ∷ bs) h = absurd h
supers_known es (s ∷ ss) [] h = absurd h
supers_known es (s ∷ ss) (b ∷ bs) h =
    All-cons (λ (s : List ℕ). IsTrue (has_type (reverse (map entry_type es)) s)) s ss
    (any_last (is_named s) (map entry_type es) ∙ some_found es s b h.0) (supers_known es ss bs h.1)

with_new : (es : List TypeEntry) (e : TypeEntry) → reverse (map entry_type (es ++ e ∷ [])) ≡ entry_type e ∷ reverse (map entry_type es)
with_new es e = ap reverse (map-append entry_type es (e ∷ [])) ∙ youngest (map entry_type es) (entry_type e)

pub still_valid : (es : List TypeEntry) (interfaces : InterfaceBases) (last : ℕ) (e : TypeEntry) (bs : List TypeEntry)
    → IsRepository (repository es interfaces last) → has_type (map entry_type es) e.service_type.name ≡ false
    → AreBases es e.service_type.supers bs → e.service_type.incarnation ≡ last + 1
    → IsRepository (repository (es ++ e ∷ []) interfaces e.service_type.incarnation)
still_valid es interfaces last e bs v fresh h inc =
    let counted : top (reverse (map entry_type es)) ≤ last = v.counted in
    let founded : IsWellFounded (entry_type e ∷ reverse (map entry_type es)) =
    IsWellFounded.more (entry_type e) (reverse (map entry_type es)) (any_last (is_named e.service_type.name) (map entry_type es) ∙ fresh)
    (supers_known es e.service_type.supers bs h) (rw inc (omega (arith, counted))) v.founded in
    record { founded = rw (with_new es e) founded; counted = rw (with_new es e) (omega arith) }

-- ---- why it isn't added

supers_last : (es : List TypeEntry) (interfaces : InterfaceBases) (a b : ℕ) (name if_name : List ℕ) (before ss : List (List ℕ))
    → supers_fault (repository es interfaces a) name if_name before ss
    ≡ supers_fault (repository es interfaces b) name if_name before ss
supers_last es interfaces a b name if_name before [] = refl
supers_last es interfaces a b name if_name before (s ∷ ss) =
    ap (or_else (super_fault (repository es interfaces b) name if_name before s))
    (supers_last es interfaces a b name if_name (s ∷ before) ss)

-- the last incarnation plays no part in it
pub add_fault_last : (es : List TypeEntry) (interfaces : InterfaceBases) (a b : ℕ) (name if_name : List ℕ)
    (props : List PropStruct) (ss : List (List ℕ))
    → add_fault (repository es interfaces a) name if_name props ss
    ≡ add_fault (repository es interfaces b) name if_name props ss
add_fault_last es interfaces a b name if_name props ss =
    ap (λ (o : Option RepoFault).
    or_else (name_fault (repository es interfaces b) name)
    (or_else (property_fault [] props)
    (or_else o (redefinition (definitions name true props)
    (inherited_definitions (repository es interfaces b) ss)))))
    (supers_last es interfaces a b name if_name [] ss)

pub fails_fourth : (a b c d e : Option RepoFault) (f : RepoFault) → a ≡ None → b ≡ None → c ≡ None → d ≡ e → e ≡ Some f
    → or_else a (or_else b (or_else c d)) ≡ Some f
fails_fourth a b c d e f p q r same h = rw (p, q, r, same, h) refl

pub fails_not : (a b c d e : Option RepoFault) → a ≡ None → b ≡ None → c ≡ None → d ≡ e → e ≡ None
    → or_else a (or_else b (or_else c d)) ≡ None
fails_not a b c d e p q r same h = rw (p, q, r, same, h) refl

first_none : (a b : Option RepoFault) → or_else a b ≡ None → a ≡ None
first_none None b h = refl
first_none (Some x) b h = absurd (let bad : ⊥ = cc in bad)

name_free : (w h : Bool) (x y : RepoFault) → cond (not w) (Some x) (cond h (Some y) None) ≡ None → h ≡ false
name_free false h x y e = absurd (let bad : ⊥ = cc in bad)
name_free true true x y e = absurd (let bad : ⊥ = cc in bad)
name_free true false x y e = refl

pub is_fresh : (es : List TypeEntry) (interfaces : InterfaceBases) (name if_name : List ℕ) (props : List PropStruct)
    (ss : List (List ℕ))
    → add_fault (repository es interfaces 0) name if_name props ss ≡ None → has_type (map entry_type es) name ≡ false
is_fresh es interfaces name if_name props ss h =
    name_free (word_name name) (has_type (map entry_type es) name) _ _
    (first_none (name_fault (repository es interfaces 0) name) _ h)

-- ---- limits

pub limit_first : (a b c d : Bool) → a ≡ true → (a || b || c || d) ≡ true
limit_first a b c d h = rw h refl

pub limit_second : (a b c d : Bool) → b ≡ true → (a || b || c || d) ≡ true
limit_second true b c d h = refl
limit_second false b c d h = rw h refl

pub limit_third : (a b c d : Bool) → c ≡ true → (a || b || c || d) ≡ true
limit_third true b c d h = refl
limit_third false true c d h = refl
limit_third false false c d h = rw h refl

pub limit_fourth : (a b c d : Bool) → d ≡ true → (a || b || c || d) ≡ true
limit_fourth true b c d h = refl
limit_fourth false true c d h = refl
limit_fourth false false true d h = refl
limit_fourth false false false d h = h

pub limit_none : (a b c d : Bool) → a ≡ false → b ≡ false → c ≡ false → d ≡ false → (a || b || c || d) ≡ false
limit_none a b c d p q r s = rw (p, q, r, s) refl

-- ---- the answer

pub comes_refused : (r : Repository) (name if_name : List ℕ) (props : List PropStruct) (ss : List (List ℕ))
    (f : RepoFault)
    → add_fault r name if_name props ss ≡ Some f → add_type r name if_name props ss ≡ refuse f
unfolding add_type
comes_refused r name if_name props ss f h = rw h refl

pub comes_full : (r : Repository) (name if_name : List ℕ) (props : List PropStruct) (ss : List (List ℕ))
    → add_fault r name if_name props ss ≡ None
    → passes_limit (with_type r (new_type r name if_name props ss)) (new_type r name if_name props ss) ≡ true
    → add_type r name if_name props ss ≡ Err Full
unfolding add_type
comes_full r name if_name props ss h k = rw (h, k) refl

pub comes_added : (r : Repository) (name if_name : List ℕ) (props : List PropStruct) (ss : List (List ℕ))
    → add_fault r name if_name props ss ≡ None
    → passes_limit (with_type r (new_type r name if_name props ss)) (new_type r name if_name props ss) ≡ false
    → add_type r name if_name props ss ≡ Ok (reply.Added (r.last + 1), with_type r (new_type r name if_name props ss))
unfolding add_type
comes_added r name if_name props ss h k = rw (h, k) refl
