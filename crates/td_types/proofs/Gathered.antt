-- What a type has by its supertypes, gathered in order.
use Rattle.std.proofs.Common.{◌≡◌, ℕ, ◌+◌, ◌<◌, ◌≤◌, Bool, true, false, ◌||◌, cond, List, [], ◌∷◌, ◌++◌, length, drop}
use Rattle.std.proofs.Common.{get_or, map, refl, sym, ap, ◌∙◌, append_assoc, arith, length-append, Bor, Result, Err}
use Rattle.std.proofs.lemmas.List.{drop_all}
use Rattle.std.proofs.lemmas.List.Folds.{list_any-append}
use Rattle.std.specs.Str.{bytes_eq}
use Rattle.td_value.specs.declared.enumerations.PropertyMode.{PropertyMode}
use Rattle.td_value.specs.declared.enumerations.PropertyMode.TheVariants.{Normal, Readonly, Mandatory}
use Rattle.td_value.specs.declared.enumerations.PropertyMode.TheVariants.{MandatoryReadonly}
use Rattle.td_value.specs.declared.structures.PropStruct.{PropStruct}
use Rattle.td_types.proofs.Equal.{bytes_eq-sym}
use Rattle.td_types.proofs.Redefined.{entries_of}
use Rattle.td_types.proofs.Rest.{rest}
use Rattle.td_types.specs.Adding.{most_properties}
use Rattle.td_types.specs.Conforming.{once, add_once}
use Rattle.td_types.specs.Inheriting.{with_further, IsMoreBy, IsMore}
use Rattle.td_types.specs.Judged.{inherited_properties, names_above}
use Rattle.td_types.specs.Modes.{is_mandatory, is_readonly, mode_of, join}
use Rattle.td_types.specs.Properties.{has_property, is_called, joined_mode, newcomers, with_stronger_mode}
use Rattle.td_types.specs.Repository.{is_among}
use Rattle.td_cdr.specs.Seen.{has_seen, HaveSeen}
use Rattle.td_types.specs.declared.entry.TypeEntry.{TypeEntry}
use Rattle.td_types.specs.declared.fault.TypesFault.{TypesFault}
use Rattle.td_types.specs.declared.fault.TypesFault.TheVariants.{User, Full, Memory}

-- ---- modes

mandatory_of : (m r : Bool) → is_mandatory (mode_of m r) ≡ m
mandatory_of true true = refl
mandatory_of true false = refl
mandatory_of false true = refl
mandatory_of false false = refl

readonly_of : (m r : Bool) → is_readonly (mode_of m r) ≡ r
readonly_of true true = refl
readonly_of true false = refl
readonly_of false true = refl
readonly_of false false = refl

or_assoc : (a b c : Bool) → ((a || b) || c) ≡ (a || (b || c))
or_assoc true b c = refl
or_assoc false b c = refl

pub join_assoc : (a b c : PropertyMode) → join (join a b) c ≡ join a (join b c)
join_assoc a b c =
    rw (
      mandatory_of (is_mandatory a || is_mandatory b) (is_readonly a || is_readonly b),
      readonly_of (is_mandatory a || is_mandatory b) (is_readonly a || is_readonly b),
      mandatory_of (is_mandatory b || is_mandatory c) (is_readonly b || is_readonly c),
      readonly_of (is_mandatory b || is_mandatory c) (is_readonly b || is_readonly c),
      or_assoc (is_mandatory a) (is_mandatory b) (is_mandatory c),
      or_assoc (is_readonly a) (is_readonly b) (is_readonly c),
    ) refl

pub join_first : (a : PropertyMode) → join Normal a ≡ a
join_first Normal = refl
join_first Readonly = refl
join_first Mandatory = refl
join_first MandatoryReadonly = refl

pub join_last : (a : PropertyMode) → join a Normal ≡ a
join_last Normal = refl
join_last Readonly = refl
join_last Mandatory = refl
join_last MandatoryReadonly = refl

-- a mode that is called, or not, before the rest
joined_when : (b : Bool) (m p rest : PropertyMode)
    → join m (cond b (join p rest) rest) ≡ join (cond b (join m p) m) rest
joined_when true m p rest = sym (join_assoc m p rest)
joined_when false m p rest = refl

joined_head : (b : Bool) (p xs ys : PropertyMode)
    → cond b (join p (join xs ys)) (join xs ys) ≡ join (cond b (join p xs) xs) ys
joined_head true p xs ys = sym (join_assoc p xs ys)
joined_head false p xs ys = refl

pub joined-append : (xs ys : List PropStruct) (name : List ℕ)
    → joined_mode (xs ++ ys) name ≡ join (joined_mode xs name) (joined_mode ys name)
joined-append [] ys name = sym (join_first (joined_mode ys name))
joined-append (x ∷ xs) ys name =
    rw (joined-append xs ys name) (joined_head (is_called name x) x.mode (joined_mode xs name) (joined_mode ys name))

pub modes_on : (bases : List (Bor TypeEntry)) (i : ℕ) (b : Bor TypeEntry) (name : List ℕ) (m total : PropertyMode)
    → i < length bases → b ≡ get_or bases i b
    → join m (joined_mode (inherited_properties (entries_of (drop i bases))) name) ≡ total
    → join (join m (joined_mode b.now.full name)) (joined_mode (inherited_properties (entries_of (drop (i + 1) bases))) name)
    ≡ total
modes_on bases i b name m total lt is h =
    let one : join m (joined_mode (inherited_properties (entries_of (drop i bases))) name)
    ≡ join (join m (joined_mode b.now.full name))
    (joined_mode (inherited_properties (entries_of (drop (i + 1) bases))) name) =
    rw (rest bases i b lt is, joined-append b.now.full (inherited_properties (entries_of (drop (i + 1) bases))) name)
    (sym (join_assoc m (joined_mode b.now.full name)
    (joined_mode (inherited_properties (entries_of (drop (i + 1) bases))) name))) in
    sym one ∙ h

-- ---- newcomers

cond_both : {X : Type 0} (b c : Bool) (x y u v : X) → b ≡ c → x ≡ u → y ≡ v → cond b x y ≡ cond c u v
cond_both b c x y u v p q r = rw (p, q, r) refl

pub newcomers_same : (a b ps : List PropStruct) → ((name : List ℕ) → has_property a name ≡ has_property b name)
    → newcomers a ps ≡ newcomers b ps
newcomers_same a b [] h = refl
newcomers_same a b (p ∷ ps) h =
    cond_both (has_property a p.name) (has_property b p.name) (newcomers a ps) (p ∷ newcomers (p ∷ a) ps)
    (newcomers b ps) (p ∷ newcomers (p ∷ b) ps) (h p.name) (newcomers_same a b ps h)
    (ap (λ (qs : List PropStruct). p ∷ qs)
    (newcomers_same (p ∷ a) (p ∷ b) ps (λ name. ap (λ (x : Bool). is_called name p || x) (h name))))

turned : (a b : Bool) → (a || (b || false)) ≡ (b || a)
turned true true = refl
turned true false = refl
turned false true = refl
turned false false = refl

has_last : (own : List PropStruct) (p q : PropStruct) (name : List ℕ) → q.name ≡ p.name
    → has_property (own ++ q ∷ []) name ≡ has_property (p ∷ own) name
has_last own p q name e =
    list_any-append (is_called name) own (q ∷ []) ∙ (rw e (turned (has_property own name) (is_called name p)))

pub skipped : (inh own later : List PropStruct) (p : PropStruct) → has_property own p.name ≡ true
    → with_further inh own later ≡ with_further inh own (p ∷ later)
skipped inh own later p h = rw h refl

pub pushed : (inh own new later : List PropStruct) (p : PropStruct) → has_property own p.name ≡ false
    → new ≡ own ++ with_stronger_mode inh p ∷ [] → with_further inh new later ≡ with_further inh own (p ∷ later)
pushed inh own new later p h e =
    let same : newcomers (own ++ with_stronger_mode inh p ∷ []) later ≡ newcomers (p ∷ own) later =
    newcomers_same (own ++ with_stronger_mode inh p ∷ []) (p ∷ own) later
    (λ name. has_last own p (with_stronger_mode inh p) name refl) in
    rw (e, same, h) (append_assoc own (with_stronger_mode inh p ∷ []) (map (with_stronger_mode inh) (newcomers (p ∷ own) later)))

pub one_longer : (own new : List PropStruct) (p : PropStruct) → new ≡ own ++ p ∷ [] → length own < most_properties
    → length new ≤ most_properties
one_longer own new p e lt = rw (e, length-append) (omega (arith, lt))

-- ---- names met

pub once-append : (met xs ys : List (List ℕ)) → once met (xs ++ ys) ≡ once (once met xs) ys
once-append met [] ys = refl
once-append met (x ∷ xs) ys = once-append (add_once met x) xs ys

already : (b old new m : Bool) → new ≡ (b || old) → old ≡ m → (b ≡ true → old ≡ true) → new ≡ m
already true old new m e h k = e ∙ (sym (k refl) ∙ h)
already false old new m e h k = e ∙ h

pub met_anew : (seen new : List (List ℕ)) (met : List (List ℕ)) (name : List ℕ) → HaveSeen seen met
    → ((other : List ℕ) → has_seen new other ≡ (bytes_eq name other || has_seen seen other))
    → HaveSeen new (met ++ name ∷ [])
met_anew seen new met name h added other =
    added other ∙ (rw (h other, list_any-append (bytes_eq other) met (name ∷ []), bytes_eq-sym name other)
    (sym (turned (is_among other met) (bytes_eq other name))))

pub added_once : (met new : List (List ℕ)) (name : List ℕ) → is_among name met ≡ false → new ≡ met ++ name ∷ []
    → new ≡ add_once met name
added_once met new name h e = rw (h, e) refl

pub names_on : (names : List (List ℕ)) (i : ℕ) (x : List ℕ) (met new total : List (List ℕ)) → i < length names
    → x ≡ get_or names i x → new ≡ add_once met x → once met (drop i names) ≡ total
    → once new (drop (i + 1) names) ≡ total
names_on names i x met new total lt is e h =
    let one : once met (drop i names) ≡ once (add_once met x) (drop (i + 1) names) = rw (rest names i x lt is) refl in
    rw e (sym one ∙ h)

pub names_all : (names : List (List ℕ)) (i : ℕ) (met total : List (List ℕ)) → length names ≤ i
    → once met (drop i names) ≡ total → met ≡ total
names_all names i met total le h =
    let one : once met (drop i names) ≡ met = rw (drop_all i names le) refl in
    sym one ∙ h

pub bases_on : (bases : List (Bor TypeEntry)) (i : ℕ) (b : Bor TypeEntry) (met new last total : List (List ℕ))
    → i < length bases → b ≡ get_or bases i b → new ≡ add_once met b.now.service_type.name
    → last ≡ once new b.now.ancestors → once met (names_above (entries_of (drop i bases))) ≡ total
    → once last (names_above (entries_of (drop (i + 1) bases))) ≡ total
bases_on bases i b met new last total lt is e k h =
    let one : once met (names_above (entries_of (drop i bases)))
    ≡ once (once (add_once met b.now.service_type.name) b.now.ancestors)
    (names_above (entries_of (drop (i + 1) bases))) =
    rw (rest bases i b lt is)
    (once-append (add_once met b.now.service_type.name) b.now.ancestors
    (names_above (entries_of (drop (i + 1) bases)))) in
    rw (k, e) (sym one ∙ h)

-- ---- supertype by supertype

abbrev failed : TypesFault → Result (Unit {0}) TypesFault
failed t = Err t

pub fails : (inh old new further later was now far rest : List PropStruct) (t : TypesFault)
    → with_further inh old further ≡ with_further inh was far → IsMoreBy inh old new further later (failed t)
    → IsMoreBy inh was now far rest (failed t)
fails inh old new further later was now far rest (User f) e h = absurd h
fails inh old new further later was now far rest Full e h = rw (← e) h
fails inh old new further later was now far rest Memory e h = tt

abbrev refused : TypesFault → Result (List PropStruct) TypesFault
refused t = Err t

pub fails_all : (inh old new further later total : List PropStruct) (t : TypesFault) → with_further inh old further ≡ total
    → IsMoreBy inh old new further later (failed t) → IsMore total (refused t)
fails_all inh old new further later total (User f) e h = absurd h
fails_all inh old new further later total Full e h = rw (← e) h
fails_all inh old new further later total Memory e h = tt

pub one_of : (inh own props later : List PropStruct) (i : ℕ) (p : PropStruct) → i < length props → p ≡ get_or props i p
    → with_further inh own (p ∷ (drop (i + 1) props ++ later)) ≡ with_further inh own (drop i props ++ later)
one_of inh own props later i p lt is = rw (rest props i p lt is) refl

pub base_of : (inh own : List PropStruct) (bases : List (Bor TypeEntry)) (i : ℕ) (b : Bor TypeEntry) → i < length bases
    → b ≡ get_or bases i b
    → with_further inh own (b.now.full ++ inherited_properties (entries_of (drop (i + 1) bases)))
    ≡ with_further inh own (inherited_properties (entries_of (drop i bases)))
base_of inh own bases i b lt is = rw (rest bases i b lt is) refl
