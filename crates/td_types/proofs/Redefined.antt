-- Definitions of properties in order, each against the first of its name.
use Rattle.std.proofs.Common.{◌≡◌, ℕ, ◌+◌, ◌<◌, ◌≤◌, Bool, true, false, cond, List, [], ◌∷◌, ◌++◌, length, drop, take}
use Rattle.std.proofs.Common.{get_or, map, flat_map, refl, sym, ap, ◌∙◌, Option, None, Some, Result, Ok, Err, subst}
use Rattle.std.proofs.Common.{add-one, append_assoc, Bor}
use Rattle.std.proofs.lemmas.List.{map-append, append-nil, drop_all, take_all}
use Rattle.std.proofs.lemmas.List.Folds.{find-append}
use Rattle.std.proofs.lemmas.Map.Text.{is_eq-slice_cmp}
use Rattle.std.proofs.Math.Seq.{take-suc}
use Rattle.std.specs.BTreeMap.{BTreeMap, is_at, get, get_by}
use Rattle.std.specs.Cmp.Lexicographic.{slice_cmp}
use Rattle.std.specs.Map.{lookup}
use Rattle.std.specs.Option.{option_map, option_or}
use Rattle.std.specs.Ordering.{nat_cmp}
use Rattle.std.specs.Str.{bytes_eq}
use Rattle.std.specs.declared.cmp.Ordering.{Ordering}
use Rattle.td_value.specs.declared.structures.PropStruct.{PropStruct}
use Rattle.td_types.proofs.Equal.{bytes_same}
use Rattle.td_types.proofs.Rest.{rest}
use Rattle.td_types.specs.Adding.{Definition, definitions, conflict, earlier_of, redefinition, or_else}
use Rattle.td_types.specs.Firsts.{definition_of, first_at, AreFirsts}
use Rattle.td_types.specs.Properties.{is_called}
use Rattle.td_types.specs.Judged.{IsFirstFault, inherited_from}
use Rattle.td_types.specs.declared.entry.TypeEntry.{TypeEntry}
use Rattle.td_types.specs.declared.fault.RepoFault.{RepoFault}
use Rattle.td_types.specs.declared.fault.TypesFault.{TypesFault}
use Rattle.td_types.specs.declared.fault.TypesFault.TheVariants.{User, Full, Memory}
use Rattle.td_types.specs.declared.redefining.Given.{Given}

abbrev Firsts : Type 0
Firsts = BTreeMap (Bor (List ℕ)) Given

-- ---- judgements that are passed on

pub passes : {X Y : Type 0} (given : X → Type 0) (asked : Y → Type 0) (fault total : Option RepoFault) (t : TypesFault)
    → ((f : RepoFault) → fault ≡ Some f → total ≡ Some f) → IsFirstFault fault given (Err t) → IsFirstFault total asked (Err t)
passes given asked fault total (User f) content h = content f h
passes given asked fault total Full content h = absurd h
passes given asked fault total Memory content h = tt

pub judged_with : (fault asked : Option RepoFault) (P : Type 0) (result : Result (Unit {0}) TypesFault) → asked ≡ fault
    → P → IsFirstFault fault (λ _. Unit {0}) result → IsFirstFault asked (λ _. P) result
judged_with fault asked P (Ok x) same p h = (same ∙ h.0, p)
judged_with fault asked P (Err (User f)) same p h = same ∙ h
judged_with fault asked P (Err Full) same p h = absurd h
judged_with fault asked P (Err Memory) same p h = tt

-- ---- the map of first definitions

abbrev slice_order : Bor (List ℕ) → Bor (List ℕ) → Ordering
slice_order a b = slice_cmp nat_cmp a.now b.now

same_find : (q : Bor (List ℕ)) (es : List (Bor (List ℕ) × Given))
    → lookup (is_at (slice_order q)) es ≡ lookup (λ k. bytes_eq q.now k.now) es
same_find q [] = refl
same_find q (e ∷ es) = rw (← is_eq-slice_cmp q.now e.0.now, ← same_find q es) refl

pub found_first : (firsts : Firsts) (q : Bor (List ℕ)) (name : List ℕ) (x : Option Given) → q.now ≡ name
    → x ≡ get_by (slice_order q) firsts → option_map definition_of x ≡ first_at firsts name
found_first firsts q name x same h = rw (← same) (ap (option_map definition_of) (h ∙ same_find q firsts.entries))

kept_when : (b : Bool) (o y : Option Definition) → (b ≡ true → (x : Definition) × (o ≡ Some x))
    → o ≡ option_or o (cond b y None)
kept_when true o y h = rw (h refl).1 refl
kept_when false (Some x) y h = refl
kept_when false None y h = refl

pub kept_there : (firsts : Firsts) (key : List ℕ) (x : Definition) (y : Option Definition)
    → Some x ≡ first_at firsts key → (name : List ℕ)
    → first_at firsts name ≡ option_or (first_at firsts name) (cond (bytes_eq key name) y None)
kept_there firsts key x y h name =
    kept_when (bytes_eq key name) (first_at firsts name) y
    (λ e. (x, ap (λ (n : List ℕ). first_at firsts n) (sym (bytes_same key name e)) ∙ sym h))

put_when : (b : Bool) (old : Option Given) (v : Given) → (b ≡ true → option_map definition_of old ≡ None)
    → option_map definition_of (cond b (Some v) old) ≡ option_or (option_map definition_of old) (cond b (Some (definition_of v)) None)
put_when true old v h = rw (h refl) refl
put_when false None v h = refl
put_when false (Some x) v h = refl

pub put_there : (old new : Firsts) (key : Bor (List ℕ)) (name : List ℕ) (v : Given) → key.now ≡ name
    → None ≡ first_at old name
    → ((q : Bor (List ℕ)) → get slice_order new q ≡ cond (is_at (slice_order key) q) (Some v) (get slice_order old q))
    → (other : List ℕ)
    → first_at new other ≡ option_or (first_at old other) (cond (bytes_eq name other) (Some (definition_of v)) None)
put_there old new key name v same h updated other =
    let q : Bor (List ℕ) = record key { now = other } in
    let found : lookup (λ k. bytes_eq other k.now) new.entries
    ≡ cond (bytes_eq name other) (Some v) (lookup (λ k. bytes_eq other k.now) old.entries) =
    sym (same_find q new.entries)
    ∙ (updated q ∙ (rw (is_eq-slice_cmp key.now other, same, same_find q old.entries) refl)) in
    ap (option_map definition_of) found
    ∙ put_when (bytes_eq name other) (lookup (λ k. bytes_eq other k.now) old.entries) v
    (λ e. ap (λ (n : List ℕ). first_at old n) (sym (bytes_same name other e)) ∙ sym h)

pub follows : (old new : Firsts) (earlier : List Definition) (d : Definition) → AreFirsts old earlier →
    ((name : List ℕ) → first_at new name
    ≡ option_or (first_at old name) (cond (bytes_eq d.property.name name) (Some d) None))
    → AreFirsts new (earlier ++ d ∷ [])
follows old new earlier d h k name =
    k name ∙ (ap (λ (o : Option Definition). option_or o (cond (bytes_eq d.property.name name) (Some d) None)) (h name)
    ∙ sym (find-append (λ x. is_called name x.property) earlier (d ∷ [])))

-- ---- one definition

pub none_before : (firsts : Firsts) (earlier : List Definition) (name : List ℕ) (e : Option Given) (d : Definition)
    → AreFirsts firsts earlier → option_map definition_of e ≡ first_at firsts name → e ≡ None
    → conflict (earlier_of earlier name) d ≡ None
none_before firsts earlier name e d h k is =
    let no_earlier : earlier_of earlier name ≡ None = sym (h name) ∙ (sym k ∙ ap (option_map definition_of) is) in
    ap (λ (o : Option Definition). conflict o d) no_earlier

pub one_before : (firsts : Firsts) (earlier : List Definition) (name : List ℕ) (e : Option Given) (x : Given)
    (d : Definition)
    → AreFirsts firsts earlier → option_map definition_of e ≡ first_at firsts name → e ≡ Some x
    → conflict (earlier_of earlier name) d ≡ conflict (Some (definition_of x)) d
one_before firsts earlier name e x d h k is =
    let one : earlier_of earlier name ≡ Some (definition_of x) = sym (h name) ∙ (sym k ∙ ap (option_map definition_of) is) in
    ap (λ (o : Option Definition). conflict o d) one

-- ---- a list of definitions

pub one_more : (type : List ℕ) (own : Bool) (props : List PropStruct) (i : ℕ) (p : PropStruct) → i < length props
    → p ≡ get_or props i p
    → definitions type own (take (i + 1) props)
    ≡ definitions type own (take i props) ++ record { type = type; property = p; own = own } ∷ []
one_more type own props i p lt is = rw (add-one, take-suc props i p lt, ← is, map-append) refl

pub stops : (earlier : List Definition) (type : List ℕ) (props : List PropStruct) (i : ℕ) (p : PropStruct)
    (f : RepoFault) (total : Option RepoFault)
    → i < length props → p ≡ get_or props i p
    → redefinition (earlier ++ definitions type false (take i props)) (definitions type false (drop i props)) ≡ total
    → conflict (earlier_of (earlier ++ definitions type false (take i props)) p.name)
    (record { type = type; property = p; own = false })
    ≡ Some f
    → total ≡ Some f
stops earlier type props i p f total lt is so_far h =
    let one : redefinition (earlier ++ definitions type false (take i props)) (definitions type false (drop i props))
    ≡ Some f =
    rw (rest props i p lt is, h) refl in
    sym so_far ∙ one

pub goes_on : (earlier : List Definition) (type : List ℕ) (props : List PropStruct) (i : ℕ) (p : PropStruct)
    (total : Option RepoFault)
    → i < length props → p ≡ get_or props i p
    → redefinition (earlier ++ definitions type false (take i props)) (definitions type false (drop i props)) ≡ total
    → conflict (earlier_of (earlier ++ definitions type false (take i props)) p.name)
    (record { type = type; property = p; own = false })
    ≡ None
    → redefinition (earlier ++ definitions type false (take (i + 1) props))
    (definitions type false (drop (i + 1) props))
    ≡ total
goes_on earlier type props i p total lt is so_far h =
    let one : redefinition (earlier ++ definitions type false (take i props)) (definitions type false (drop i props))
    ≡ redefinition ((earlier ++ definitions type false (take i props))
    ++ record { type = type; property = p; own = false } ∷ [])
    (definitions type false (drop (i + 1) props)) =
    rw (rest props i p lt is, h) refl in
    let two : (earlier ++ definitions type false (take i props)) ++ record { type = type; property = p; own = false }
    ∷ []
    ≡ earlier ++ definitions type false (take (i + 1) props) =
    append_assoc earlier (definitions type false (take i props))
    (record { type = type; property = p; own = false } ∷ [])
    ∙ ap (λ (ds : List Definition). earlier ++ ds) (sym (one_more type false props i p lt is)) in
    ap (λ (ds : List Definition). redefinition ds (definitions type false (drop (i + 1) props))) (sym two)
    ∙ (sym one ∙ so_far)

pub firsts_on : (old new : Firsts) (earlier : List Definition) (type : List ℕ) (props : List PropStruct) (i : ℕ)
    (p : PropStruct)
    → i < length props → p ≡ get_or props i p
    → AreFirsts new ((earlier ++ definitions type false (take i props))
    ++ record { type = type; property = p; own = false } ∷ [])
    → AreFirsts new (earlier ++ definitions type false (take (i + 1) props))
firsts_on old new earlier type props i p lt is h =
    let two : (earlier ++ definitions type false (take i props)) ++ record { type = type; property = p; own = false }
    ∷ []
    ≡ earlier ++ definitions type false (take (i + 1) props) =
    append_assoc earlier (definitions type false (take i props))
    (record { type = type; property = p; own = false } ∷ [])
    ∙ ap (λ (ds : List Definition). earlier ++ ds) (sym (one_more type false props i p lt is)) in
    subst (λ (ds : List Definition). AreFirsts new ds) two h

pub ends : (earlier : List Definition) (type : List ℕ) (props : List PropStruct) (i : ℕ) (total : Option RepoFault)
    → length props ≤ i
    → redefinition (earlier ++ definitions type false (take i props)) (definitions type false (drop i props)) ≡ total
    → total ≡ None
ends earlier type props i total le so_far =
    let one : redefinition (earlier ++ definitions type false (take i props)) (definitions type false (drop i props))
    ≡ None =
    rw (drop_all i props le) refl in
    sym so_far ∙ one

pub firsts_end : (firsts : Firsts) (earlier : List Definition) (type : List ℕ) (props : List PropStruct) (i : ℕ)
    → length props ≤ i → AreFirsts firsts (earlier ++ definitions type false (take i props))
    → AreFirsts firsts (earlier ++ definitions type false props)
firsts_end firsts earlier type props i le h = rw (take_all i props le) at h

-- ---- supertype by supertype

or_else_assoc : {X : Type 0} (a b c : Option X) → or_else (or_else a b) c ≡ or_else a (or_else b c)
or_else_assoc None b c = refl
or_else_assoc (Some x) b c = refl

pub redefinition-append : (earlier xs ys : List Definition)
    → redefinition earlier (xs ++ ys) ≡ or_else (redefinition earlier xs) (redefinition (earlier ++ xs) ys)
redefinition-append earlier [] ys = rw (append-nil earlier) refl
redefinition-append earlier (x ∷ xs) ys =
    rw (redefinition-append (earlier ++ x ∷ []) xs ys, append_assoc earlier (x ∷ []) xs)
    (sym (or_else_assoc (conflict (earlier_of earlier x.property.name) x) (redefinition (earlier ++ x ∷ []) xs)
    (redefinition (earlier ++ x ∷ xs) ys)))

flat_map-append : {A B : Type 0} (f : A → List B) (xs ys : List A)
    → flat_map f (xs ++ ys) ≡ flat_map f xs ++ flat_map f ys
flat_map-append f [] ys = refl
flat_map-append f (x ∷ xs) ys = rw (flat_map-append f xs ys) (sym (append_assoc (f x) (flat_map f xs) (flat_map f ys)))

abbrev pub entries_of : List (Bor TypeEntry) → List TypeEntry
entries_of bases = map (λ (b : Bor TypeEntry). b.now) bases

pub base_more : (bases : List (Bor TypeEntry)) (i : ℕ) (b : Bor TypeEntry) → i < length bases → b ≡ get_or bases i b
    → inherited_from (entries_of (take (i + 1) bases))
    ≡ inherited_from (entries_of (take i bases)) ++ definitions b.now.service_type.name false b.now.full
base_more bases i b lt is =
    rw (
      add-one,
      take-suc bases i b lt,
      ← is,
      map-append,
      flat_map-append (λ (e : TypeEntry). definitions e.service_type.name false e.full) (entries_of (take i bases))
          (b.now ∷ []),
    )
    (rw (append-nil (definitions b.now.service_type.name false b.now.full)) refl)

pub base_stops : (own : List Definition) (bases : List (Bor TypeEntry)) (i : ℕ) (b : Bor TypeEntry) (f : RepoFault)
    (total : Option RepoFault)
    → i < length bases → b ≡ get_or bases i b
    → redefinition (own ++ inherited_from (entries_of (take i bases))) (inherited_from (entries_of (drop i bases)))
    ≡ total
    → redefinition (own ++ inherited_from (entries_of (take i bases)))
    (definitions b.now.service_type.name false b.now.full)
    ≡ Some f
    → total ≡ Some f
base_stops own bases i b f total lt is so_far h =
    let one : redefinition (own ++ inherited_from (entries_of (take i bases)))
    (inherited_from (entries_of (drop i bases)))
    ≡ Some f =
    rw (
      rest bases i b lt is,
      redefinition-append (own ++ inherited_from (entries_of (take i bases)))
          (definitions b.now.service_type.name false b.now.full) (inherited_from (entries_of (drop (i + 1) bases))),
      h,
    )
    refl in
    sym so_far ∙ one

pub base_goes_on : (own : List Definition) (bases : List (Bor TypeEntry)) (i : ℕ) (b : Bor TypeEntry) (total : Option RepoFault)
    → i < length bases → b ≡ get_or bases i b
    → redefinition (own ++ inherited_from (entries_of (take i bases))) (inherited_from (entries_of (drop i bases)))
    ≡ total
    → redefinition (own ++ inherited_from (entries_of (take i bases)))
    (definitions b.now.service_type.name false b.now.full)
    ≡ None
    → redefinition (own ++ inherited_from (entries_of (take (i + 1) bases)))
    (inherited_from (entries_of (drop (i + 1) bases)))
    ≡ total
base_goes_on own bases i b total lt is so_far h =
    let one : redefinition (own ++ inherited_from (entries_of (take i bases)))
    (inherited_from (entries_of (drop i bases)))
    ≡ redefinition ((own ++ inherited_from (entries_of (take i bases)))
    ++ definitions b.now.service_type.name false b.now.full)
    (inherited_from (entries_of (drop (i + 1) bases))) =
    rw (
      rest bases i b lt is,
      redefinition-append (own ++ inherited_from (entries_of (take i bases)))
          (definitions b.now.service_type.name false b.now.full) (inherited_from (entries_of (drop (i + 1) bases))),
      h,
    )
    refl in
    let two : (own ++ inherited_from (entries_of (take i bases)))
    ++ definitions b.now.service_type.name false b.now.full
    ≡ own ++ inherited_from (entries_of (take (i + 1) bases)) =
    append_assoc own (inherited_from (entries_of (take i bases)))
    (definitions b.now.service_type.name false b.now.full)
    ∙ ap (λ (ds : List Definition). own ++ ds) (sym (base_more bases i b lt is)) in
    ap (λ (ds : List Definition). redefinition ds (inherited_from (entries_of (drop (i + 1) bases)))) (sym two)
    ∙ (sym one ∙ so_far)

pub base_firsts : (new : Firsts) (own : List Definition) (bases : List (Bor TypeEntry)) (i : ℕ) (b : Bor TypeEntry)
    → i < length bases → b ≡ get_or bases i b
    → AreFirsts new ((own ++ inherited_from (entries_of (take i bases)))
    ++ definitions b.now.service_type.name false b.now.full)
    → AreFirsts new (own ++ inherited_from (entries_of (take (i + 1) bases)))
base_firsts new own bases i b lt is h =
    let two : (own ++ inherited_from (entries_of (take i bases)))
    ++ definitions b.now.service_type.name false b.now.full
    ≡ own ++ inherited_from (entries_of (take (i + 1) bases)) =
    append_assoc own (inherited_from (entries_of (take i bases)))
    (definitions b.now.service_type.name false b.now.full)
    ∙ ap (λ (ds : List Definition). own ++ ds) (sym (base_more bases i b lt is)) in
    subst (λ (ds : List Definition). AreFirsts new ds) two h
