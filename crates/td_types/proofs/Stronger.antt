-- A type's full properties demand at least what its supertypes' do.
use Rattle.std.proofs.Common.{◌≡◌, ℕ, Bool, true, false, ◌&&◌, ◌||◌, not, cond, inl, inr, List, [], ◌∷◌, ◌++◌, map}
use Rattle.std.proofs.Common.{refl, sym, ap, subst, ◌∙◌, Option, None, Some, Ok}
use Rattle.std.specs.List.{flat_map, list_any, AllByRecursion}
use Rattle.std.specs.Str.{bytes_eq}
use Rattle.std.proofs.lemmas.Bool.{false≢true, both_ways, cases_Bool, or_cases, or_from, or_left, or_right, and_parts}
use Rattle.std.proofs.lemmas.Bool.{and_from}
use Rattle.std.proofs.lemmas.List.{reverse-append, append_assoc, append-nil}
use Rattle.std.proofs.lemmas.List.Folds.{list_any-append}
use Rattle.td_typecode.specs.Same.{same}
use Rattle.td_value.specs.declared.enumerations.PropertyMode.{PropertyMode}
use Rattle.td_value.specs.declared.structures.PropStruct.{PropStruct}
use Rattle.td_types.specs.declared.fault.RepoFault.{RepoFault}
use Rattle.td_types.specs.declared.reply.TypesReply.{TypesReply}
use Rattle.td_types.specs.Adding.{Definition, definitions, agree, conflict, earlier_of, redefinition}
use Rattle.td_types.specs.Adding.{inherited_definitions, or_else, name_fault, property_fault, supers_fault, new_type}
use Rattle.td_types.specs.Adding.{with_type}
use Rattle.td_types.specs.Calls.{add_fault, add_type}
use Rattle.td_types.specs.Laws.{is_as_strong, AreAsStrong}
use Rattle.td_types.specs.Modes.{is_mandatory, is_readonly, mode_of, is_at_least, join}
use Rattle.td_types.specs.Properties.{is_called, has_property, joined_mode, newcomers, with_stronger_mode}
use Rattle.td_types.specs.Properties.{with_inherited}
use Rattle.td_types.specs.Properties.{full, full_properties}
use Rattle.td_types.specs.Repository.{Repository, ServiceType, is_among}
use Rattle.td_types.proofs.Chains.{same-bytes, bytes-same}
use Rattle.td_types.proofs.Outcomes.{after_adding}

all-weaker : {X : Type 0} (P Q : X → Type 0) (xs : List X) → ((x : X) → P x → Q x) → AllByRecursion P xs
    → AllByRecursion Q xs
all-weaker P Q [] f h = tt
all-weaker P Q (x ∷ xs) f h = (f x h.0, all-weaker P Q xs f h.1)

-- ---- modes

of_mandatory : (m r : Bool) → is_mandatory (mode_of m r) ≡ m
of_mandatory false false = refl
of_mandatory false true = refl
of_mandatory true false = refl
of_mandatory true true = refl

of_readonly : (m r : Bool) → is_readonly (mode_of m r) ≡ r
of_readonly false false = refl
of_readonly false true = refl
of_readonly true false = refl
of_readonly true true = refl

joined-mandatory : (a b : PropertyMode) → is_mandatory (join a b) ≡ (is_mandatory a || is_mandatory b)
joined-mandatory a b = of_mandatory (is_mandatory a || is_mandatory b) (is_readonly a || is_readonly b)

joined-readonly : (a b : PropertyMode) → is_readonly (join a b) ≡ (is_readonly a || is_readonly b)
joined-readonly a b = of_readonly (is_mandatory a || is_mandatory b) (is_readonly a || is_readonly b)

demands_first : (a b : Bool) → ((a || b) || not a) ≡ true
demands_first true b = refl
demands_first false b = or_right b true refl

demands_second : (a b c : Bool) → (b || not c) ≡ true → ((a || b) || not c) ≡ true
demands_second true b c h = refl
demands_second false b c h = h

at_least-first : (a b : PropertyMode) → is_at_least (join a b) a ≡ true
at_least-first a b =
    rw (joined-mandatory a b, joined-readonly a b)
    (and_from ((is_mandatory a || is_mandatory b) || not (is_mandatory a))
    ((is_readonly a || is_readonly b) || not (is_readonly a)) (demands_first (is_mandatory a) (is_mandatory b))
    (demands_first (is_readonly a) (is_readonly b)))

at_least-second : (a b c : PropertyMode) → is_at_least b c ≡ true → is_at_least (join a b) c ≡ true
at_least-second a b c h =
    let p = and_parts (is_mandatory b || not (is_mandatory c)) (is_readonly b || not (is_readonly c)) h in
    rw (joined-mandatory a b, joined-readonly a b)
    (and_from ((is_mandatory a || is_mandatory b) || not (is_mandatory c))
    ((is_readonly a || is_readonly b) || not (is_readonly c))
    (demands_second (is_mandatory a) (is_mandatory b) (is_mandatory c) p.0)
    (demands_second (is_readonly a) (is_readonly b) (is_readonly c) p.1))

-- the joined mode demands what each of the properties does
abbrev pub Joins : List PropStruct → PropStruct → Type 0
Joins ps p = is_at_least (joined_mode ps p.name) p.mode ≡ true

joins_when : (first p : PropStruct) (ps : List PropStruct) (b : Bool) → Joins ps p
    → is_at_least (cond b (join first.mode (joined_mode ps p.name)) (joined_mode ps p.name)) p.mode ≡ true
joins_when first p ps true h = at_least-second first.mode (joined_mode ps p.name) p.mode h
joins_when first p ps false h = h

all-joined : (ps : List PropStruct) → AllByRecursion (Joins ps) ps
all-joined [] = tt
all-joined (p ∷ ps) = (
  rw (bytes-same p.name p.name refl) (at_least-first p.mode (joined_mode ps p.name)),
  all-weaker (Joins ps) (Joins (p ∷ ps)) ps (λ q h. joins_when p q ps (is_called q.name p) h) (all-joined ps),
)

-- ---- properties that aren't a type's own

-- one of the name comes new
abbrev pub IsNew : (own inherited : List PropStruct) → PropStruct → Type 0
IsNew own inherited p = has_property own p.name ≡ false → list_any (is_called p.name) (newcomers own inherited) ≡ true

new_when : (own : List PropStruct) (p x : PropStruct) (ps : List PropStruct) → IsNew (p ∷ own) ps x
    → has_property own x.name ≡ false → list_any (is_called x.name) (p ∷ newcomers (p ∷ own) ps) ≡ true
new_when own p x ps h lacks =
    elim (cases_Bool (is_called x.name p)) [
      | inl same ↦ or_left (is_called x.name p) (list_any (is_called x.name) (newcomers (p ∷ own) ps)) same
      | inr other ↦ or_right (is_called x.name p) (list_any (is_called x.name) (newcomers (p ∷ own) ps))
          (h (or_from (is_called x.name p) (has_property own x.name) other lacks))
    ]

new_step : (own : List PropStruct) (p : PropStruct) (ps : List PropStruct) (b : Bool) → has_property own p.name ≡ b
    → AllByRecursion (IsNew own ps) ps → AllByRecursion (IsNew (p ∷ own) ps) ps
    → AllByRecursion (λ x. has_property own x.name ≡ false
    → list_any (is_called x.name) (cond b (newcomers own ps) (p ∷ newcomers (p ∷ own) ps)) ≡ true)
    (p ∷ ps)
new_step own p ps true there same more = ((λ lacks. absurd (both_ways (has_property own p.name) lacks there)), same)
new_step own p ps false lacks same more = (
  (λ e. or_left (is_called p.name p) (list_any (is_called p.name) (newcomers (p ∷ own) ps))
      (bytes-same p.name p.name refl)),
  all-weaker (IsNew (p ∷ own) ps)
      (λ x. has_property own x.name ≡ false → list_any (is_called x.name) (p ∷ newcomers (p ∷ own) ps) ≡ true) ps
      (λ x h. new_when own p x ps h) more,
)

all-new : (own inherited : List PropStruct) → AllByRecursion (IsNew own inherited) inherited
all-new own [] = tt
all-new own (p ∷ ps) = new_step own p ps (has_property own p.name) refl (all-new own ps) (all-new (p ∷ own) ps)

-- with the joined mode it is strong enough
strong-new : (all news : List PropStruct) (p : PropStruct) → Joins all p → list_any (is_called p.name) news ≡ true
    → list_any (is_as_strong p) (map (with_stronger_mode all) news) ≡ true
strong-new all [] p j h = absurd (false≢true h)
strong-new all (q ∷ news) p j h =
    elim (or_cases (is_called p.name q) (list_any (is_called p.name) news) h) [
      | inl here ↦
          or_left (is_as_strong p (with_stronger_mode all q)) (list_any (is_as_strong p) (map (with_stronger_mode all) news))
          (and_from (is_called p.name q) (is_at_least (joined_mode all q.name) p.mode) here
          (subst (λ (n : List ℕ). is_at_least (joined_mode all n) p.mode ≡ true)
          (sym (same-bytes q.name p.name here)) j))
      | inr there ↦ or_right (is_as_strong p (with_stronger_mode all q))
          (list_any (is_as_strong p) (map (with_stronger_mode all) news)) (strong-new all news p j there)
    ]

-- ---- a type's own properties

-- an own property of the name is strong enough
abbrev pub IsOwn : List PropStruct → PropStruct → Type 0
IsOwn own p = has_property own p.name ≡ true → list_any (is_as_strong p) own ≡ true

agreed : (t : Bool) (f : RepoFault) → cond t None (Some f) ≡ None → t ≡ true
agreed true f h = refl
agreed false f h = absurd (let bad : ⊥ = cc in bad)

own_when : (type : List ℕ) (q : PropStruct) (own : List PropStruct) (later : List Definition) (d : Definition)
    (b : Bool)
    → is_called d.property.name q ≡ b
    → (conflict (earlier_of (definitions type true own ++ later) d.property.name) d ≡ None → IsOwn own d.property)
    → conflict (cond b (Some (record { type = type; property = q; own = true }))
    (earlier_of (definitions type true own ++ later) d.property.name))
    d
    ≡ None
    → (b || has_property own d.property.name) ≡ true
    → ((b && is_at_least q.mode d.property.mode) || list_any (is_as_strong d.property) own) ≡ true
own_when type q own later d true e there h o =
    let earlier : Definition = record { type = type; property = q; own = true } in
    let a = agreed (agree earlier d.property) _ h in
    let p = and_parts (same q.value_type d.property.value_type) (is_at_least q.mode d.property.mode) a in
    or_left (is_at_least q.mode d.property.mode) (list_any (is_as_strong d.property) own) p.1
own_when type q own later d false e there h o = there h o

own_strong : (type : List ℕ) (own : List PropStruct) (later : List Definition) (d : Definition)
    → conflict (earlier_of (definitions type true own ++ later) d.property.name) d ≡ None → IsOwn own d.property
own_strong type [] later d h o = absurd (false≢true o)
own_strong type (q ∷ own) later d h o =
    own_when type q own later d (is_called d.property.name q) refl (own_strong type own later d) h o

both_none : (a b : Option RepoFault) → or_else a b ≡ None → (a ≡ None) × (b ≡ None)
both_none None b h = (refl, h)
both_none (Some f) b h = absurd (let bad : ⊥ = cc in bad)

all-own : (type : List ℕ) (own : List PropStruct) (later ds : List Definition)
    → redefinition (definitions type true own ++ later) ds ≡ None → AllByRecursion (λ d. IsOwn own d.property) ds
all-own type own later [] h = tt
all-own type own later (d ∷ ds) h =
    let p =
    both_none (conflict (earlier_of (definitions type true own ++ later) d.property.name) d)
    (redefinition ((definitions type true own ++ later) ++ d ∷ []) ds) h in (
      own_strong type own later d p.0,
      all-own type own (later ++ d ∷ []) ds
          (subst (λ (e : List Definition). redefinition e ds ≡ None)
          (append_assoc (definitions type true own) later (d ∷ [])) p.1),
    )

-- ---- both, of a supertype's properties

all-front : {X : Type 0} (P : X → Type 0) (xs ys : List X) → AllByRecursion P (xs ++ ys)
    → AllByRecursion P xs × AllByRecursion P ys
all-front P [] ys h = (tt, h)
all-front P (x ∷ xs) ys h = let p = all-front P xs ys h.1 in ((h.0, p.0), p.1)

all-of_one : {X : Type 0} (P : X → Type 0) (g : List ℕ → List X) (supers : List (List ℕ)) (s : List ℕ)
    → AllByRecursion P (flat_map g supers) → is_among s supers ≡ true → AllByRecursion P (g s)
all-of_one P g [] s h a = absurd (false≢true a)
all-of_one P g (first ∷ supers) s h a =
    let p = all-front P (g first) (flat_map g supers) h in
    elim (or_cases (bytes_eq s first) (is_among s supers) a) [
      | inl here ↦ subst (λ (n : List ℕ). AllByRecursion P (g n)) (sym (same-bytes s first here)) p.0
      | inr there ↦ all-of_one P g supers s p.1 there
    ]

all-defined : (P : PropStruct → Type 0) (type : List ℕ) (own : Bool) (ps : List PropStruct)
    → AllByRecursion (λ d. P d.property) (definitions type own ps) → AllByRecursion P ps
all-defined P type own [] h = tt
all-defined P type own (p ∷ ps) h = (h.0, all-defined P type own ps h.1)

three : (own all : List PropStruct) (ps : List PropStruct) → AllByRecursion (IsOwn own) ps
    → AllByRecursion (IsNew own all) ps → AllByRecursion (Joins all) ps
    → AllByRecursion (λ p. list_any (is_as_strong p) (with_inherited own all) ≡ true) ps
three own all [] o n j = tt
three own all (p ∷ ps) o n j = (
  list_any-append (is_as_strong p) own (map (with_stronger_mode all) (newcomers own all))
      ∙ elim (cases_Bool (has_property own p.name)) [
        | inl there ↦ or_left (list_any (is_as_strong p) own)
            (list_any (is_as_strong p) (map (with_stronger_mode all) (newcomers own all))) (o.0 there)
        | inr lacks ↦ or_right (list_any (is_as_strong p) own)
            (list_any (is_as_strong p) (map (with_stronger_mode all) (newcomers own all)))
            (strong-new all (newcomers own all) p j.0 (n.0 lacks))
      ],
  three own all ps o.1 n.1 j.1,
)

-- ---- the type that was added

full-new : (r : Repository) (name if_name : List ℕ) (props : List PropStruct) (supers : List (List ℕ)) →
    full_properties (with_type r (new_type r name if_name props supers)).types name
    ≡ with_inherited props (flat_map (full_properties r.types) supers)
unfolding full_properties
full-new r name if_name props supers =
    ap (λ (ts : List ServiceType). full ts name) (reverse-append r.types (new_type r name if_name props supers ∷ []))
    ∙ rw (bytes-same name name refl) refl

no-redefinition : (r : Repository) (name if_name : List ℕ) (props : List PropStruct) (supers : List (List ℕ))
    → add_fault r name if_name props supers ≡ None
    → redefinition (definitions name true props) (inherited_definitions r supers) ≡ None
no-redefinition r name if_name props supers h =
    let a = both_none (name_fault r name) _ h in
    let b = both_none (property_fault [] props) _ a.1 in
    (both_none (supers_fault r name if_name [] supers)
    (redefinition (definitions name true props) (inherited_definitions r supers)) b.1).1

pub as-strong : (r after : Repository) (name if_name : List ℕ) (props : List PropStruct) (supers : List (List ℕ))
    (content : TypesReply)
    → add_type r name if_name props supers ≡ Ok (content, after) → (super : List ℕ) → is_among super supers ≡ true
    → AreAsStrong (full_properties after.types name) (full_properties r.types super)
as-strong r after name if_name props supers content h super among =
    let f = after_adding r name if_name props supers content after h in
    let all = flat_map (full_properties r.types) supers in
    let is_after : with_type r (new_type r name if_name props supers) ≡ after =
    ap (λ (p : TypesReply × Repository). p.1) f.1 in
    let none =
    subst (λ (e : List Definition). redefinition e (inherited_definitions r supers) ≡ None)
    (sym (append-nil (definitions name true props))) (no-redefinition r name if_name props supers f.0) in
    let own = all-defined (IsOwn props) super false (full_properties r.types super)
    (all-of_one (λ d. IsOwn props d.property) (λ s. definitions s false (full_properties r.types s)) supers super
    (all-own name props [] (inherited_definitions r supers) none) among) in
    let new = all-of_one (IsNew props all) (full_properties r.types) supers super (all-new props all) among in
    let joins = all-of_one (Joins all) (full_properties r.types) supers super (all-joined all) among in
    subst (λ (x : Repository). AreAsStrong (full_properties x.types name) (full_properties r.types super)) is_after
    (rw (full-new r name if_name props supers) (three props all (full_properties r.types super) own new joins))
