-- A repository that can be written stays so, and so can what it tells.
use Rattle.std.proofs.Common.{◌≡◌, ℕ, ◌^◌, ◌<◌, Bool, true, false, ◌||◌, cond, inl, inr, List}
use Rattle.std.proofs.Common.{[], ◌∷◌, ◌++◌, length, map, reverse, refl, sym, subst, ◌∙◌, arith, Option, None}
use Rattle.std.proofs.Common.{Some, Ok}
use Rattle.std.proofs.lemmas.Bool.{cases_Bool, both_ways}
use Rattle.std.proofs.lemmas.List.{length-map}
use Rattle.std.specs.List.{flat_map, filter, AllByRecursion}
use Rattle.std.specs.Str.{bytes_eq}
use Rattle.td_cdr.specs.Names.{word_name}
use Rattle.td_cdr.specs.Sound.{text, sequence}
use Rattle.td_value.specs.Enumerations.{property_mode}
use Rattle.td_value.specs.Structures.{prop_struct, type_struct}
use Rattle.td_value.specs.declared.enumerations.PropertyMode.{PropertyMode}
use Rattle.td_value.specs.declared.enumerations.PropertyMode.TheVariants.{Normal, Readonly, Mandatory}
use Rattle.td_value.specs.declared.enumerations.PropertyMode.TheVariants.{MandatoryReadonly}
use Rattle.td_value.specs.declared.structures.PropStruct.{PropStruct}
use Rattle.td_types.specs.Calls.{RepositoryResult, refuse, act_on, on_type, describe_type}
use Rattle.td_types.specs.Calls.{fully_describe_type, without, sub_type, remove_unless, remove_type, set_mask}
use Rattle.td_types.specs.Calls.{mask_type, unmask_type, is_listed, list_types}
use Rattle.td_types.specs.Conforming.{add_once, once, walk, ancestors}
use Rattle.td_types.specs.Descriptions.{description, full_description}
use Rattle.td_types.specs.Properties.{has_property, joined_mode, newcomers, with_stronger_mode, with_inherited}
use Rattle.td_types.specs.Properties.{full, full_properties}
use Rattle.td_types.specs.Repository.{Repository, ServiceType, InterfaceBases, IsRepository, is_named, is_among}
use Rattle.td_types.specs.Repository.{type_named}
use Rattle.td_types.specs.Repository.{has_type}
use Rattle.td_types.specs.Writable.{IsWritableType, IsCounted, IsWritable}
use Rattle.td_types.specs.Writable.{StaysWritable}
use Rattle.td_types.specs.declared.fault.RepoFault.TheVariants as fault
use Rattle.td_types.specs.declared.reply.TypesReply.TheVariants as reply
use Rattle.td_types.proofs.Chains.{same-bytes, bytes-same}
use Rattle.td_types.proofs.Masks.{masked_type, full-masked, ancestors-masked}
use Rattle.td_types.proofs.Others.{any-reverse, has-not_gone, others}
use Rattle.td_types.proofs.Outcomes.{named}
use Rattle.td_types.proofs.Removed.{full-without, ancestors-without}
use Rattle.td_types.proofs.Rising.{all-reverse}
use Rattle.td_types.proofs.Sequences.{each-when, each-append, each-map, each-flat, each-filter, each-found}
use Rattle.td_types.proofs.Sequences.{filter-length, sequence-from, sequence-each}
use Rattle.td_types.proofs.Subtypes.{no-subtypes}

abbrev pub AreProperties : List PropStruct → Type 0
AreProperties ps = AllByRecursion prop_struct.format.admits ps

abbrev pub AreTexts : List (List ℕ) → Type 0
AreTexts xs = AllByRecursion text.format.admits xs

abbrev AreTypes : List ServiceType → Type 0
AreTypes ts = AllByRecursion IsWritableType ts

-- ---- what a type has by its supertypes

own-properties : (t : ServiceType) → IsWritableType t → AreProperties t.props
own-properties t w = sequence-each prop_struct t.props w.described.1.0

listed-supers : (t : ServiceType) → IsWritableType t → AreTexts t.supers
listed-supers t w = sequence-each text t.supers w.described.1.1.0

mode-any : (m : PropertyMode) → property_mode.format.admits m
mode-any Normal = omega arith
mode-any Readonly = omega arith
mode-any Mandatory = omega arith
mode-any MandatoryReadonly = omega arith

with-mode : (p : PropStruct) (m : PropertyMode) → prop_struct.format.admits p
    → prop_struct.format.admits (record p { mode = m })
with-mode p m h = (h.0, (h.1.0, mode-any m))

newcomers-each : (own inherited : List PropStruct) → AreProperties inherited → AreProperties (newcomers own inherited)
newcomers-each own [] h = tt
newcomers-each own (p ∷ ps) h =
    each-when prop_struct.format.admits (has_property own p.name) (newcomers own ps) (p ∷ newcomers (p ∷ own) ps)
    (newcomers-each own ps h.1) (h.0, newcomers-each (p ∷ own) ps h.1)

inherited-each : (own inherited : List PropStruct) → AreProperties own → AreProperties inherited
    → AreProperties (with_inherited own inherited)
inherited-each own inherited h k =
    each-append prop_struct.format.admits own (map (with_stronger_mode inherited) (newcomers own inherited)) h
    (each-map prop_struct.format.admits prop_struct.format.admits (with_stronger_mode inherited) (newcomers own inherited)
    (λ p. with-mode p (joined_mode inherited p.name)) (newcomers-each own inherited k))

full-each : (ts : List ServiceType) → AreTypes ts → (name : List ℕ) → AreProperties (full ts name)
full-each [] h name = tt
full-each (t ∷ older) h name =
    each-when prop_struct.format.admits (is_named name t) (with_inherited t.props (flat_map (full older) t.supers))
    (full older name)
    (inherited-each t.props (flat_map (full older) t.supers) (own-properties t h.0)
    (each-flat text.format.admits prop_struct.format.admits (full older) t.supers (λ s _. full-each older h.1 s)
    (listed-supers t h.0)))
    (full-each older h.1 name)

walk-each : (ts : List ServiceType) → AreTypes ts → (name : List ℕ) → AreTexts (walk ts name)
walk-each [] h name = tt
walk-each (t ∷ older) h name =
    each-when text.format.admits (is_named name t) (flat_map (λ s. s ∷ walk older s) t.supers) (walk older name)
    (each-flat text.format.admits text.format.admits (λ s. s ∷ walk older s) t.supers
    (λ s a. (a, walk-each older h.1 s)) (listed-supers t h.0))
    (walk-each older h.1 name)

once-each : (met xs : List (List ℕ)) → AreTexts met → AreTexts xs → AreTexts (once met xs)
once-each met [] h k = h
once-each met (x ∷ xs) h k =
    once-each (add_once met x) xs
    (each-when text.format.admits (is_among x met) met (met ++ x ∷ []) h
    (each-append text.format.admits met (x ∷ []) h (k.0, tt)))
    k.1

-- the full properties of any name
pub full-items : (ts : List ServiceType) (name : List ℕ) → AreTypes ts → AreProperties (full_properties ts name)
unfolding full_properties
full-items ts name h = full-each (reverse ts) (all-reverse IsWritableType ts h) name

pub properties-written : (r : Repository) (name : List ℕ) → IsWritable r
    → (sequence prop_struct).format.admits (full_properties r.types name)
properties-written r name w =
    sequence-from prop_struct (full_properties r.types name) (w.counted name).properties
    (full-items r.types name w.types)

above-items : (ts : List ServiceType) (name : List ℕ) → AreTypes ts → AreTexts (ancestors ts name)
unfolding ancestors
above-items ts name h =
    once-each [] (walk (reverse ts) name) tt (walk-each (reverse ts) (all-reverse IsWritableType ts h) name)

above-written : (r : Repository) (name : List ℕ) → IsWritable r → (sequence text).format.admits (ancestors r.types name)
above-written r name w =
    sequence-from text (ancestors r.types name) (w.counted name).supertypes (above-items r.types name w.types)

fully-written : (r : Repository) (t : ServiceType) → IsWritable r → IsWritableType t
    → type_struct.format.admits (full_description r.types t)
fully-written r t w h = (h.described.0, (properties-written r t.name w, (above-written r t.name w, h.described.1.1.1)))

-- ---- a type by its name

known-when : (b : Bool) (found : Option ServiceType) (name : List ℕ) (act : ServiceType → RepositoryResult)
    → text.format.admits name → ((t : ServiceType) → found ≡ Some t → StaysWritable (act t))
    → StaysWritable (cond b (act_on found name act) (refuse (fault.IllegalServiceType name)))
known-when true None name act n h = n
known-when true (Some t) name act n h = h t refl
known-when false found name act n h = n

known-written : (r : Repository) (name : List ℕ) (act : ServiceType → RepositoryResult) → IsWritable r → text.format.admits name
    → ((t : ServiceType) → type_named r.types name ≡ Some t → IsWritableType t → StaysWritable (act t))
    → StaysWritable (on_type r name act)
known-written r name act w n h =
    known-when (word_name name) (type_named r.types name) name act n
    (λ t e. h t e (each-found IsWritableType (is_named name) r.types t w.types e))

pub described-written : (r : Repository) (name : List ℕ) → IsWritable r → text.format.admits name
    → StaysWritable (describe_type r name)
unfolding describe_type
described-written r name w n =
    known-written r name (λ t. Ok (reply.Described (description t), r)) w n (λ t e h. (h.described, w))

pub fully_described-written : (r : Repository) (name : List ℕ) → IsWritable r → text.format.admits name
    → StaysWritable (fully_describe_type r name)
unfolding fully_describe_type
fully_described-written r name w n =
    known-written r name (λ t. Ok (reply.Described (full_description r.types t), r)) w n
    (λ t e h. (fully-written r t w h, w))

-- ---- listing

pub list-written : (r : Repository) (since : Option ℕ) → IsWritable r → StaysWritable (list_types r since)
unfolding list_types
list-written r since w =
    let listed = filter (is_listed since) r.types in
    let shorter = filter-length (is_listed since) r.types in
    let same = length-map listed (λ t. t.name) in
    let few = w.few in (
      sequence-from text (map (λ t. t.name) listed) (omega (arith, shorter, same, few))
          (each-map IsWritableType text.format.admits (λ t. t.name) listed (λ t h. h.name)
          (each-filter IsWritableType (is_listed since) r.types w.types)),
      w,
    )

-- ---- no types

pub new-written : (interfaces : InterfaceBases) → IsWritable (record { types = []; interfaces = interfaces; last = 0 })
unfolding full_properties ancestors
new-written interfaces = record {
  types = tt;
  few = omega arith;
  counted = λ name. record { properties = omega arith; supertypes = omega arith };
}

-- ---- masking

masked-when : (b masked : Bool) (t : ServiceType) → IsWritableType t
    → IsWritableType (cond b (record t { masked = masked }) t)
masked-when true masked t h = record {
  name = h.name;
  described = (h.described.0, (h.described.1.0, (h.described.1.1.0, (tt, h.described.1.1.1.1))));
}
masked-when false masked t h = h

mask-written : (r : Repository) (name : List ℕ) (masked : Bool) → IsWritable r → IsWritable (set_mask r name masked)
mask-written r name masked w =
    let same = length-map r.types (masked_type name masked) in
    let few = w.few in
    record {
      types =
          each-map IsWritableType IsWritableType (masked_type name masked) r.types
          (λ t. masked-when (is_named name t) masked t) w.types;
      few = omega (arith, same, few);
      counted = λ n. record {
        properties =
            subst (λ (ps : List PropStruct). length ps < 2 ^ 32) (sym (full-masked r.types name masked n))
            (w.counted n).properties;
        supertypes =
            subst (λ (xs : List (List ℕ)). length xs < 2 ^ 32) (sym (ancestors-masked r.types name masked n))
            (w.counted n).supertypes;
      };
    }

choice : (b : Bool) (x y : RepositoryResult) → StaysWritable x → StaysWritable y → StaysWritable (cond b x y)
choice true x y h k = h
choice false x y h k = k

pub masking-written : (r : Repository) (name : List ℕ) → IsWritable r → text.format.admits name
    → StaysWritable (mask_type r name)
unfolding mask_type
masking-written r name w n =
    let after : RepositoryResult = Ok (reply.Masked, set_mask r name true) in
    known-written r name (λ t. cond t.masked (refuse (fault.AlreadyMasked name)) after) w n
    (λ t e h. choice t.masked (refuse (fault.AlreadyMasked name)) after n (tt, mask-written r name true w))

pub unmasking-written : (r : Repository) (name : List ℕ) → IsWritable r → text.format.admits name
    → StaysWritable (unmask_type r name)
unfolding unmask_type
unmasking-written r name w n =
    let after : RepositoryResult = Ok (reply.Unmasked, set_mask r name false) in
    known-written r name (λ t. cond t.masked after (refuse (fault.NotMasked name))) w n
    (λ t e h. choice t.masked after (refuse (fault.NotMasked name)) (tt, mask-written r name false w) n)

-- ---- removing

pub neither : (a b : Bool) → (a || b) ≡ false → (a ≡ false) × (b ≡ false)
neither true b h = absurd (let bad : ⊥ = cc in bad)
neither false b h = (refl, h)

full-none : (ts : List ServiceType) (name : List ℕ) → has_type ts name ≡ false → full ts name ≡ []
full-none [] name h = refl
full-none (t ∷ older) name h =
    let p = neither (is_named name t) (has_type older name) h in rw p.0 (full-none older name p.1)

walk-none : (ts : List ServiceType) (name : List ℕ) → has_type ts name ≡ false → walk ts name ≡ []
walk-none [] name h = refl
walk-none (t ∷ older) name h =
    let p = neither (is_named name t) (has_type older name) h in rw p.0 (walk-none older name p.1)

counted-none : (ts : List ServiceType) (name : List ℕ) → has_type ts name ≡ false → IsCounted ts name
unfolding full_properties ancestors
counted-none ts name h =
    let none = any-reverse (is_named name) ts ∙ h in
    record {
      properties = rw (full-none (reverse ts) name none) (omega arith);
      supertypes = rw (walk-none (reverse ts) name none) (omega arith);
    }

removed-written : (r : Repository) (gone : List ℕ) → IsRepository r → IsWritable r → sub_type r gone ≡ None
    → IsWritable (without r gone)
removed-written r gone valid w none =
    let shorter = filter-length (others gone) r.types in
    let few = w.few in
    let alone = no-subtypes r.types gone valid.founded none in
    record {
      types = each-filter IsWritableType (others gone) r.types w.types;
      few = omega (arith, shorter, few);
      counted = λ n. elim (cases_Bool (bytes_eq n gone)) [
        | inl same ↦ subst (IsCounted (without r gone).types) (sym (same-bytes n gone same))
            (counted-none (without r gone).types gone (has-not_gone gone r.types))
        | inr other ↦
            let differs : n ≡ gone → ⊥ = λ same. both_ways (bytes_eq n gone) other (bytes-same n gone same) in
            record {
              properties =
                  subst (λ (ps : List PropStruct). length ps < 2 ^ 32) (sym (full-without r.types gone n alone differs))
                  (w.counted n).properties;
              supertypes =
                  subst (λ (xs : List (List ℕ)). length xs < 2 ^ 32)
                  (sym (ancestors-without r.types gone n alone differs)) (w.counted n).supertypes;
            }
      ];
    }

remove-when : (r : Repository) (t : ServiceType) (sub : Option ServiceType) → IsWritableType t
    → ((s : ServiceType) → sub ≡ Some s → IsWritableType s) → (sub ≡ None → IsWritable (without r t.name))
    → StaysWritable (remove_unless r t sub)
remove-when r t None h s g = (tt, g refl)
remove-when r t (Some sub) h s g = (h.name, (s sub refl).name)

pub removing-written : (r : Repository) (name : List ℕ) → IsRepository r → IsWritable r → text.format.admits name
    → StaysWritable (remove_type r name)
unfolding remove_type
removing-written r name valid w n =
    known-written r name (λ t. remove_unless r t (sub_type r name)) w n
    (λ t e h.
    remove-when r t (sub_type r name) h (λ s f. each-found IsWritableType _ r.types s w.types f)
    (λ none. subst (λ (x : List ℕ). IsWritable (without r x)) (sym (named r.types name t e))
    (removed-written r name valid w none)))
