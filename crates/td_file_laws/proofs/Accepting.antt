-- A change that the lines of a file tell, and that is accepted, can be written: its names are names, and its lists are
-- short.
use Rattle.std.proofs.Common.{◌≡◌, ℕ, zero, suc, ◌+◌, ◌^◌, ◌<◌, ◌≤◌, nat_eq, nat_le, Bool, true, false, not}
use Rattle.std.proofs.Common.{◌&&◌, ◌||◌, cond, List, [], ◌∷◌, ◌++◌, length, map, filter, is_some}
use Rattle.std.proofs.Common.{Option, Some, None, refl, sym, subst, ◌∙◌, arith}
use Rattle.std.proofs.lemmas.Bool.{and_parts, ne_eqb}
use Rattle.std.proofs.lemmas.List.{length-append}
use Rattle.std.proofs.lemmas.Slice.Eq.{bytes_eq-Decides}
use Rattle.std.specs.List.{AllByRecursion, list_all}
use Rattle.std.specs.Str.{bytes_eq}
use Rattle.td_admin.specs.Links.{name_cause as link_name_cause, rules_cause}
use Rattle.td_admin.specs.Links.{target_cause}
use Rattle.td_changes.specs.Applying.{acceptance, apply, cause_of, comes_to, with_change}
use Rattle.td_ops.specs.declared.call.Change.{Change}
use Rattle.td_changes.specs.Histories.{is_done}
use Rattle.td_cdr.specs.Format.{number, row}
use Rattle.td_cdr.specs.Names.{identifier, is_letter, is_printing, is_word, word_name}
use Rattle.td_cdr.specs.Sound.{text, sequence}
use Rattle.td_cdr.specs.Text.{HasNoNul}
use Rattle.td_cdr.specs.declared.order.Order.{Order}
use Rattle.td_cdr.specs.declared.order.Order.TheVariants.{Big}
use Rattle.td_typecode.specs.References.{reference}
use Rattle.td_typecode.specs.Values.{any_value}
use Rattle.td_typecode.specs.declared.reference.Ior.{Ior}
use Rattle.td_exceptions.specs.declared.exception.UserException.TheVariants as user
use Rattle.td_exceptions.specs.declared.exception.UserException.{UserException}
use Rattle.td_lines.specs.Parsing.{AreParsedProperties, IsParsedOffer, IsParsedRegister}
use Rattle.td_ops.specs.declared.call.Change.TheVariants as change
use Rattle.td_ops.specs.declared.outcome.Reply.TheVariants as reply
use Rattle.td_ops.specs.declared.outcome.Reply.{Reply}
use Rattle.td_register.specs.Causes.{Cause, OrRefusal, effect_of, with_cause, limit_if, raise, raise_if, there, unless}
use Rattle.td_register.specs.Causes.{◌otherwise◌}
use Rattle.td_register.specs.Named.{open_type, if_unmasked}
use Rattle.td_register.specs.Properties.{encoded_size, is_too_large, missing_property, missing_cause, name_cause}
use Rattle.td_register.specs.Properties.{properties_cause}
use Rattle.td_register.specs.Properties.{value_cause}
use Rattle.td_register.specs.Registers.{interface_cause, no_more, offer_cause}
use Rattle.td_register.specs.Stores.{Store}
use Rattle.td_register.specs.declared.refusal.Refusal.TheVariants.{Raised, NotSupported, Limit}
use Rattle.td_store.specs.LinkLists.{link_of, most_links}
use Rattle.td_store.specs.Stores.{most_bytes}
use Rattle.td_trader.proofs.ReadAdmitted.{follow-admitted}
use Rattle.td_trader.specs.Admitted.{AdmitsChange, AdmitsRegister}
use Rattle.td_register.proofs.NoCause.{no-first, no-later, not-raised, no_export_cause, no_proxy_cause, small}
use Rattle.td_types.proofs.Sequences.{filter-length, sequence-from, then-second}
use Rattle.td_types.specs.Properties.{full_properties}
use Rattle.td_types.specs.Repository.{has_type, is_among, is_named, type_named}
use Rattle.td_types.specs.declared.entry.ServiceType.{ServiceType}
use Rattle.td_value.specs.Structures.{policy, property}
use Rattle.td_value.specs.declared.enumerations.FollowOption.{FollowOption}
use Rattle.td_value.specs.declared.structures.Policy.{Policy}
use Rattle.td_value.specs.declared.structures.PropStruct.{PropStruct}
use Rattle.td_value.specs.declared.structures.Property.{Property}

-- ---- names

pub not-true : (b : Bool) → not b ≡ false → b ≡ true
not-true true h = refl
not-true false h = absurd (let bad : ⊥ = cc in bad)

third-holds : (a b c : Bool) → (a && b && c) ≡ true → c ≡ true
third-holds true true c h = h
third-holds true false c h = absurd (let bad : ⊥ = cc in bad)
third-holds false b c h = absurd (let bad : ⊥ = cc in bad)

first-holds : (a b c : Bool) → (a && b && c) ≡ true → a ≡ true
first-holds true b c h = refl
first-holds false b c h = absurd (let bad : ⊥ = cc in bad)

printing-some : (b : ℕ) → is_printing b ≡ true → nat_eq b 0 ≡ false
printing-some zero h = absurd (let bad : ⊥ = cc in bad)
printing-some (suc b) h = ne_eqb (suc b) 0 (λ (e : suc b ≡ 0). let bad : ⊥ = omega arith in bad)

word-some : (b : ℕ) → is_word b ≡ true → nat_eq b 0 ≡ false
word-some zero h = absurd (let bad : ⊥ = cc in bad)
word-some (suc b) h = ne_eqb (suc b) 0 (λ (e : suc b ≡ 0). let bad : ⊥ = omega arith in bad)

letter-some : (b : ℕ) → is_letter b ≡ true → nat_eq b 0 ≡ false
letter-some zero h = absurd (let bad : ⊥ = cc in bad)
letter-some (suc b) h = ne_eqb (suc b) 0 (λ (e : suc b ≡ 0). let bad : ⊥ = omega arith in bad)

clean-of : (p : ℕ → Bool) (name : List ℕ) → ((b : ℕ) → p b ≡ true → nat_eq b 0 ≡ false) → list_all p name ≡ true
    → HasNoNul name
clean-of p [] k h = refl
clean-of p (b ∷ bs) k h =
    let q = and_parts (p b) (list_all p bs) h in
    rw (k b q.0) (clean-of p bs k q.1)

pub word-clean : (name : List ℕ) → word_name name ≡ true → HasNoNul name
word-clean name h =
    clean-of is_printing name printing-some
    (third-holds (nat_le 1 (length name)) (nat_le (length name) 256) (list_all is_printing name) h)

pub identifier-clean : (name : List ℕ) → identifier name ≡ true → HasNoNul name
identifier-clean [] h = absurd (let bad : ⊥ = cc in bad)
identifier-clean (b ∷ bs) h =
    rw (letter-some b (first-holds (is_letter b) (nat_le (length bs) 255) (list_all is_word bs) h))
    (clean-of is_word bs word-some (third-holds (is_letter b) (nat_le (length bs) 255) (list_all is_word bs) h))

-- ---- what was accepted has no cause

done-none : (s : Store) (cause : Cause) (content : Reply) (after : Store)
    → is_done (effect_of s (unless cause content after)).outcome ≡ true → cause ≡ None
done-none s None content after h = refl
done-none s (Some (Raised e)) content after h = absurd (let bad : ⊥ = cc in bad)
done-none s (Some NotSupported) content after h = absurd (let bad : ⊥ = cc in bad)
done-none s (Some Limit) content after h = absurd (let bad : ⊥ = cc in bad)

none-of : (s : Store) (c : Change) → is_done (apply s c).outcome ≡ true → cause_of s c ≡ None
unfolding comes_to
none-of s c h = done-none s (cause_of s c) (acceptance s c) (with_change s c) h

open-when : (b : Bool) (found : OrRefusal ServiceType) (e : UserException) (cause : ServiceType → Cause)
    → with_cause (cond b found (raise e)) cause ≡ None → b ≡ true
open-when true found e cause h = refl
open-when false found e cause h = absurd (let bad : ⊥ = cc in bad)

-- the name of a type for a new offer
open-named : (types : List ServiceType) (name : List ℕ) (cause : ServiceType → Cause)
    → with_cause (open_type types name) cause ≡ None → HasNoNul name
open-named types name cause h =
    word-clean name
    (open-when (word_name name) (there (if_unmasked (type_named types name)) (user.UnknownServiceType name))
    (user.IllegalServiceType name) cause h)

-- ---- properties

names-of : (supports : Bool) (type_name : List ℕ) (ds : List PropStruct) (before : List (List ℕ)) (ps : List Property)
    → properties_cause supports type_name ds before ps ≡ None → AllByRecursion (λ (p : Property). HasNoNul p.name) ps
names-of supports type_name ds before [] h = tt
names-of supports type_name ds before (p ∷ ps) h =
    let named = name_cause before p.name in
    let valued = value_cause supports type_name ds p in
    let others = properties_cause supports type_name ds (p.name ∷ before) ps in
    let legal =
    no-first (raise_if (not (identifier p.name)) (user.IllegalPropertyName p.name))
    (raise_if (is_among p.name before) (user.DuplicatePropertyName p.name))
    (no-first named (valued otherwise others) h) in (
      identifier-clean p.name
          (not-true (identifier p.name)
          (not-raised (not (identifier p.name)) (user.IllegalPropertyName p.name) legal)),
      names-of supports type_name ds (p.name ∷ before) ps
          (no-later valued others (no-later named (valued otherwise others) h)),
    )

fit-row : (ps : List Property) (order : Order) (place bound : ℕ) → AreParsedProperties ps
    → length (row (map property.format.writes ps) order place) ≤ bound → bound < 2 ^ 32
    → AllByRecursion (λ (p : Property). any_value.format.admits p.value) ps
fit-row [] order place bound content within small = tt
fit-row (p ∷ ps) order place bound content within small =
    let first : List ℕ = property.format.writes p order place in
    let e = length-append first (row (map property.format.writes ps) order (place + length first)) in
    let one : content.0.items ≤ length first =
    then-second (text.format.writes p.name) (any_value.format.writes p.value) order place content.0.items
    (content.0.long order) in (
      content.0.admitted (omega (arith, e, one, within, small)),
      fit-row ps order (place + length first) bound content.1 (omega (arith, e, within)) small,
    )

fit-offer : (object : Ior) (ps : List Property) → encoded_size object ps ≤ most_bytes → AreParsedProperties ps
    → AllByRecursion (λ (p : Property). any_value.format.admits p.value) ps
fit-offer object ps h content =
    let target : List ℕ = reference.format.writes object Big 0 in
    let count : List ℕ = (number 4).writes (length ps) Big (0 + length target) in
    let place : ℕ = (0 + length target) + length count in
    let items : List ℕ = row (map property.format.writes ps) Big place in
    let e = length-append target (count ++ items) in
    let f = length-append count items in
    fit-row ps Big place most_bytes content (omega (arith, e, f, h)) (omega arith)

both-of : (ps : List Property) → AllByRecursion (λ (p : Property). HasNoNul p.name) ps
    → AllByRecursion (λ (p : Property). any_value.format.admits p.value) ps
    → AllByRecursion property.format.admits ps
both-of [] names values = tt
both-of (p ∷ ps) names values = ((names.0, values.0), both-of ps names.1 values.1)

module _ (s : Store) (object : Ior) (type_name : List ℕ) (ps : List Property) (content : IsParsedOffer object ps) where
  properties-admitted : offer_cause s type_name ps ≡ None → is_too_large object ps ≡ false
      → (sequence property).format.admits ps
  properties-admitted fit fits =
      let ds = full_properties s.types.types type_name in
      let few = small object ps fits in
      let count = few.0 in
      sequence-from property ps (omega (arith, count))
      (both-of ps
      (names-of s.attributes.supports_dynamic_properties type_name ds [] ps
      (no-first (properties_cause s.attributes.supports_dynamic_properties type_name ds [] ps)
      (missing_cause type_name (missing_property ds ps)) fit))
      (fit-offer object ps few.1 content.properties))

  pub exports : is_done (apply s (change.Export object type_name ps)).outcome ≡ true
      → AdmitsChange (change.Export object type_name ps)
  exports h =
      let none = no_export_cause s object type_name ps (none-of s (change.Export object type_name ps) h) in (
        (object, (type_name, ps)),
        refl,
        (
          content.target,
          (
            open-named s.types.types type_name (interface_cause s type_name object) none.typed,
            properties-admitted none.offer none.room.fits,
          ),
        ),
      )

  pub exports-proxy : (if_match_all : Bool) (recipe : List ℕ) (policies : List Policy) → text.format.admits recipe
      → policies ≡ []
      → is_done (apply s (change.ExportProxy object type_name ps if_match_all recipe policies)).outcome ≡ true
      → AdmitsChange (change.ExportProxy object type_name ps if_match_all recipe policies)
  exports-proxy if_match_all recipe policies plain empty h =
      let c = change.ExportProxy object type_name ps if_match_all recipe policies in
      let none = no_proxy_cause s object type_name ps recipe policies (none-of s c h) in
      let none_passed : (sequence policy).format.admits policies =
      subst (sequence policy).format.admits (sym empty) (sequence-from policy [] (omega arith) tt) in (
        (object, (type_name, (ps, (if_match_all, (recipe, policies))))),
        refl,
        (
          content.target,
          (
            open-named s.types.types type_name no_more none.typed,
            (properties-admitted none.offer none.room.fits, (tt, (plain, none_passed))),
          ),
        ),
      )

-- ---- links

register-admitted : (register : Option Ior) → IsParsedRegister register → AdmitsRegister register
register-admitted None h = tt
register-admitted (Some r) h = h

pub links : (s : Store) (name : List ℕ) (target : Ior) (def_pass_on limiting : FollowOption) (register : Option Ior)
    → reference.format.admits target → IsParsedRegister register
    → is_done (apply s (change.AddLink name target def_pass_on limiting register)).outcome ≡ true
    → AdmitsChange (change.AddLink name target def_pass_on limiting register)
links s name target def_pass_on limiting register t r h =
    let none = none-of s (change.AddLink name target def_pass_on limiting register) h in
    let named = link_name_cause s.links name in
    let rest =
    target_cause target register otherwise rules_cause s.attributes.max_link_follow_policy def_pass_on limiting
    otherwise limit_if (nat_le most_links (length s.links)) in
    let legal =
    no-first (raise_if (not (word_name name)) (user.IllegalLinkName name))
    (raise_if (is_some (link_of s.links name)) (user.DuplicateLinkName name)) (no-first named rest none) in
    let clean =
    word-clean name
    (not-true (word_name name) (not-raised (not (word_name name)) (user.IllegalLinkName name) legal)) in (
      (clean, (t, (follow-admitted def_pass_on, follow-admitted limiting))),
      register-admitted register r,
    )

-- ---- types

-- a type fewer, where one had the name
fewer-when : (b : Bool) (t : ServiceType) (types few : List ServiceType) (any : Bool) → length few ≤ length types
    → (any ≡ true → suc (length few) ≤ length types) → (b || any) ≡ true
    → suc (length (cond (not b) (t ∷ few) few)) ≤ suc (length types)
fewer-when true t types few any all less h = omega (arith, all)
fewer-when false t types few any all less h = let k = less h in omega (arith, k)

pub one-fewer : (types : List ServiceType) (id : List ℕ) → has_type types id ≡ true
    → suc (length (filter (λ t. not (is_named id t)) types)) ≤ length types
one-fewer [] id h = absurd (let bad : ⊥ = cc in bad)
one-fewer (t ∷ types) id h =
    fewer-when (is_named id t) t types (filter (λ x. not (is_named id x)) types) (has_type types id)
    (filter-length (λ x. not (is_named id x)) types) (λ k. one-fewer types id k) h

-- a type of another name is still there
there-when : (b a : Bool) (t : ServiceType) (few : List ServiceType) (id other : List ℕ) (any : Bool)
    → bytes_eq other id ≡ false → is_named id t ≡ b → is_named other t ≡ a
    → (any ≡ true → has_type few other ≡ true) → (a || any) ≡ true → has_type (cond (not b) (t ∷ few) few) other ≡ true
there-when true true t few id other any apart is same later h =
    let one : t.name ≡ id = (bytes_eq-Decides t.name id).0 is in
    let two : t.name ≡ other = (bytes_eq-Decides t.name other).0 same in
    let bad : bytes_eq other id ≡ true = (bytes_eq-Decides other id).1 (sym two ∙ one) in
    absurd (let no : ⊥ = cc in no)
there-when true false t few id other any apart is same later h = later h
there-when false true t few id other any apart is same later h = rw same refl
there-when false false t few id other any apart is same later h = rw same (later h)

pub still-there : (types : List ServiceType) (id other : List ℕ) → bytes_eq other id ≡ false → has_type types other ≡ true
    → has_type (filter (λ t. not (is_named id t)) types) other ≡ true
still-there [] id other apart h = h
still-there (t ∷ types) id other apart h =
    there-when (is_named id t) (is_named other t) t (filter (λ x. not (is_named id x)) types) id other
    (has_type types other) apart refl refl (λ k. still-there types id other apart k) h
