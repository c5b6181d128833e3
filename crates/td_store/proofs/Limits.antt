-- Offers, links and stores after each change.
use Rattle.std.proofs.Common.{◌≡◌, ℕ, ◌+◌, ◌<◌, ◌≤◌, Bool, true, false, not, cond, ◌||◌, ◌&&◌, inl, inr, List}
use Rattle.std.proofs.Common.{[], ◌∷◌, ◌++◌, length, map, take, zero, suc, Option, None, Some, refl, sym, ap, ◌∙◌}
use Rattle.std.proofs.Common.{subst, arith}
use Rattle.std.specs.List.{filter, AllByRecursion, IsDistinct}
use Rattle.std.specs.List.Sorted.{IsStrictlySortedBy}
use Rattle.std.specs.Option.{is_none}
use Rattle.std.specs.Ordering.{nat_cmp}
use Rattle.std.specs.Str.{bytes_eq}
use Rattle.std.specs.declared.cmp.Ordering.TheVariants.{Less}
use Rattle.std.proofs.lemmas.Bool.{cases_Bool, lt-ltb, and_parts, eqb-true, ne_eqb}
use Rattle.std.proofs.lemmas.List.{length-append}
use Rattle.td_policy.specs.Stated.{nothing}
use Rattle.td_policy.specs.declared.attributes.Attributes.{Attributes}
use Rattle.td_policy.specs.declared.stated.Stated.{Stated}
use Rattle.td_types.specs.Repository.{incarnation_of}
use Rattle.td_types.specs.declared.entry.ServiceType.{ServiceType}
use Rattle.td_value.specs.Enumerations.{follow_option}
use Rattle.td_value.specs.declared.enumerations.FollowOption.{FollowOption}
use Rattle.td_value.specs.declared.enumerations.FollowOption.TheVariants.{LocalOnly, IfNoLocal, Always}
use Rattle.td_value.specs.declared.structures.Property.{Property}
use Rattle.td_store.specs.Candidates.{belongs, is_exact, is_asked, has_dynamic, is_candidate, is_used, candidates}
use Rattle.td_store.specs.Candidates.{has_conforming_type}
use Rattle.td_store.specs.Laws.{HasConformingType, IsStaticOffer}
use Rattle.td_store.specs.LinkLists.{most_links, link_of, is_linked, with_follow_rules, without_link}
use Rattle.td_store.specs.OfferLists.{most_offers, is_numbered, offer_of, without_offer, with_properties}
use Rattle.td_store.specs.OfferLists.{NumbersRise}
use Rattle.td_store.specs.Stores.{AdmitsLink, IsOffer, IsStore}
use Rattle.td_store.specs.declared.record.LinkRecord.{LinkRecord}
use Rattle.td_store.specs.declared.record.OfferRecord.{OfferRecord}
use Rattle.td_store.specs.declared.store.Store.{Store}
use Rattle.td_store.proofs.Choosing.{candidate-asked, asked-conforms, has-incarnation}
use Rattle.td_store.proofs.Homing.{push-all, weaker}
use Rattle.td_store.proofs.Mixing.{filter-yes, filter-no}
use Rattle.td_store.proofs.Ordering.{found-each}

-- ---- lists

pub all-filter : {X : Type 0} (P : X → Type 0) (test : X → Bool) (xs : List X) → AllByRecursion P xs
    → AllByRecursion P (filter test xs)
all-filter P test [] h = tt
all-filter P test (x ∷ xs) h =
    elim (cases_Bool (test x)) [
      | inl y ↦ rw (filter-yes test x xs y) (h.0, all-filter P test xs h.1)
      | inr n ↦ rw (filter-no test x xs n) (all-filter P test xs h.1)
    ]

-- the same of what is made of the elements
mapped-filter : {X Y : Type 0} (P : Y → Type 0) (f : X → Y) (test : X → Bool) (xs : List X)
    → AllByRecursion P (map f xs) → AllByRecursion P (map f (filter test xs))
mapped-filter P f test [] h = tt
mapped-filter P f test (x ∷ xs) h =
    elim (cases_Bool (test x)) [
      | inl y ↦ rw (filter-yes test x xs y) (h.0, mapped-filter P f test xs h.1)
      | inr n ↦ rw (filter-no test x xs n) (mapped-filter P f test xs h.1)
    ]

mapped-push : {X Y : Type 0} (P : Y → Type 0) (f : X → Y) (xs : List X) (x : X) → AllByRecursion P (map f xs) → P (f x)
    → AllByRecursion P (map f (xs ++ x ∷ []))
mapped-push P f [] x h p = (p, tt)
mapped-push P f (y ∷ xs) x h p = (h.0, mapped-push P f xs x h.1 p)

few-left : {X : Type 0} (test : X → Bool) (xs : List X) → length (filter test xs) ≤ length xs
few-left test [] = omega arith
few-left test (x ∷ xs) =
    let rest = few-left test xs in
    elim (cases_Bool (test x)) [
      | inl y ↦ rw (filter-yes test x xs y) (omega (arith, rest))
      | inr n ↦ rw (filter-no test x xs n) (omega (arith, rest))
    ]

all-passing : {X : Type 0} (test : X → Bool) (xs : List X) → AllByRecursion (λ x. test x ≡ true) (filter test xs)
all-passing test [] = tt
all-passing test (x ∷ xs) =
    elim (cases_Bool (test x)) [
      | inl y ↦ rw (filter-yes test x xs y) (y, all-passing test xs)
      | inr n ↦ rw (filter-no test x xs n) (all-passing test xs)
    ]

all-front : {X : Type 0} (P : X → Type 0) (n : ℕ) (xs : List X) → AllByRecursion P xs → AllByRecursion P (take n xs)
all-front P zero xs h = tt
all-front P (suc n) [] h = tt
all-front P (suc n) (x ∷ xs) h = (h.0, all-front P n xs h.1)

whole-front : {X : Type 0} (n : ℕ) (xs : List X) → length xs ≤ n → take n xs ≡ xs
whole-front zero [] l = refl
whole-front zero (x ∷ xs) l = absurd (omega (arith, l))
whole-front (suc n) [] l = refl
whole-front (suc n) (x ∷ xs) l = ap (λ ys. x ∷ ys) (whole-front n xs (omega (arith, l)))

filter-alike : {X : Type 0} (P : X → Type 0) (p q : X → Bool) → ((x : X) → P x → p x ≡ q x) → (xs : List X)
    → AllByRecursion P xs → filter p xs ≡ filter q xs
filter-alike P p q same [] h = refl
filter-alike {X} P p q same (x ∷ xs) h =
    ap (λ b. cond b (x ∷ filter p xs) (filter p xs)) (same x h.0)
    ∙ ap (λ (ys : List X). cond (q x) (x ∷ ys) ys) (filter-alike P p q same xs h.1)

-- ---- candidates

candidate-conforms : (types : List ServiceType) (a : Attributes) (s : Stated) (asked : List ℕ) (o : OfferRecord)
    → is_candidate types a s asked o ≡ true → HasConformingType types asked o
candidate-conforms types a s asked o h =
    let parts =
    and_parts (belongs types o) (is_asked types (is_exact s) asked o.service_type)
    (candidate-asked types a s asked o h) in
    record {
      present = parts.0;
      conforming =
          asked-conforms types (is_exact s) asked o.service_type o.incarnation
          (has-incarnation o.incarnation (incarnation_of types o.service_type) parts.0) parts.1;
    }

pub all-conform : (types : List ServiceType) (a : Attributes) (s : Stated) (asked : List ℕ) (count : ℕ)
    (offers : List OfferRecord)
    → AllByRecursion (HasConformingType types asked) (candidates types a s asked count offers)
all-conform types a s asked count offers =
    let test = is_candidate types a s asked in
    weaker (λ o. test o ≡ true) (HasConformingType types asked) (take count (filter test offers))
    (candidate-conforms types a s asked)
    (all-front (λ o. test o ≡ true) count (filter test offers) (all-passing test offers))

and_true : (t u : Bool) → u ≡ true → (t && u) ≡ t
and_true true u e = e
and_true false u e = refl

or_fixed : (b c : Bool) → c ≡ false → (b || not c) ≡ true
or_fixed true c e = refl
or_fixed false c e = ap not e

plain-searched : (types : List ServiceType) (a : Attributes) (asked : List ℕ) (o : OfferRecord) → IsStaticOffer o
    → is_candidate types a nothing asked o ≡ has_conforming_type types asked o
plain-searched types a asked o plain =
    and_true (has_conforming_type types asked o) (is_used types a nothing o)
    (rw (
      ap (λ proxy. is_none proxy || a.supports_proxy_offers) plain.ordinary,
      or_fixed a.supports_dynamic_properties (has_dynamic o.properties) plain.fixed,
    ) refl)

pub all-searched : (types : List ServiceType) (a : Attributes) (asked : List ℕ) (offers : List OfferRecord)
    → AllByRecursion IsStaticOffer offers
    → candidates types a nothing asked (length offers) offers ≡ filter (has_conforming_type types asked) offers
all-searched types a asked offers plain =
    whole-front (length offers) (filter (is_candidate types a nothing asked) offers)
    (few-left (is_candidate types a nothing asked) offers)
    ∙ filter-alike IsStaticOffer (is_candidate types a nothing asked) (has_conforming_type types asked)
    (plain-searched types a asked) offers plain

-- ---- numbers

less-from_below : (a b : ℕ) → a < b → nat_cmp a b ≡ Less
less-from_below a b l = rw (lt-ltb a b l) refl

pub rise-none : NumbersRise []
unfolding IsStrictlySortedBy
rise-none = tt

pub rise-push : (os : List OfferRecord) (o : OfferRecord) → NumbersRise os
    → AllByRecursion (λ x. x.number < o.number) os → NumbersRise (os ++ o ∷ [])
unfolding IsStrictlySortedBy
rise-push [] o r a = (tt, tt)
rise-push (x ∷ os) o r a = (
  mapped-push (λ y. nat_cmp x.number y ≡ Less) (λ z. z.number) os o r.0 (less-from_below x.number o.number a.0),
  rise-push os o r.1 a.1,
)

pub rise-filter : (test : OfferRecord → Bool) (os : List OfferRecord) → NumbersRise os → NumbersRise (filter test os)
unfolding IsStrictlySortedBy
rise-filter test [] r = tt
rise-filter test (x ∷ os) r =
    elim (cases_Bool (test x)) [
      | inl y ↦ rw (filter-yes test x os y)
          (mapped-filter (λ y. nat_cmp x.number y ≡ Less) (λ z. z.number) test os r.0, rise-filter test os r.1)
      | inr n ↦ rw (filter-no test x os n) (rise-filter test os r.1)
    ]

number-when : (b : Bool) (o : OfferRecord) (ps : List Property)
    → (cond b (record o { properties = ps }) o).number ≡ o.number
number-when true o ps = refl
number-when false o ps = refl

same-numbers : (n : ℕ) (ps : List Property) (os : List OfferRecord)
    → map (λ o. o.number) (with_properties n ps os) ≡ map (λ o. o.number) os
same-numbers n ps [] = refl
same-numbers n ps (o ∷ os) =
    ap (λ z. z ∷ map (λ x. x.number) (with_properties n ps os)) (number-when (is_numbered n o) o ps)
    ∙ ap (λ (ns : List ℕ). o.number ∷ ns) (same-numbers n ps os)

pub rise-changed : (n : ℕ) (ps : List Property) (os : List OfferRecord) → NumbersRise os
    → NumbersRise (with_properties n ps os)
rise-changed n ps os r = subst (IsStrictlySortedBy nat_cmp) (sym (same-numbers n ps os)) r

-- ---- removing

found-other : (b : Bool) (o : OfferRecord) (found left : Option OfferRecord) → left ≡ found
    → cond b (Some o) left ≡ cond b (Some o) found
found-other b o found left e = ap (cond b (Some o)) e

pub removed-gone : (os : List OfferRecord) (n : ℕ) → offer_of (without_offer n os) n ≡ None
removed-gone [] n = refl
removed-gone (o ∷ os) n =
    elim (cases_Bool (is_numbered n o)) [
      | inl y ↦ rw y (removed-gone os n)
      | inr m ↦ rw (m, m) (removed-gone os n)
    ]

pub others-left : (os : List OfferRecord) (n other : ℕ) → (other ≡ n → ⊥)
    → offer_of (without_offer n os) other ≡ offer_of os other
others-left [] n other d = refl
others-left (o ∷ os) n other d =
    elim (cases_Bool (is_numbered n o)) [
      | inl y ↦
          let unlike : is_numbered other o ≡ false =
          ne_eqb o.number other (λ (e : o.number ≡ other). d (sym e ∙ eqb-true o.number n y)) in
          rw (y, unlike) (others-left os n other d)
      | inr m ↦ rw m (found-other (is_numbered other o) o (offer_of os other) (offer_of (without_offer n os) other)
          (others-left os n other d))
    ]

-- ---- names of links

names-push : (ls : List LinkRecord) (l : LinkRecord) → IsDistinct bytes_eq (map (λ x. x.name) ls)
    → link_of ls l.name ≡ None → IsDistinct bytes_eq (map (λ x. x.name) (ls ++ l ∷ []))
unfolding IsDistinct
names-push [] l d fresh = (tt, tt)
names-push (x ∷ ls) l d fresh =
    elim (cases_Bool (is_linked l.name x)) [
      | inl y ↦ absurd (let e : ◌≡◌ {A = Option LinkRecord} (Some x) None =
          sym (ap (λ b. cond b (Some x) (link_of ls l.name)) y) ∙ fresh in
          cc)
      | inr n ↦
          let later = sym (ap (λ b. cond b (Some x) (link_of ls l.name)) n) ∙ fresh in
          (mapped-push (λ name. bytes_eq x.name name ≡ false) (λ z. z.name) ls l d.0 n, names-push ls l d.1 later)
    ]

names-filter : (test : LinkRecord → Bool) (ls : List LinkRecord) → IsDistinct bytes_eq (map (λ x. x.name) ls)
    → IsDistinct bytes_eq (map (λ x. x.name) (filter test ls))
unfolding IsDistinct
names-filter test [] d = tt
names-filter test (x ∷ ls) d =
    elim (cases_Bool (test x)) [
      | inl y ↦ rw (filter-yes test x ls y)
          (mapped-filter (λ name. bytes_eq x.name name ≡ false) (λ z. z.name) test ls d.0, names-filter test ls d.1)
      | inr n ↦ rw (filter-no test x ls n) (names-filter test ls d.1)
    ]

-- ---- stores

pub with-offer : (s : Store) (o : OfferRecord) → IsStore s → IsOffer o → s.last_offer < o.number
    → length s.offers < most_offers → IsStore (record s { offers = s.offers ++ o ∷ []; last_offer = o.number })
with-offer s o valid offer above few = record {
  types = valid.types;
  types_writable = valid.types_writable;
  offers = push-all IsOffer s.offers o valid.offers offer;
  offers_rise = rise-push s.offers o valid.offers_rise
      (weaker (λ x. (0 < x.number) × (x.number ≤ s.last_offer)) (λ x. x.number < o.number) s.offers
      (λ x h. let a = h.1 in omega (arith, a, above)) valid.offers_counted);
  offers_counted = push-all (λ x. (0 < x.number) × (x.number ≤ o.number)) s.offers o
      (weaker (λ x. (0 < x.number) × (x.number ≤ s.last_offer)) (λ x. (0 < x.number) × (x.number ≤ o.number)) s.offers
      (λ x h. let a = h.1 in (h.0, omega (arith, a, above))) valid.offers_counted)
      (omega (arith, above), omega arith);
  few_offers = omega (arith, few, length-append s.offers (o ∷ []));
  links = valid.links;
  links_named = valid.links_named;
  few_links = valid.few_links;
  attributes = valid.attributes;
}

pub without-offer : (s : Store) (n : ℕ) → IsStore s → IsStore (record s { offers = without_offer n s.offers })
without-offer s n valid =
    let test : OfferRecord → Bool = λ o. not (is_numbered n o) in
    record {
      types = valid.types;
      types_writable = valid.types_writable;
      offers = all-filter IsOffer test s.offers valid.offers;
      offers_rise = rise-filter test s.offers valid.offers_rise;
      offers_counted = all-filter (λ o. (0 < o.number) × (o.number ≤ s.last_offer)) test s.offers valid.offers_counted;
      few_offers = let l = few-left test s.offers in let f = valid.few_offers in omega (arith, l, f);
      links = valid.links;
      links_named = valid.links_named;
      few_links = valid.few_links;
      attributes = valid.attributes;
    }

changed-when : (P : OfferRecord → Type 0) (b : Bool) (o : OfferRecord) (ps : List Property) → P o
    → (b ≡ true → P (record o { properties = ps })) → P (cond b (record o { properties = ps }) o)
changed-when P true o ps h k = k refl
changed-when P false o ps h k = h

all-changed : (P : OfferRecord → Type 0) (n : ℕ) (ps : List Property) (whole os : List OfferRecord)
    → ((o : OfferRecord) → offer_of whole n ≡ Some o → P (record o { properties = ps }))
    → AllByRecursion (λ o. offer_of whole o.number ≡ Some o) os → AllByRecursion P os
    → AllByRecursion P (with_properties n ps os)
all-changed P n ps whole [] good found h = tt
all-changed P n ps whole (o ∷ os) good found h = (
  changed-when P (is_numbered n o) o ps h.0
      (λ y. good o (ap (offer_of whole) (sym (eqb-true o.number n y)) ∙ found.0)),
  all-changed P n ps whole os good found.1 h.1,
)

still-counted : (P : ℕ → Type 0) (n : ℕ) (ps : List Property) (os : List OfferRecord)
    → AllByRecursion (λ o. P o.number) os → AllByRecursion (λ o. P o.number) (with_properties n ps os)
still-counted P n ps [] h = tt
still-counted P n ps (o ∷ os) h = (subst P (sym (number-when (is_numbered n o) o ps)) h.0, still-counted P n ps os h.1)

pub with-changed : (s : Store) (n : ℕ) (ps : List Property) → IsStore s
    → ((o : OfferRecord) → offer_of s.offers n ≡ Some o → IsOffer (record o { properties = ps }))
    → IsStore (record s { offers = with_properties n ps s.offers })
with-changed s n ps valid good = record {
  types = valid.types;
  types_writable = valid.types_writable;
  offers = all-changed IsOffer n ps s.offers s.offers good (found-each s.offers valid.offers_rise) valid.offers;
  offers_rise = rise-changed n ps s.offers valid.offers_rise;
  offers_counted = still-counted (λ number. (0 < number) × (number ≤ s.last_offer)) n ps s.offers valid.offers_counted;
  few_offers = let f = valid.few_offers in let l = length-changed s.offers in omega (arith, f, l);
  links = valid.links;
  links_named = valid.links_named;
  few_links = valid.few_links;
  attributes = valid.attributes;
}
  where
    length-changed : (os : List OfferRecord) → length (with_properties n ps os) ≡ length os
    length-changed [] = refl
    length-changed (o ∷ os) = let l = length-changed os in omega (arith, l)

pub with-link : (s : Store) (l : LinkRecord) → IsStore s → AdmitsLink l → link_of s.links l.name ≡ None
    → length s.links < most_links → IsStore (record s { links = s.links ++ l ∷ [] })
with-link s l valid admitted fresh few = record {
  types = valid.types;
  types_writable = valid.types_writable;
  offers = valid.offers;
  offers_rise = valid.offers_rise;
  offers_counted = valid.offers_counted;
  few_offers = valid.few_offers;
  links = push-all AdmitsLink s.links l valid.links admitted;
  links_named = names-push s.links l valid.links_named fresh;
  few_links = omega (arith, few, length-append s.links (l ∷ []));
  attributes = valid.attributes;
}

pub without-link : (s : Store) (name : List ℕ) → IsStore s → IsStore (record s { links = without_link name s.links })
without-link s name valid =
    let test : LinkRecord → Bool = λ l. not (is_linked name l) in
    record {
      types = valid.types;
      types_writable = valid.types_writable;
      offers = valid.offers;
      offers_rise = valid.offers_rise;
      offers_counted = valid.offers_counted;
      few_offers = valid.few_offers;
      links = all-filter AdmitsLink test s.links valid.links;
      links_named = names-filter test s.links valid.links_named;
      few_links = let l = few-left test s.links in let f = valid.few_links in omega (arith, l, f);
      attributes = valid.attributes;
    }

-- ---- a link with other rules

follow-admitted : (f : FollowOption) → follow_option.format.admits f
follow-admitted LocalOnly = omega arith
follow-admitted IfNoLocal = omega arith
follow-admitted Always = omega arith

ruled-admitted : (b : Bool) (d m : FollowOption) (l : LinkRecord) → AdmitsLink l
    → AdmitsLink (cond b (record l { def_pass_on = d; limiting = m }) l)
ruled-admitted true d m l h = record {
  name = h.name;
  info = (h.info.0, (h.info.1.0, (follow-admitted d, follow-admitted m)));
}
ruled-admitted false d m l h = h

all-ruled : (name : List ℕ) (d m : FollowOption) (ls : List LinkRecord) → AllByRecursion AdmitsLink ls
    → AllByRecursion AdmitsLink (map (with_follow_rules name d m) ls)
all-ruled name d m [] h = tt
all-ruled name d m (l ∷ ls) h = (ruled-admitted (is_linked name l) d m l h.0, all-ruled name d m ls h.1)

same-name : (b : Bool) (d m : FollowOption) (l : LinkRecord)
    → (cond b (record l { def_pass_on = d; limiting = m }) l).name ≡ l.name
same-name true d m l = refl
same-name false d m l = refl

same-names : (name : List ℕ) (d m : FollowOption) (ls : List LinkRecord)
    → map (λ l. l.name) (map (with_follow_rules name d m) ls) ≡ map (λ l. l.name) ls
same-names name d m [] = refl
same-names name d m (l ∷ ls) =
    ap (λ (n : List ℕ). n ∷ map (λ l. l.name) (map (with_follow_rules name d m) ls)) (same-name (is_linked name l) d m l)
    ∙ ap (λ (ns : List (List ℕ)). l.name ∷ ns) (same-names name d m ls)

as-many : (name : List ℕ) (d m : FollowOption) (ls : List LinkRecord) → length (map (with_follow_rules name d m) ls) ≡ length ls
as-many name d m [] = refl
as-many name d m (l ∷ ls) = ap suc (as-many name d m ls)

pub with-rules : (s : Store) (name : List ℕ) (d m : FollowOption) → IsStore s
    → IsStore (record s { links = map (with_follow_rules name d m) s.links })
with-rules s name d m valid = record {
  types = valid.types;
  types_writable = valid.types_writable;
  offers = valid.offers;
  offers_rise = valid.offers_rise;
  offers_counted = valid.offers_counted;
  few_offers = valid.few_offers;
  links = all-ruled name d m s.links valid.links;
  links_named = subst (IsDistinct bytes_eq) (sym (same-names name d m s.links)) valid.links_named;
  few_links = let f = valid.few_links in let l = as-many name d m s.links in omega (arith, f, l);
  attributes = valid.attributes;
}
