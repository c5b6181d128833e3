-- Queries whose values can be written: why one is refused, and what a search has.
use Rattle.std.proofs.Common.{◌≡◌, ℕ, zero, suc, ◌+◌, Bool, true, false, cond, not, List, [], ◌∷◌, take, filter}
use Rattle.std.proofs.Common.{length, Option, Some, None, Result, Ok, Err, nat_le, option_map, refl}
use Rattle.std.proofs.Common.{subst, codes}
use Rattle.std.specs.List.{AllByRecursion}
use Rattle.std.specs.Map.{lookup}
use Rattle.std.specs.Str.{bytes_eq}
use Rattle.td_cdr.specs.Format.{◌>>=◌}
use Rattle.td_cdr.specs.Names.{identifier}
use Rattle.td_cdr.specs.Seen.{is_among}
use Rattle.td_cdr.specs.Sound.{text}
use Rattle.td_typecode.specs.Same.{same}
use Rattle.td_exceptions.specs.declared.exception.UserException.TheVariants as user
use Rattle.td_lang.specs.Constraints.{constraint_of}
use Rattle.td_lang.specs.Preferences.{preference_of}
use Rattle.td_lang.specs.declared.expr.Preference.{Preference}
use Rattle.td_lang.specs.declared.fault.LangFault.{LangFault}
use Rattle.td_cdr.specs.Marks.{Marks}
use Rattle.td_ops.specs.Parameters.{query}
use Rattle.td_ops.specs.declared.call.Query.{Query}
use Rattle.td_ops.specs.declared.operation.Operation.TheVariants as operation
use Rattle.td_policy.specs.Effective.{effective_of}
use Rattle.td_policy.specs.Stated.{if_known, next_stated, nothing, policies, stated, stated_after, stated_value, states}
use Rattle.td_policy.specs.Stated.{valid}
use Rattle.td_policy.specs.Fields.{kind_of, put}
use Rattle.td_policy.specs.Values.{PolicyKind}
use Rattle.td_policy.specs.declared.fault.PolicyFault.{PolicyFault}
use Rattle.td_policy.specs.declared.fault.PolicyFault.TheVariants as fault
use Rattle.td_policy.specs.declared.stated.Stated.{Stated}
use Rattle.td_policy.proofs.Fields.{States, each}
use Rattle.td_store.specs.Candidates.{candidates, is_candidate}
use Rattle.td_store.specs.LinkLists.{link_of}
use Rattle.td_store.specs.Stores.{IsOffer}
use Rattle.td_store.specs.declared.record.LinkRecord.{LinkRecord}
use Rattle.td_types.proofs.Sequences.{each-filter, each-found, sequence-each}
use Rattle.td_value.specs.Structures.{policy}
use Rattle.td_value.specs.Unions.{specified_props}
use Rattle.td_value.specs.declared.structures.Policy.{Policy}
use Rattle.td_value.specs.declared.unions.SpecifiedProps.{SpecifiedProps}
use Rattle.td_value.specs.declared.unions.SpecifiedProps.TheVariants as desired
use Rattle.td_register.specs.Causes.{Cause, with_cause, limit_if, ◌otherwise◌}
use Rattle.td_register.specs.Named.{type_found as known_type}
use Rattle.td_register.specs.Properties.{name_cause}
use Rattle.td_register.specs.Registers.{asked_in, no_more}
use Rattle.td_register.specs.Stores.{Store}
use Rattle.td_register.specs.declared.refusal.Refusal.TheVariants.{Raised}
use Rattle.td_trader_laws.specs.Writable.{IsWritableStore}
use Rattle.td_changes.specs.declared.bounds.Bounds.{Bounds}
use Rattle.td_trader_laws.proofs.Admitting.{AdmitsCause, AdmitsFound, AdmitsRefusal, given-admitted, limited, or-else}
use Rattle.td_trader_laws.proofs.Admitting.{refused-admitted}
use Rattle.td_trader_laws.proofs.AdmittingOffers.{IsAny, asked-any, known-type, name-cause}
use Rattle.td_trader.specs.Beginning.{begin_along, begin_here, begin_of, begin_unless, repeated_in, searched_under}
use Rattle.td_trader.specs.PlainTraders.{store_of}
use Rattle.td_trader.specs.Queries.{desired_cause, first_name, link_cause, names_cause, others_cause, parts_cause}
use Rattle.td_trader.specs.Queries.{parts_of, path_link, policy_refusal, preference_found, preferred_in, refusal}
use Rattle.td_trader.specs.Queries.{start_cause}
use Rattle.td_trader.specs.Queries.{start_policy, stated_in, unless_fault}
use Rattle.td_trader.specs.Serving.{local_of}
use Rattle.td_trader.specs.declared.begin.Begin.{Begin}
use Rattle.td_trader.specs.declared.begin.Begin.TheVariants.{Refused, Repeat, Search, Path}
use Rattle.td_trader_laws.specs.WritableTraders.{IsWritableSearch, TradersRefuseWritably, TradersSearchWritably}
use Rattle.td_trader_laws.specs.WritableWorlds.{AdmitsRefused}
use Rattle.td_trader_laws.proofs.Writing.{stores}

-- ---- policies

-- a fault whose members can be written, if there is one
abbrev FaultAdmitted : {X : Type 0} → Result X PolicyFault → Type 0
FaultAdmitted (Ok x) = Unit {0}
FaultAdmitted (Err f) = AdmitsRefusal (policy_refusal f)

fault-when : {X : Type 0} (b : Bool) (x y : Result X PolicyFault) → FaultAdmitted x → FaultAdmitted y
    → FaultAdmitted (cond b x y)
fault-when true x y h k = h
fault-when false x y h k = k

bound : {X Y : Type 0} (r : Result X PolicyFault) (f : X → Result Y PolicyFault) → FaultAdmitted r
    → ((x : X) → FaultAdmitted (f x)) → FaultAdmitted (r >>= f)
bound (Ok x) f h k = k x
bound (Err e) f h k = h

value-valid : {A : Type 0} (p : Policy) (o : Option A) → policy.format.admits p → FaultAdmitted (valid p o)
value-valid p None h = (p, refl, h)
value-valid p (Some x) h = tt

value-stated : {A : Type 0} (kind : PolicyKind A) (p : Policy) → policy.format.admits p → FaultAdmitted (stated_value kind p)
value-stated kind p h =
    fault-when (same p.value.code kind.code) (valid p (kind.value_of p.value.value)) (Err (fault.PolicyTypeMismatch p))
    (value-valid p (kind.value_of p.value.value) h) (p, refl, h)

abbrev IsGood : States → Type 0
IsGood entry = (p : Policy) (s : Stated) → policy.format.admits p → FaultAdmitted (entry p s)

good : {A : Type 0} (kind : PolicyKind A) (put : Option A → Stated → Stated) → IsGood (states kind put)
good kind put p s h = bound (stated_value kind p) (λ x. Ok (put x s)) (value-stated kind p h) (λ x. tt)

each-good : AllByRecursion (λ x. IsGood x.1) policies
each-good = each (λ x. IsGood x.1) (λ f. good (kind_of f) (put f))

abbrev FoundGood : Option States → Type 0
FoundGood None = Unit {0}
FoundGood (Some entry) = IsGood entry

good-when : (b : Bool) (entry : States) (later : Option States) → IsGood entry → FoundGood later
    → FoundGood (cond b (Some entry) later)
good-when true entry later h k = h
good-when false entry later h k = k

looked : (test : List ℕ → Bool) (entries : List (List ℕ × States)) → AllByRecursion (λ x. IsGood x.1) entries
    → FoundGood (lookup test entries)
looked test [] h = tt
looked test (x ∷ xs) h = good-when (test x.0) x.1 (lookup test xs) h.0 (looked test xs h.1)

known-good : (found : Option States) (p : Policy) (s : Stated) → FoundGood found → policy.format.admits p
    → FaultAdmitted (if_known found p s)
known-good None p s g h = tt
known-good (Some entry) p s g h = g p s h

next-good : (earlier : List (List ℕ)) (s : Stated) (p : Policy) → policy.format.admits p
    → FaultAdmitted (next_stated earlier s p)
next-good earlier s p h =
    let entry = if_known (lookup (bytes_eq p.name) policies) p s in
    fault-when (not (identifier p.name)) (Err (fault.IllegalPolicyName p.name))
    (cond (is_among p.name earlier) (Err (fault.DuplicatePolicyName p.name)) entry) (p.name, refl, h.0)
    (fault-when (is_among p.name earlier) (Err (fault.DuplicatePolicyName p.name)) entry (p.name, refl, h.0)
    (known-good (lookup (bytes_eq p.name) policies) p s (looked (bytes_eq p.name) policies each-good) h))

after-good : (earlier : List (List ℕ)) (s : Stated) (ps : List Policy) → AllByRecursion policy.format.admits ps
    → FaultAdmitted (stated_after earlier s ps)
after-good earlier s [] h = tt
after-good earlier s (p ∷ ps) h =
    bound (next_stated earlier s p) (λ t. stated_after (p.name ∷ earlier) t ps) (next-good earlier s p h.0)
    (λ t. after-good (p.name ∷ earlier) t ps h.1)

stated-found : (r : Result Stated PolicyFault) → FaultAdmitted r → AdmitsFound IsAny (unless_fault r)
stated-found (Ok s) h = tt
stated-found (Err f) h = h

-- ---- the other causes

preferred-any : (preference : List ℕ) (r : Result Preference LangFault) → text.format.admits preference
    → AdmitsFound IsAny (preference_found preference r)
preferred-any preference (Ok p) h = tt
preferred-any preference (Err f) h = (preference, refl, h)

names-admitted : (before names : List (List ℕ)) → AllByRecursion text.format.admits names
    → AdmitsCause (names_cause before names)
names-admitted before [] h = tt
names-admitted before (name ∷ names) h =
    or-else (name_cause before name) (names_cause (name ∷ before) names) (name-cause before name h.0)
    (names-admitted (name ∷ before) names h.1)

same-names : (xs ys : List (List ℕ)) → desired.Some xs ≡ desired.Some ys → xs ≡ ys
same-names xs ys h = cc

desired-admitted : (d : SpecifiedProps) → specified_props.format.admits d → AdmitsCause (desired_cause d)
desired-admitted desired.None h = tt
desired-admitted desired.All h = tt
desired-admitted (desired.Some names) h =
    let is = same-names h.1.0 names h.1.1 in
    names-admitted [] names (subst (AllByRecursion text.format.admits) is (sequence-each text h.1.0 h.1.2))

linked : (ps : List Policy) (found : Option LinkRecord) → AllByRecursion policy.format.admits ps
    → AdmitsCause (link_cause ps found)
linked ps (Some l) h = tt
linked ps None h =
    started (start_policy ps)
    (λ p e. each-found policy.format.admits (λ p. bytes_eq p.name (codes "starting_trader")) ps p h e)
  where
    started : (found : Option Policy) → ((p : Policy) → found ≡ Some p → policy.format.admits p)
        → AdmitsCause (option_map (λ p. Raised (user.InvalidPolicyValue p)) found)
    started None k = tt
    started (Some p) k = (p, refl, k p refl)

start-admitted : (links : List LinkRecord) (ps : List Policy) (first : Option (List ℕ))
    → AllByRecursion policy.format.admits ps → AdmitsCause (start_cause links ps first)
start-admitted links ps None h = tt
start-admitted links ps (Some name) h = linked ps (link_of links name) h

refusal-admitted : (bounds : Bounds) (count : ℕ) (s : Store) (q : Query) → query.format.admits q
    → AdmitsCause (refusal bounds count s q)
unfolding refusal
refusal-admitted bounds count s q h =
    let ps = sequence-each policy q.policies h.1.1.1.0 in
    let typed = with_cause (known_type s.types.types q.service_type) no_more in
    let others = others_cause bounds count s.links q (parts_of q).stated in
    let asked = with_cause (asked_in q.constraint) no_more in
    let preference = with_cause (preferred_in q.preference) no_more in
    let said = with_cause (stated_in q.policies) no_more in
    let start = start_cause s.links q.policies (first_name (parts_of q).stated) in
    let limit = limit_if (nat_le bounds.begins count) in
    or-else typed (parts_cause q otherwise others)
    (given-admitted IsAny (known_type s.types.types q.service_type) no_more
    (known-type s.types.types q.service_type h.0) (λ x _. tt))
    (or-else (parts_cause q) others
    (or-else asked (preference otherwise said)
    (given-admitted IsAny (asked_in q.constraint) no_more
    (asked-any q.constraint (constraint_of q.constraint) h.1.0) (λ x _. tt))
    (or-else preference said
    (given-admitted IsAny (preferred_in q.preference) no_more
    (preferred-any q.preference (preference_of q.preference) h.1.1.0) (λ x _. tt))
    (given-admitted IsAny (stated_in q.policies) no_more
    (stated-found (stated q.policies) (after-good [] nothing q.policies ps)) (λ x _. tt))))
    (or-else (desired_cause q.desired) (start otherwise limit) (desired-admitted q.desired h.1.1.1.1.0)
    (or-else start limit (start-admitted s.links q.policies (first_name (parts_of q).stated) ps)
    (limited (nat_le bounds.begins count)))))

-- ---- a query that begins

module _ (s : Store) (point : ℕ) (m : Marks) (q : Query) where
  here-so : (found : Option ℕ) → AdmitsRefused (begin_here s point m q found)
  here-so (Some n) = tt
  here-so None = tt

  along-so : (found : Option LinkRecord) → AdmitsRefused (begin_along s point m q found)
  along-so (Some link) = tt
  along-so None = here-so (repeated_in m (parts_of q).stated)

  unless-so : (cause : Cause) → AdmitsCause cause → AdmitsRefused (begin_unless cause s point m q)
  unless-so (Some f) h = refused-admitted operation.Query f h
  unless-so None h = along-so (path_link s.links (parts_of q).stated)

  pub begun-so : (bounds : Bounds) → query.format.admits q → AdmitsRefused (begin_of bounds s point m q)
  unfolding begin_of
  begun-so bounds h = unless-so (refusal bounds m.count s q) (refusal-admitted bounds m.count s q h)

pub refused-written : TradersRefuseWritably
refused-written t q o h e =
    subst AdmitsRefused e (begun-so (store_of t) (length t.history) t.marks q t.bounds h)

-- ---- a search

front : {X : Type 0} (P : X → Type 0) (n : ℕ) (xs : List X) → AllByRecursion P xs → AllByRecursion P (take n xs)
front P zero xs h = tt
front P (suc n) [] h = tt
front P (suc n) (x ∷ xs) h = (h.0, front P n xs h.1)

found-written : (s : Store) (a : Stated) (asked : List ℕ) (count : ℕ) → IsWritableStore s
    → AllByRecursion IsOffer (candidates s.types.types s.attributes a asked count s.offers)
found-written s a asked count w =
    let test = is_candidate s.types.types s.attributes a asked in
    front IsOffer count (filter test s.offers) (each-filter IsOffer test s.offers w.store.offers)

-- what a search has that is served by this store
local-written : (s : Store) (point mark : ℕ) (i : List ℕ) (q : Query) → IsWritableStore s
    → IsWritableSearch (local_of s point mark i q)
unfolding local_of
local-written s point mark i q w = record {
  candidates =
      found-written s (parts_of q).stated q.service_type
      (effective_of (parts_of q).stated s.attributes).search_card w;
  links = w.store.links;
  attributes = w.store.attributes;
}

abbrev SearchWritten : Begin → Type 0
SearchWritten (Refused o) = Unit {0}
SearchWritten (Repeat n) = Unit {0}
SearchWritten (Search l) = IsWritableSearch l
SearchWritten (Path l) = Unit {0}

module _ (s : Store) (point : ℕ) (m : Marks) (q : Query) (w : IsWritableStore s) where
  here-written : (found : Option ℕ) → SearchWritten (begin_here s point m q found)
  here-written (Some n) = tt
  here-written None = local-written s point (m.count + 1) (searched_under s m q).identifier q w

  along-written : (found : Option LinkRecord) → SearchWritten (begin_along s point m q found)
  along-written (Some link) = tt
  along-written None = here-written (repeated_in m (parts_of q).stated)

  unless-written : (cause : Cause) → SearchWritten (begin_unless cause s point m q)
  unless-written (Some f) = tt
  unless-written None = along-written (path_link s.links (parts_of q).stated)

  begun-written : (bounds : Bounds) → SearchWritten (begin_of bounds s point m q)
  unfolding begin_of
  begun-written bounds = unless-written (refusal bounds m.count s q)

pub search-written : TradersSearchWritably
search-written t q l w e =
    subst SearchWritten e
    (begun-written (store_of t) (length t.history) t.marks q (stores t w) t.bounds)
