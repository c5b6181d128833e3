-- The first profile of IIOP: how it is found, and that a made one is found.
use Rattle.std.proofs.Common.{◌≡◌, ◌≢◌, ℕ, suc, ◌+◌, ◌-◌, ◌^◌, ◌<◌, ◌≤◌, nat_eq, Bool, true, false, List, [], ◌∷◌, ◌++◌}
use Rattle.std.proofs.Common.{length, drop, get_or, add-one, drop-cons, Option, Some, None, Ok, Err, refl, sym, ap, ◌∙◌}
use Rattle.std.proofs.Common.{subst, arith, length-append, if◌then◌else◌}
use Rattle.std.specs.Option.{option_map, is_some}
use Rattle.std.proofs.lemmas.List.{append-nil, drop_all}
use Rattle.std.proofs.lemmas.Bool.{eqb-true, eqb-false, ne_eqb}
use Rattle.td_cdr.specs.declared.order.Order.{Order}
use Rattle.td_cdr.specs.declared.order.Order.TheVariants.{Big}
use Rattle.td_cdr.specs.declared.value_fault.ValueFault.{ValueFault}
use Rattle.td_cdr.specs.Format.{Read, ◌then◌}
use Rattle.td_cdr.specs.Place.{At}
use Rattle.td_cdr.specs.Text.{HasNoNul}
use Rattle.td_typecode.specs.declared.reference.Profile.{Profile}
use Rattle.td_ior.specs.declared.profile.Iiop.{Iiop}
use Rattle.td_ior.specs.Enclosed.{Encloses, behind, start_of}
use Rattle.td_ior.specs.Keys.{◌>>=◌}
use Rattle.td_ior.specs.Laws.{ReadsWhatIsSpelled}
use Rattle.td_ior.specs.Profiles.{ProfileBody, front, front_of, components, SpellsComponents, HasComponents}
use Rattle.td_ior.specs.Profiles.{components_in_profile}
use Rattle.td_ior.specs.Profiles.{components_at, with_components, iiop_of_body, no_components}
use Rattle.td_ior.specs.Profiles.{iiop_tag, IsIiop, HasNoIiop, IsFirstIiop, first_iiop, iiop_in, or_else}
use Rattle.td_ior.specs.Profiles.{iiop_of, made_octets, made_reference}
use Rattle.td_ior.proofs.Encapsulated.{read-found, read-only}
use Rattle.td_ior.proofs.Keys.{bind-Some, some-is}

-- ---- a search that has come to place i

step : (ps : List Profile) (i : ℕ) (p : Profile) → i < length ps → p ≡ get_or ps i p
    → first_iiop (drop i ps) ≡ or_else (iiop_in p) (first_iiop (drop (i + 1) ps))
unfolding first_iiop
step ps i p h e =
    ap first_iiop (drop-cons ps i p h ∙ ap (λ (q : Profile). q ∷ drop (suc i) ps) (sym e))
    ∙ ap (λ (n : ℕ). or_else (iiop_in p) (first_iiop (drop n ps))) (sym (add-one i))

found-first : {B : Type 0} (f : B → Iiop) (r : Option B) (later : Option Iiop) → is_some r ≡ true
    → or_else (option_map f r) later ≡ option_map f r
found-first f (Some x) later e = refl
found-first f None later e = absurd cc

missed-first : {B : Type 0} (f : B → Iiop) (r : Option B) (later : Option Iiop) → is_some r ≡ false
    → or_else (option_map f r) later ≡ later
missed-first f (Some x) later e = absurd cc
missed-first f None later e = refl

pub found-here : {B : Type 0} (f : B → Iiop) (r : Option B) (ps : List Profile) (i : ℕ) (p : Profile) → i < length ps
    → p ≡ get_or ps i p → option_map f r ≡ iiop_in p → is_some r ≡ true → first_iiop (drop i ps) ≡ first_iiop ps
    → option_map f r ≡ first_iiop ps
found-here f r ps i p h e is some so_far =
    sym (found-first f r (first_iiop (drop (i + 1) ps)) some)
    ∙ ap (λ (o : Option Iiop). or_else o (first_iiop (drop (i + 1) ps))) is ∙ sym (step ps i p h e) ∙ so_far

pub missed-here : {B : Type 0} (f : B → Iiop) (r : Option B) (ps : List Profile) (i : ℕ) (p : Profile) → i < length ps
    → p ≡ get_or ps i p → option_map f r ≡ iiop_in p → is_some r ≡ false → first_iiop (drop i ps) ≡ first_iiop ps
    → first_iiop (drop (i + 1) ps) ≡ first_iiop ps
missed-here f r ps i p h e is none so_far =
    sym (missed-first f r (first_iiop (drop (i + 1) ps)) none)
    ∙ ap (λ (o : Option Iiop). or_else o (first_iiop (drop (i + 1) ps))) is ∙ sym (step ps i p h e) ∙ so_far

pub missed-all : (ps : List Profile) (i : ℕ) → length ps ≤ i → first_iiop (drop i ps) ≡ first_iiop ps
    → None ≡ first_iiop ps
unfolding first_iiop
missed-all ps i h so_far = sym (ap first_iiop (drop_all i ps h)) ∙ so_far

-- ---- components

-- what a reading of components comes to, at any version but 1.0
reading-has : (minor : ℕ) (a : At) (r : Read ValueFault (List Profile)) → minor ≢ 0 → a.origin ≤ a.place
    → components.format.reads a ≡ r → HasComponents a minor (components_in_profile r)
reading-has minor a (Ok x) newer within e =
    let f = components.lawful.found a x.0 x.1 within e in
    HasComponents.spelled newer (record { bytes = f.bytes; ignored = x.1.rest; parts = f.parts; spelled = f.spelled })
reading-has minor a (Err f) newer within e =
    HasComponents.absent newer (λ others s.
    let one = components.lawful.only a others s.bytes s.ignored within s.spelled s.parts in cc (one, e)) refl

by-version : (t : Bool) (minor : ℕ) (a : At) → nat_eq minor 0 ≡ t → a.origin ≤ a.place
    → HasComponents a minor (if t then [] else components_in_profile (components.format.reads a))
by-version true minor a e within = HasComponents.older (eqb-true minor 0 e) refl
by-version false minor a e within =
    reading-has minor a (components.format.reads a) (eqb-false minor 0 e) within refl

components-found : (minor : ℕ) (a : At) → a.origin ≤ a.place → HasComponents a minor (components_at minor a)
components-found minor a within = by-version (nat_eq minor 0) minor a refl within

newer-reads : (minor : ℕ) (a : At) → minor ≢ 0 → components_at minor a ≡ components_in_profile (components.format.reads a)
newer-reads minor a newer = rw (ne_eqb minor 0 newer) refl

none-content : (a : At) (r : Read ValueFault (List Profile)) → a.origin ≤ a.place → components.format.reads a ≡ r
    → ((others : List Profile) → ¬ (SpellsComponents a others)) → components_in_profile r ≡ []
none-content a (Ok x) within e none =
    let f = components.lawful.found a x.0 x.1 within e in
    absurd (none x.0 (record { bytes = f.bytes; ignored = x.1.rest; parts = f.parts; spelled = f.spelled }))
none-content a (Err f) within e none = refl

components-only : (minor : ℕ) (a : At) (cs : List Profile) → a.origin ≤ a.place → HasComponents a minor cs
    → components_at minor a ≡ cs
components-only minor a cs within (HasComponents.older e none) = rw e (sym none)
components-only minor a cs within (HasComponents.spelled newer s) =
    newer-reads minor a newer
    ∙ ap components_in_profile (components.lawful.only a cs s.bytes s.ignored within s.spelled s.parts)
components-only minor a cs within (HasComponents.absent newer none is) =
    newer-reads minor a newer ∙ none-content a (components.format.reads a) within refl none ∙ sym is

none-admitted : components.format.admits []
none-admitted = (omega arith, refl)

-- none were written
none-at : (t : Bool) (minor : ℕ) (a : At) → nat_eq minor 0 ≡ t → a.origin ≤ a.place → a.place - a.origin ≡ a.place
    → a.order ≡ Big → a.rest ≡ (if t then [] else components.format.writes [] Big a.place)
    → length a.rest < 2 ^ 32 → (if t then [] else components_in_profile (components.format.reads a)) ≡ []
none-at true minor a e within from big is short = refl
none-at false minor a e within from big is short =
    let bytes : List ℕ = components.format.writes [] Big a.place in
    let few : length bytes < 2 ^ 32 = subst (λ (b : List ℕ). length b < 2 ^ 32) is short in
    let spelled = components.lawful.written Big a.place [] none-admitted few in
    let here : components.format.spells a.order (a.place - a.origin) [] bytes =
    subst (λ (n : ℕ). components.format.spells a.order n [] bytes) (sym from)
    (subst (λ (o : Order). components.format.spells o a.place [] bytes) (sym big) spelled) in
    ap components_in_profile
    (components.lawful.only a [] bytes [] within here (is ∙ sym (append-nil bytes)))

-- ---- a profile

-- what stands in front of the components, and where they stand
record ContentAt (r : Read ValueFault ProfileBody) (v : Iiop) : Type 0 where
  there : At
  read : r ≡ Ok (front_of v, there)
  components : components_at v.minor there ≡ v.components

abbrev iiop_with : Iiop → List Profile → Option Iiop
iiop_with v cs = Some (record v { components = cs })

content-found : (r : Read ValueFault ProfileBody) (v : Iiop) → iiop_of_body r ≡ Some v → ContentAt r v
content-found (Ok x) v e =
    subst (ContentAt (Ok x)) (some-is (with_components x.0 x.1) v e)
    (record { there = x.1; read = refl; components = refl })
content-found (Err f) v e = absurd cc

content-only : (r : Read ValueFault ProfileBody) (v : Iiop) (there : At) → r ≡ Ok (front_of v, there)
    → components_at v.minor there ≡ v.components → iiop_of_body r ≡ Some v
content-only r v there read same =
    ap iiop_of_body read ∙ ap (iiop_with v) same

tagged : (t : Bool) (p : Profile) (v : Iiop) → nat_eq p.tag 0 ≡ t
    → (if t then (start_of p.octets >>= λ a. iiop_of_body (front.format.reads a)) else None) ≡ Some v → IsIiop p v
tagged true p v e h =
    let b = bind-Some (start_of p.octets) (λ (a : At). iiop_of_body (front.format.reads a)) v h in
    let t = content-found (front.format.reads b.0) v b.2 in
    let r = read-found front p.octets (front_of v) b.0 t.there b.1 t.read in
    let within : t.there.origin ≤ t.there.place =
    subst (λ (a : At). a.origin ≤ a.place) r.next_is (omega arith) in
    let here : HasComponents t.there v.minor v.components =
    subst (HasComponents t.there v.minor) t.components (components-found v.minor t.there within) in
    record {
      tag = eqb-true p.tag 0 e;
      body = r.holds;
      components = subst (λ (a : At). HasComponents a v.minor v.components) (sym r.next_is) here;
    }
tagged false p v e h = absurd cc

profile-found : (p : Profile) (v : Iiop) → iiop_in p ≡ Some v → IsIiop p v
profile-found p v e = tagged (nat_eq p.tag 0) p v refl e

profile-only : (p : Profile) (v : Iiop) → IsIiop p v → iiop_in p ≡ Some v
profile-only p v s =
    let r = read-only front p.octets (front_of v) s.body in
    let there : At = behind front p.octets (front_of v) s.body in
    let same = components-only v.minor there v.components (omega arith) s.components in
    rw (s.tag, r.begins) (content-only (front.format.reads r.at) v there r.read same)

pub profile-agrees : ReadsWhatIsSpelled IsIiop iiop_in
profile-agrees = record { found = profile-found; only = profile-only }

no-profile : (p : Profile) → ((v : Iiop) → ¬ (IsIiop p v)) → (o : Option Iiop) → iiop_in p ≡ o → iiop_in p ≡ None
no-profile p h (Some w) e = absurd (h w (profile-found p w e))
no-profile p h None e = e

-- ---- the first of them

skipped : (before others : List Profile) → HasNoIiop before → first_iiop (before ++ others) ≡ first_iiop others
unfolding first_iiop
skipped [] others h = refl
skipped (p ∷ before) others h = rw (no-profile p h.0 (iiop_in p) refl) (skipped before others h.1)

first-only : (ps : List Profile) (v : Iiop) → IsFirstIiop ps v → first_iiop ps ≡ Some v
unfolding first_iiop
first-only ps v s =
    ap first_iiop s.parts ∙ skipped s.before (s.profile ∷ s.others) s.free ∙ rw (profile-only s.profile v s.is) refl

one-more : (p : Profile) (ps : List Profile) (v : Iiop) → ((w : Iiop) → ¬ (IsIiop p w)) → IsFirstIiop ps v
    → IsFirstIiop (p ∷ ps) v
one-more p ps v h s = record {
  before = p ∷ s.before;
  profile = s.profile;
  others = s.others;
  parts = ap (λ (x : List Profile). p ∷ x) s.parts;
  free = (h, s.free);
  is = s.is;
}

none-is : (p : Profile) → iiop_in p ≡ None → (w : Iiop) → ¬ (IsIiop p w)
none-is p e = λ w s. cc (profile-only p w s, e)

mutual_found : (o : Option Iiop) (p : Profile) (ps : List Profile) (v : Iiop) → iiop_in p ≡ o
    → or_else o (first_iiop ps) ≡ Some v → ((first_iiop ps ≡ Some v) → IsFirstIiop ps v) → IsFirstIiop (p ∷ ps) v
mutual_found (Some w) p ps v e h later = record {
  before = [];
  profile = p;
  others = ps;
  parts = refl;
  free = tt;
  is = profile-found p v (e ∙ h);
}
mutual_found None p ps v e h later = one-more p ps v (none-is p e) (later h)

first-found : (ps : List Profile) (v : Iiop) → first_iiop ps ≡ Some v → IsFirstIiop ps v
unfolding first_iiop
first-found [] v e = absurd cc
first-found (p ∷ ps) v e = mutual_found (iiop_in p) p ps v refl e (first-found ps v)

pub first-agrees : ReadsWhatIsSpelled IsFirstIiop first_iiop
first-agrees = record { found = first-found; only = first-only }

both-none : (o later : Option Iiop) → or_else o later ≡ None → (o ≡ None) × (later ≡ None)
both-none (Some w) later e = absurd cc
both-none None later e = (refl, e)

pub none-found : (ps : List Profile) → first_iiop ps ≡ None → HasNoIiop ps
unfolding first_iiop
none-found [] e = tt
none-found (p ∷ ps) e =
    let b = both-none (iiop_in p) (first_iiop ps) e in
    (none-is p b.0, none-found ps b.1)

pub none-only : (ps : List Profile) → HasNoIiop ps → first_iiop ps ≡ None
unfolding first_iiop
none-only [] h = refl
none-only (p ∷ ps) h = rw (no-profile p h.0 (iiop_in p) refl) (none-only ps h.1)

-- ---- a made profile

pub made-found : (id host key : List ℕ) (port minor : ℕ) → HasNoNul host → port < 65536 → minor ≤ 1
    → length (made_octets host port key minor) < 2 ^ 32
    → iiop_of (made_reference id host port key minor)
    ≡ Some (record { host = host; port = port; key = key; minor = minor; components = [] })
unfolding first_iiop
made-found id host key port minor clean low newest short =
    let v : Iiop = record { host = host; port = port; key = key; minor = minor; components = [] } in
    let bytes : List ℕ = front.format.writes (front_of v) Big 1 in
    let later : List ℕ = no_components minor Big (1 + length bytes) in
    let long = length-append bytes later in
    let begins =
    front.lawful.written Big 1 (front_of v) (tt, (omega (arith, newest), (clean, (low, tt))))
    (omega (arith, short, long)) in
    let holds : Encloses front (made_octets host port key minor) (front_of v) =
    record {
      little = false;
      order_octet = 0;
      body = bytes;
      ignored = later;
      order_of_flag = refl;
      parts = refl;
      short = short;
      spelled = begins;
    } in
    let r = read-only front (made_octets host port key minor) (front_of v) holds in
    let there : At = behind front (made_octets host port key minor) (front_of v) holds in
    let few : length later < 2 ^ 32 = omega (arith, short, long) in
    let none : components_at minor there ≡ [] =
    none-at (nat_eq minor 0) minor there refl (omega arith) (omega arith) refl refl few in
    rw (r.begins, content-only (front.format.reads r.at) v there r.read none) refl

pub made-back : (id host key kept : List ℕ) (port minor : ℕ) (profiles : List Profile) → HasNoNul host → port < 65536
    → minor ≤ 1 → length kept < 2 ^ 32 → kept ≡ made_octets host port key minor
    → profiles ≡ record { tag = iiop_tag; octets = kept } ∷ []
    → first_iiop profiles ≡ Some (record { host = host; port = port; key = key; minor = minor; components = [] })
made-back id host key kept port minor profiles clean low newest short e f =
    let profiles_are : profiles ≡ (made_reference id host port key minor).profiles =
    f ∙ ap (λ (o : List ℕ). record { tag = iiop_tag; octets = o } ∷ []) e in
    ap first_iiop profiles_are
    ∙ made-found id host key port minor clean low newest (subst (λ (o : List ℕ). length o < 2 ^ 32) e short)
