-- IIOP profiles (CORBA's chapter on the General Inter-ORB Protocol, "IIOP IOR Profiles").
use Rattle.std.specs.Prelude.{◌≡◌, ◌≢◌, ℕ, ◌-◌, nat_eq, List, [], ◌∷◌, ◌++◌, if◌then◌else◌, Option, Some, None}
use Rattle.std.specs.Prelude.{Result, Ok, Err, refl}
use Rattle.std.proofs.Common.{arith}
use Rattle.std.specs.Option.{IsSome}
use Rattle.td_typecode.specs.declared.reference.Ior.{Ior}
use Rattle.td_typecode.specs.declared.reference.Profile.{Profile}
use Rattle.td_typecode.specs.References.{profile}
use Rattle.td_cdr.specs.declared.order.Order.TheVariants.{Big}
use Rattle.td_cdr.specs.Format.{Piece, Read, ◌then◌}
use Rattle.td_cdr.specs.Gap.{flag}
use Rattle.td_cdr.specs.Place.{At}
use Rattle.td_cdr.specs.Sound.{Sound, number, octets, text, sequence, ◌&◌, structure, placeholder, restriction}
use Rattle.td_cdr.specs.Sound.{bad_value}
use Rattle.td_cdr.specs.declared.value_fault.ValueFault.{ValueFault}
use Rattle.td_ior.specs.declared.fault.IorFault.{IorFault}
use Rattle.td_ior.specs.declared.fault.IorFault.TheVariants.{NoIiop, Memory}
use Rattle.td_ior.specs.declared.profile.Body.{Body}
use Rattle.td_ior.specs.declared.profile.Iiop.{Iiop}
use Rattle.td_ior.specs.Enclosed.{Encloses, behind, start_of}
use Rattle.td_ior.specs.Keys.{◌>>=◌}

-- the tag of IIOP's profiles, TAG_INTERNET_IOP (CORBA's chapter on ORB interoperability, "Standard IOR Profiles")
abbrev pub iiop_tag : ℕ
iiop_tag = 0

-- IIOP 1.x: the major version is 1, and the minor one may be any
abbrev pub iiop_major : ℕ
iiop_major = 1

abbrev pub major : Sound ValueFault (Unit {0})
major =
    placeholder iiop_major
    (restriction (λ version. nat_eq version iiop_major) bad_value (number 1))
    (refl, omega arith)

-- what every version has
pub record ProfileBody : Type 0 where
  pub minor : ℕ
  pub host : List ℕ
  pub port : ℕ
  pub key : List ℕ

-- the version's two octets, the host, the port and the object's key
abbrev pub front : Sound ValueFault ProfileBody
front =
    structure
    (λ p. record { minor = p.1.0; host = p.1.1.0; port = p.1.1.1.0; key = p.1.1.1.1 })
    (λ v. (tt, (v.minor, (v.host, (v.port, v.key)))))
    (λ _. refl) (λ _. refl)
    (major & number 1 & text & number 2 & octets)

abbrev pub front_of : Iiop → ProfileBody
front_of v = record { minor = v.minor; host = v.host; port = v.port; key = v.key }

-- ---- components: each a tag and octets, as a profile is

abbrev pub components : Sound ValueFault (List Profile)
components = sequence profile

-- these are spelled here, and other octets may follow
pub record SpellsComponents (a : At) (cs : List Profile) : Type 0 where
  pub bytes : List ℕ
  pub ignored : List ℕ
  pub parts : a.rest ≡ bytes ++ ignored
  pub spelled : components.format.spells a.order (a.place - a.origin) cs bytes

-- Version 1.0 has none. A later one has those that are spelled behind the key, and none where nothing is.
pub data HasComponents (a : At) (minor : ℕ) (cs : List Profile) : Type 0 where
  older : minor ≡ 0 → cs ≡ [] → HasComponents a minor cs
  spelled : minor ≢ 0 → SpellsComponents a cs → HasComponents a minor cs
  absent : minor ≢ 0 → ((others : List Profile) → ¬ (SpellsComponents a others)) → cs ≡ []
      → HasComponents a minor cs

-- ---- a profile

-- the profile has IIOP's tag, and its octets hold what every version has, with the components behind it
pub record IsIiop (profile : Profile) (v : Iiop) : Type 0 where
  pub tag : profile.tag ≡ iiop_tag
  pub body : Encloses front profile.octets (front_of v)
  pub components : HasComponents (behind front profile.octets (front_of v) body)
      v.minor v.components

abbrev pub HasNoIiop : List Profile → Type 0
HasNoIiop [] = Unit {0}
HasNoIiop (p ∷ ps) = ((v : Iiop) → ¬ (IsIiop p v)) × HasNoIiop ps

-- the first profile of IIOP
pub record IsFirstIiop (profiles : List Profile) (v : Iiop) : Type 0 where
  pub before : List Profile
  pub profile : Profile
  pub others : List Profile
  pub parts : profiles ≡ before ++ profile ∷ others
  pub free : HasNoIiop before
  pub is : IsIiop profile v

-- ---- how it is found

abbrev pub components_in_profile : Read ValueFault (List Profile) → List Profile
components_in_profile (Ok x) = x.0
components_in_profile (Err e) = []

abbrev pub components_at : (minor : ℕ) → At → List Profile
components_at minor a = if nat_eq minor 0 then [] else components_in_profile
    (components.format.reads a)

abbrev pub with_components : ProfileBody → At → Iiop
with_components f a = record {
  host = f.host;
  port = f.port;
  key = f.key;
  minor = f.minor;
  components = components_at f.minor a;
}

abbrev pub iiop_of_body : Read ValueFault ProfileBody → Option Iiop
iiop_of_body (Ok x) = Some (with_components x.0 x.1)
iiop_of_body (Err e) = None

abbrev pub iiop_in : Profile → Option Iiop
iiop_in profile =
    if nat_eq profile.tag iiop_tag then (start_of profile.octets >>= λ a.
    iiop_of_body (front.format.reads a)) else None

abbrev pub or_else : Option Iiop → Option Iiop → Option Iiop
or_else (Some v) later = Some v
or_else None later = later

unfoldable pub first_iiop : List Profile → Option Iiop
first_iiop [] = None
first_iiop (p ∷ ps) = or_else (iiop_in p) (first_iiop ps)

-- what borrowed octets say
abbrev pub lent : Body → Iiop
lent b =
    with_components (record { minor = b.minor; host = b.host.now; port = b.port; key = b.key.now })
    b.components

abbrev pub iiop_of : Ior → Option Iiop
iiop_of reference = first_iiop reference.profiles

-- the profile that is found, and NoIiop exactly where there is none; memory wants only for a copy of it
abbrev pub ReadsIiop : Option Iiop → Result Iiop IorFault → Type 0
ReadsIiop found (Ok v) = found ≡ Some v
ReadsIiop found (Err NoIiop) = found ≡ None
ReadsIiop found (Err Memory) = IsSome found
ReadsIiop found (Err e) = ⊥

-- ---- how it is made: one profile in big order, without components

-- version 1.0 has no place for them
abbrev pub no_components : (minor : ℕ) → Piece
no_components minor order place = if nat_eq minor 0 then [] else components.format.writes [] order
    place

abbrev pub made_octets : List ℕ → ℕ → List ℕ → (minor : ℕ) → List ℕ
made_octets host port key minor =
    let v : ProfileBody = record { minor = minor; host = host; port = port; key = key } in
    flag Big ∷ (front.format.writes v then no_components minor) Big 1

abbrev pub made_profile : List ℕ → ℕ → List ℕ → (minor : ℕ) → Profile
made_profile host port key minor = record {
  tag = iiop_tag;
  octets = made_octets host port key minor;
}

abbrev pub made_reference : List ℕ → List ℕ → ℕ → List ℕ → (minor : ℕ) → Ior
made_reference id host port key minor = record {
  id = id;
  profiles = made_profile host port key minor ∷ [];
}
