-- The references of naming contexts (CORBA's chapter on the General Inter-ORB Protocol, "IIOP IOR Profiles"): the key
-- of the context n of a server is N/n, in decimal.
use Rattle.std.specs.Prelude.{codes, ◌≡◌, ℕ, ◌<◌, ◌≤◌, ◌^◌, nat_eq, ◌&&◌, List, ◌++◌, length, take, drop}
use Rattle.std.specs.Prelude.{if◌then◌else◌, Option, Some, None}
use Rattle.std.specs.Fmt.{decimal}
use Rattle.std.specs.Str.{bytes_eq}
use Rattle.td_cdr.specs.Text.{HasNoNul}
use Rattle.td_typecode.specs.declared.reference.Ior.{Ior}
use Rattle.td_ior.specs.Number.{number_below}
use Rattle.td_ior.specs.Profiles.{IsFirstIiop, iiop_of, made_reference}
use Rattle.td_ior.specs.declared.profile.Iiop.{Iiop}
use Rattle.td_names.specs.declared.address.Address.{Address}

abbrev pub context_id : List ℕ
context_id = codes "IDL:omg.org/CosNaming/NamingContext:1.0"

abbrev pub context_key : ℕ → List ℕ
context_key n = codes "N/" ++ decimal n

-- contexts are counted from 1, by numbers of 32 bits
abbrev pub IsContextNumber : ℕ → Type 0
IsContextNumber n = (0 < n) × (n < 2 ^ 32)

-- the octets are the key of the context of this number
pub record SpellsContext (octets : List ℕ) (n : ℕ) : Type 0 where
  pub number : IsContextNumber n
  pub written : octets ≡ context_key n

-- an address that can be told in a reference
pub record IsAddress (home : Address) : Type 0 where
  pub plain : HasNoNul home.host
  pub short : length home.host ≤ 1000
  pub port : home.port < 65536

-- the reference of the context of a number, by IIOP 1.0
abbrev pub reference_of : Address → ℕ → Ior
reference_of home n = made_reference context_id home.host home.port (context_key n) 0

-- the reference is of a context of this server: its first IIOP profile has the server's host and port, and the key of
-- the context. Its id doesn't matter.
pub record LeadsTo (home : Address) (reference : Ior) (n : ℕ) : Type 0 where
  pub profile : Iiop
  pub first : IsFirstIiop reference.profiles profile
  pub host : profile.host ≡ home.host
  pub port : profile.port ≡ home.port
  pub key : SpellsContext profile.key n

-- ---- how they are read

abbrev pub from_one : Option ℕ → Option ℕ
from_one None = None
from_one (Some n) = if nat_eq n 0 then None else Some n

abbrev pub context_number : List ℕ → Option ℕ
context_number key =
    if bytes_eq (take 2 key) (codes "N/") then from_one (number_below (2 ^ 32) (drop 2 key))
    else None

abbrev pub number_at : Address → Iiop → Option ℕ
number_at home p = if bytes_eq p.host home.host
    && nat_eq p.port home.port then context_number p.key else None

abbrev pub number_by : Address → Option Iiop → Option ℕ
number_by home None = None
number_by home (Some p) = number_at home p

-- the context here that a reference leads to
abbrev pub context_of_reference : Address → Ior → Option ℕ
context_of_reference home reference = number_by home (iiop_of reference)
