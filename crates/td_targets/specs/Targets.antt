-- Which target is a trader of the group: one whose profile, of whatever version, has the server's host and port, and
-- the key of the Lookup of one of its traders; and in the same way which register is one's.
use Rattle.std.specs.Prelude.{ℕ, suc, nat_eq, ◌&&◌, if◌then◌else◌, List, [], ◌∷◌, Option, None, Some}
use Rattle.std.specs.Option.{option_map}
use Rattle.std.specs.Str.{bytes_eq}
use Rattle.td_typecode.specs.declared.reference.Ior.{Ior}
use Rattle.td_ior.specs.Keys.{key_of}
use Rattle.td_ior.specs.Profiles.{iiop_of}
use Rattle.td_ior.specs.declared.profile.Iiop.{Iiop}
use Rattle.td_trader.specs.Worlds.{View}
use Rattle.td_value.specs.declared.key.Kind.{Kind}
use Rattle.td_value.specs.declared.key.Kind.TheVariants.{Lookup, Register}
use Rattle.td_value.specs.declared.key.ObjectKey.{ObjectKey}
use Rattle.td_walk.specs.declared.trace.Address.{Address}

-- ---- the key of an object of this server

abbrev pub key_at : Address → Iiop → Option ObjectKey
key_at home p = if bytes_eq p.host home.host && nat_eq p.port home.port then key_of p.key else None

abbrev pub key_by : Address → Option Iiop → Option ObjectKey
key_by home None = None
key_by home (Some p) = key_at home p

-- of a reference that has the server's host and port
abbrev pub home_key : Address → Ior → Option ObjectKey
home_key home reference = key_by home (iiop_of reference)

-- ---- whose it is

-- the number of the trader of this name
unfoldable pub place_of : List View → (name : List ℕ) → Option ℕ
place_of [] name = None
place_of (v ∷ vs) name = if bytes_eq v.name name then Some 0 else option_map suc (place_of vs name)

abbrev pub lookup_by : List View → (name : List ℕ) → Kind → Option ℕ
lookup_by w name Lookup = place_of w name
lookup_by w name other = None

abbrev pub register_by : List View → (name : List ℕ) → Kind → Option ℕ
register_by w name Register = place_of w name
register_by w name other = None

-- the trader whose Lookup has the key
abbrev pub lookup_of : List View → ObjectKey → Option ℕ
lookup_of w key = lookup_by w key.trader key.kind

-- the trader whose Register has it
abbrev pub register_of : List View → ObjectKey → Option ℕ
register_of w key = register_by w key.trader key.kind

abbrev pub keyed_in : List View → Option ObjectKey → Option ℕ
keyed_in w None = None
keyed_in w (Some key) = lookup_of w key

abbrev pub registered_in : List View → Option ObjectKey → Option ℕ
registered_in w None = None
registered_in w (Some key) = register_of w key

abbrev pub inside_group : Address → List View → Ior → Option ℕ
inside_group home w target = keyed_in w (home_key home target)

abbrev pub register_inside : Address → List View → Ior → Option ℕ
register_inside home w register = registered_in w (home_key home register)
