-- The references that the server gives of its own objects (CORBA, chapter on General Inter-ORB Protocol, "IIOP IOR
-- Profiles"): each has the id of its interface, the server's host, port and version, and the key NAME/L for the Lookup
-- of the trader NAME, and so on.
use Rattle.std.specs.Prelude.{ℕ, ◌≤◌, List, length}
use Rattle.td_cdr.specs.Text.{HasNoNul}
use Rattle.td_typecode.specs.declared.reference.Ior.{Ior}
use Rattle.td_ior.specs.Keys.{written_key}
use Rattle.td_ior.specs.Profiles.{made_reference}
use Rattle.td_policy.specs.declared.attributes.OwnReferences.{OwnReferences}
use Rattle.td_value.specs.declared.key.Kind.{Kind}
use Rattle.td_value.specs.declared.key.Kind.TheVariants as kind
use Rattle.td_walk.specs.declared.trace.Address.{Address}
use Rattle.td_objects.specs.Interfaces.{interface_id}
use Rattle.td_objects.specs.declared.interface.Interface.{Interface}
use Rattle.td_objects.specs.declared.interface.Interface.TheVariants as interface

-- where a server may listen, and the minor version of IIOP in which it may be reached
pub record IsAddress (home : Address) : Type 0 where
  pub short : length home.host ≤ 1000
  pub no_nul : HasNoNul home.host
  pub minor : home.minor ≤ 1

-- the object of a kind that the trader of a name has, reached where the server listens
abbrev pub own_reference : Address → Interface → (name : List ℕ) → Kind → Ior
own_reference home i name k =
    made_reference (interface_id i) home.host home.port
    (written_key (record { trader = name; kind = k })) home.minor

-- ---- the objects of every trader (OMG's Trading Object Service, TraderComponents)

abbrev pub lookup_reference : Address → (name : List ℕ) → Ior
lookup_reference home name = own_reference home interface.Lookup name kind.Lookup

abbrev pub register_reference : Address → (name : List ℕ) → Ior
register_reference home name = own_reference home interface.Register name kind.Register

-- all that a trader tells of itself
unfoldable pub trader_references : Address → (name : List ℕ) → OwnReferences
trader_references home name = record {
  lookup = lookup_reference home name;
  register = register_reference home name;
  link = own_reference home interface.Link name kind.Link;
  proxy = own_reference home interface.Proxy name kind.Proxy;
  admin = own_reference home interface.Admin name kind.Admin;
  types = own_reference home interface.ServiceTypeRepository name kind.Types;
}

-- ---- iterators

-- over offers, by its number
abbrev pub offer_iterator : Address → (name : List ℕ) → ℕ → Ior
offer_iterator home name n = own_reference home interface.OfferIterator name (kind.Iterator n)

-- over the ids of offers
abbrev pub iterator_reference : Address → (name : List ℕ) → ℕ → Ior
iterator_reference home name n = own_reference home interface.OfferIdIterator name (kind.Iterator n)
