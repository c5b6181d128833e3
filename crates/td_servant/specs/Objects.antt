-- The objects that a connection reaches, by their keys: those of each trader of the group, and the iterators that the
-- connection keeps (CORBA, chapter on General Inter-ORB Protocol, "Request Header", object_key; OMG's Trading Object
-- Service).
use Rattle.std.specs.Prelude.{ℕ, ◌<◌, List, length, Option, Some, option_map}
use Rattle.td_cdr.specs.Names.{IsTraderName}
use Rattle.td_ior.specs.Keys.{◌>>=◌, key_of}
use Rattle.td_objects.specs.declared.interface.Interface.TheVariants as interface
use Rattle.td_objects.specs.declared.interface.Interface.{Interface}
use Rattle.td_targets.specs.Targets.{place_of}
use Rattle.td_iter.specs.Desks.{Live, item_of}
use Rattle.td_iter.specs.declared.item.Item.{Item}
use Rattle.td_iter.specs.declared.item.Item.TheVariants.{Offers, Ids}
use Rattle.td_trader.specs.Worlds.{View, name_at}
use Rattle.td_value.specs.declared.key.Kind.{Kind}
use Rattle.td_value.specs.declared.key.Kind.TheVariants as kind
use Rattle.td_value.specs.declared.key.ObjectKey.{ObjectKey}
use Rattle.td_servant.specs.declared.objects.Object.{Object}

-- of an iterator over what is left
abbrev pub iterator_interface : Item → Interface
iterator_interface (Offers left) = interface.OfferIterator
iterator_interface (Ids left) = interface.OfferIdIterator

-- The interface of the object of a kind that the trader of this name has. An iterator is there as long as the
-- connection keeps it.
abbrev pub interface_of : (name : List ℕ) → Live → Kind → Option Interface
interface_of name d kind.Lookup = Some interface.Lookup
interface_of name d kind.Register = Some interface.Register
interface_of name d kind.Link = Some interface.Link
interface_of name d kind.Proxy = Some interface.Proxy
interface_of name d kind.Admin = Some interface.Admin
interface_of name d kind.Types = Some interface.ServiceTypeRepository
interface_of name d (kind.Iterator n) = option_map iterator_interface (item_of name n d)

abbrev pub object_with : (trader : ℕ) → Kind → Interface → Object
object_with k which i = record { trader = k; kind = which; interface = i }

abbrev pub object_of : List View → Live → (trader : ℕ) → Kind → Option Object
object_of w d k which = option_map (object_with k which) (interface_of (name_at w k) d which)

-- the key of the object of a kind that the trader of this name has
abbrev pub key_with : (name : List ℕ) → Kind → ObjectKey
key_with name which = record { trader = name; kind = which }

abbrev pub object_keyed : List View → Live → ObjectKey → Option Object
object_keyed w d key = place_of w key.trader >>= λ k. object_of w d k key.kind

-- the live object that these octets are the key of
unfoldable pub object_at : List View → Live → (octets : List ℕ) → Option Object
object_at w d octets = key_of octets >>= object_keyed w d

-- a trader of the group that a key can name
pub record IsNamed (w : List View) (trader : ℕ) : Type 0 where
  pub within : trader < length w
  pub named : IsTraderName (name_at w trader)
