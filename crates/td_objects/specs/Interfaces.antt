-- The interfaces of a trader's objects, by their repository ids, and those that each of them inherits (OMG's Trading
-- Object Service, interfaces Lookup, Register, Link, Proxy, Admin, OfferIterator, OfferIdIterator and
-- CosTradingRepos::ServiceTypeRepository; CORBA, chapter "ORB Interface", is_a).
use Rattle.std.specs.Prelude.{ℕ, Bool, List, [], ◌∷◌, ◌++◌, codes, is_some}
use Rattle.td_cdr.specs.Format.{value_named}
use Rattle.td_objects.specs.declared.interface.Interface.{Interface}
use Rattle.td_objects.specs.declared.interface.Interface.TheVariants.{Object, TraderComponents, SupportAttributes}
use Rattle.td_objects.specs.declared.interface.Interface.TheVariants.{ImportAttributes, LinkAttributes, Lookup, Register}
use Rattle.td_objects.specs.declared.interface.Interface.TheVariants.{Link, Proxy, Admin, ServiceTypeRepository}
use Rattle.td_objects.specs.declared.interface.Interface.TheVariants.{OfferIterator, OfferIdIterator}

abbrev pub interface_id : Interface → List ℕ
interface_id Object = codes "IDL:omg.org/CORBA/Object:1.0"
interface_id TraderComponents = codes "IDL:omg.org/CosTrading/TraderComponents:1.0"
interface_id SupportAttributes = codes "IDL:omg.org/CosTrading/SupportAttributes:1.0"
interface_id ImportAttributes = codes "IDL:omg.org/CosTrading/ImportAttributes:1.0"
interface_id LinkAttributes = codes "IDL:omg.org/CosTrading/LinkAttributes:1.0"
interface_id Lookup = codes "IDL:omg.org/CosTrading/Lookup:1.0"
interface_id Register = codes "IDL:omg.org/CosTrading/Register:1.0"
interface_id Link = codes "IDL:omg.org/CosTrading/Link:1.0"
interface_id Proxy = codes "IDL:omg.org/CosTrading/Proxy:1.0"
interface_id Admin = codes "IDL:omg.org/CosTrading/Admin:1.0"
interface_id ServiceTypeRepository = codes "IDL:omg.org/CosTradingRepos/ServiceTypeRepository:1.0"
interface_id OfferIterator = codes "IDL:omg.org/CosTrading/OfferIterator:1.0"
interface_id OfferIdIterator = codes "IDL:omg.org/CosTrading/OfferIdIterator:1.0"

-- those that it inherits
abbrev pub bases_of : Interface → List Interface
bases_of Lookup = TraderComponents ∷ SupportAttributes ∷ ImportAttributes ∷ []
bases_of Register = TraderComponents ∷ SupportAttributes ∷ []
bases_of Link = TraderComponents ∷ SupportAttributes ∷ LinkAttributes ∷ []
bases_of Proxy = TraderComponents ∷ SupportAttributes ∷ []
bases_of Admin = TraderComponents ∷ SupportAttributes ∷ ImportAttributes ∷ LinkAttributes ∷ []
bases_of Object = []
bases_of TraderComponents = []
bases_of SupportAttributes = []
bases_of ImportAttributes = []
bases_of LinkAttributes = []
bases_of ServiceTypeRepository = []
bases_of OfferIterator = []
bases_of OfferIdIterator = []

-- all that an object of it has: its own, those, and that of every object
abbrev pub interfaces_of : Interface → List Interface
interfaces_of i = i ∷ bases_of i ++ Object ∷ []

-- one of them has this id
abbrev pub is_a : Interface → (id : List ℕ) → Bool
is_a i id = is_some (value_named interface_id (interfaces_of i) id)
