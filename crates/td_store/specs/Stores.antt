-- What a trader keeps, as a plain value: its limits, and that all of it can be written (OMG's Trading Object Service,
-- "Register Interface", "Link Interface" and "Service Type Repository"; CORBA, chapter on General Inter-ORB Protocol,
-- "CDR Transfer Syntax").
use Rattle.std.specs.Prelude.{ℕ, ◌<◌, ◌≤◌, length, map, Option, Some, None}
use Rattle.std.specs.List.{AllByRecursion, IsDistinct}
use Rattle.std.specs.Str.{bytes_eq}
use Rattle.td_cdr.specs.Sound.{text, sequence}
use Rattle.td_cdr.specs.declared.order.Order.TheVariants.{Big}
use Rattle.td_typecode.specs.References.{reference}
use Rattle.td_value.specs.Structures.{policy, offer, offer_info, link_info}
use Rattle.td_value.specs.declared.structures.LinkInfo.{LinkInfo}
use Rattle.td_value.specs.declared.structures.OfferInfo.{OfferInfo}
use Rattle.td_types.specs.Repository.{IsRepository}
use Rattle.td_types.specs.Writable.{IsWritable}
use Rattle.td_policy.specs.declared.attributes.Attributes.{Attributes}
use Rattle.td_store.specs.LinkLists.{most_links}
use Rattle.td_store.specs.OfferLists.{NumbersRise, most_offers}
use Rattle.td_store.specs.declared.record.LinkRecord.{LinkRecord}
use Rattle.td_store.specs.declared.record.OfferRecord.{OfferRecord}
use Rattle.td_store.specs.declared.record.ProxyPart.{ProxyPart}
use Rattle.td_store.specs.declared.store.Store.{Store}

-- ---- values that can be written: texts without NUL; anys, TypeCodes and references that have a spelling

-- an offer as its exporter sees it
abbrev pub offer_info_of : OfferRecord → OfferInfo
offer_info_of o = record {
  reference = o.reference;
  service_type = o.service_type;
  properties = o.properties;
}

abbrev pub AdmitsProxy : Option ProxyPart → Type 0
AdmitsProxy None = Unit {0}
AdmitsProxy (Some p) = text.format.admits p.recipe × (sequence policy).format.admits p.policies

pub record AdmitsOffer (o : OfferRecord) : Type 0 where
  pub info : offer_info.format.admits (offer_info_of o)
  pub proxy : AdmitsProxy o.proxy

-- a link as it is described
abbrev pub link_info_of : LinkRecord → LinkInfo
link_info_of l = record {
  target = l.target;
  target_reg = l.register;
  def_pass_on_follow_rule = l.def_pass_on;
  limiting_follow_rule = l.limiting;
}

pub record AdmitsLink (l : LinkRecord) : Type 0 where
  pub name : text.format.admits l.name
  pub info : link_info.format.admits (link_info_of l)

-- the references among the attributes; the others can always be written
pub record AdmitsAttributes (a : Attributes) : Type 0 where
  pub lookup_if : reference.format.admits a.lookup_if
  pub register_if : reference.format.admits a.register_if
  pub link_if : reference.format.admits a.link_if
  pub proxy_if : reference.format.admits a.proxy_if
  pub admin_if : reference.format.admits a.admin_if
  pub type_repos : reference.format.admits a.type_repos

-- ---- limits

abbrev pub most_properties : ℕ
most_properties = 256

-- 1 MiB
abbrev pub most_bytes : ℕ
most_bytes = 1048576

-- the encoded bytes of an offer: its reference and its properties, big-endian from place 0
abbrev pub offer_bytes : OfferRecord → ℕ
offer_bytes o = length (offer.format.writes
    (record { reference = o.reference; properties = o.properties }) Big 0)

-- an offer that a store may hold
pub record IsOffer (o : OfferRecord) : Type 0 where
  pub properties : length o.properties ≤ most_properties
  pub bytes : offer_bytes o ≤ most_bytes
  pub admitted : AdmitsOffer o

-- A store within its limits, all of which can be written: its types as calls make them, its offers by rising number,
-- from 1 up to the last one given, its links of distinct names.
pub record IsStore (s : Store) : Type 0 where
  pub types : IsRepository s.types
  pub types_writable : IsWritable s.types
  pub offers : AllByRecursion IsOffer s.offers
  pub offers_rise : NumbersRise s.offers
  pub offers_counted : AllByRecursion (λ o. (0 < o.number) × (o.number ≤ s.last_offer)) s.offers
  pub few_offers : length s.offers ≤ most_offers
  pub links : AllByRecursion AdmitsLink s.links
  pub links_named : IsDistinct bytes_eq (map (λ l. l.name) s.links)
  pub few_links : length s.links ≤ most_links
  pub attributes : AdmitsAttributes s.attributes
