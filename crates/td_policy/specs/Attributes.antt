-- The attributes of a new trader (Trading Object Service, "Attributes"; the numbers are this project's).
use Rattle.std.specs.Prelude.{ℕ, true, List}
use Rattle.td_value.specs.declared.enumerations.FollowOption.TheVariants.{Always}
use Rattle.td_policy.specs.declared.attributes.Attributes.{Attributes}
use Rattle.td_policy.specs.declared.attributes.OwnReferences.{OwnReferences}

abbrev pub default_attributes : List ℕ → OwnReferences → Attributes
default_attributes name own = record {
  lookup_if = own.lookup;
  register_if = own.register;
  link_if = own.link;
  proxy_if = own.proxy;
  admin_if = own.admin;
  supports_modifiable_properties = true;
  supports_dynamic_properties = true;
  supports_proxy_offers = true;
  type_repos = own.types;
  def_search_card = 10000;
  max_search_card = 1000000;
  def_match_card = 1000;
  max_match_card = 1000000;
  def_return_card = 1000;
  max_return_card = 1000000;
  max_list = 100;
  def_hop_count = 5;
  max_hop_count = 10;
  def_follow_policy = Always;
  max_follow_policy = Always;
  max_link_follow_policy = Always;
  request_id_stem = name;
}

-- the references among them
abbrev pub own_references : Attributes → OwnReferences
own_references a = record {
  lookup = a.lookup_if;
  register = a.register_if;
  link = a.link_if;
  proxy = a.proxy_if;
  admin = a.admin_if;
  types = a.type_repos;
}

-- the same with other references and another stem
abbrev pub with_references : Attributes → OwnReferences → List ℕ → Attributes
with_references a own stem = record a {
  lookup_if = own.lookup;
  register_if = own.register;
  link_if = own.link;
  proxy_if = own.proxy;
  admin_if = own.admin;
  type_repos = own.types;
  request_id_stem = stem;
}
