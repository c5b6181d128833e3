-- What a query is served with at one trader (OMG's Trading Object Service, "Lookup Interface", query, and "Policies").
use Rattle.std.specs.Prelude.{ℕ, List, [], Option, None, Some}
use Rattle.td_ops.specs.declared.call.Query.{Query}
use Rattle.td_policy.specs.Effective.{effective_of}
use Rattle.td_policy.specs.declared.stated.Stated.{Stated}
use Rattle.td_store.specs.Candidates.{candidates}
use Rattle.td_store.specs.declared.local.Local.{Local}
use Rattle.td_store.specs.declared.record.LinkRecord.{LinkRecord}
use Rattle.td_store.specs.declared.record.OfferRecord.{OfferRecord}
use Rattle.td_trader.specs.Queries.{parts_of}
use Rattle.td_register.specs.Stores.{Store}
use Rattle.td_trader.specs.declared.local.Copies.{Copies}

-- at this point, under this identifier, all of it as the store has it; nothing is searched yet
abbrev pub bare_local : Store → (point : ℕ) → (identifier : Option (List ℕ)) → Query → Local
bare_local s point identifier q = record {
  point = point;
  mark = 0;
  path = None;
  query = q;
  identifier = identifier;
  stated = (parts_of q).stated;
  effective = effective_of (parts_of q).stated s.attributes;
  attributes = s.attributes;
  constraint = (parts_of q).constraint;
  preference = (parts_of q).preference;
  candidates = [];
  links = [];
}

-- the offers that a query searches whose policies state this
abbrev pub candidates_of : Store → Query → Stated → List OfferRecord
candidates_of s q stated =
    candidates s.types.types s.attributes stated q.service_type
    (effective_of stated s.attributes).search_card s.offers

-- searched here, with this mark
unfoldable pub local_of : Store → (point mark : ℕ) → (identifier : List ℕ) → Query → Local
local_of s point mark identifier q = record (bare_local s point (Some identifier) q) {
  mark = mark;
  candidates = candidates_of s q (parts_of q).stated;
  links = s.links;
}

-- passed on over this link
unfoldable pub path_of : Store → (point : ℕ) → LinkRecord → Query → Local
path_of s point link q = record (bare_local s point (parts_of q).stated.request_id q)
    { path = Some link }

-- the query with what the trader serves it with
abbrev pub copies_of : Store → Query → Stated → Copies
copies_of s q stated = record {
  query = q;
  attributes = s.attributes;
  effective = effective_of stated s.attributes;
}
