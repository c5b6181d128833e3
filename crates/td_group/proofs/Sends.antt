-- A trader, and what a group of traders is acted on through, may go to another thread.
--     any_send, offer_send      an any, an offer
--     cache_field      what a trader keeps of what queries were served with, as a field
--     trader_send, stall_send      a trader, and one that stands in a cell
--     group_pass_field, group_pass_send      a group's pass, as a field and by itself, where the runtime may be shared
-- Rattle makes such a lemma of each declared type whose fields have one (the modules `TheSendSync`). A TypeCode holds
-- itself, so what holds one has none.
use denote.Param.Send.{IsSend, IsSync, sendable, recorded_send, shr_send, struct_send, view_send}
use denote.RattleType.{RattleType}
use denote.Ref.{NamedLft}
use denote.Struct.Declared.{shape}
use Rattle.indexmap.proofs.map.IndexMap.TheSendSync as index_cross
use Rattle.std.proofs.Crossing.{crosses, Vec-sync}
use Rattle.tc_graph.proofs.whole.Whole.TheSendSync as whole_cross
use Rattle.std.proofs.MapsCrossing.{BTreeMap-send}
use Rattle.td_cdr.proofs.boxed.Boxed.TheSendSync as boxed_cross
use Rattle.td_cdr.proofs.list.List.TheSendSync as list_cross
use Rattle.td_cdr.proofs.shared.Shared.TheSendSync as shared_cross
use Rattle.td_cdr.proofs.text.Text.TheSendSync as text_cross
use Rattle.td_cell.proofs.cell.Cell.TheSendSync as cell_cross
use Rattle.td_cell.proofs.pass.Pass.TheSendSync as pass_cross
use Rattle.td_typecode.proofs.code.TypeCode.TheLaws.TheKnot.{send-TypeCode, send-Any, sync-Any}
use Rattle.td_typecode.proofs.reference.Ior.TheSendSync as ior_cross
use Rattle.td_typecode.specs.contracts.code.Any as any
use Rattle.td_typecode.specs.contracts.code.TypeCode as code
use Rattle.td_group.specs.contracts.pass.GroupPass as group_pass
use Rattle.td_marks.proofs.ring.Ring.TheSendSync as ring_cross
use Rattle.td_ops.specs.contracts.call.Change as change
use Rattle.td_policy.proofs.attributes.Attributes.TheSendSync as attributes_cross
use Rattle.td_register.proofs.change_reply.ChangeReply.TheSendSync as change_reply_cross
use Rattle.td_register.specs.contracts.history.Accepted as accepted
use Rattle.td_group.specs.contracts.shared_trader.SharedTrader as shared_trader
use Rattle.td_group.specs.contracts.shared_trader.SharedTrader.TheInside as shared_trader_inside
use Rattle.td_store.proofs.links.Links.TheSendSync as links_cross
use Rattle.td_store.proofs.slab.Slab.TheSendSync as slab_cross
use Rattle.td_store.specs.contracts.offers.Offers as offers
use Rattle.td_store.specs.contracts.record.OfferRecord as offer_record
use Rattle.td_store.specs.contracts.record.ProxyPart as proxy_part
use Rattle.td_store.specs.contracts.store.Store as store
use Rattle.td_store.proofs.record.LinkRecord.TheSendSync as link_cross
use Rattle.td_trader.proofs.cache.Uses.TheSendSync as uses_cross
use Rattle.td_trader.specs.contracts.cache.Cache as cache
use Rattle.td_trader.specs.contracts.cache.CachedSearch as cached_search
use Rattle.td_trader.specs.contracts.trader.Trader as trader
use Rattle.td_trader.specs.contracts.trader.Trader.TheInside as trader_inside
use Rattle.td_types.specs.contracts.types.Types as types
use Rattle.td_types.specs.contracts.types.Types.TheInside as types_inside
use Rattle.td_value.proofs.enumerations.PropertyMode.TheSendSync as mode_cross
use Rattle.td_value.specs.contracts.structures.Offer as offer
use Rattle.td_value.specs.contracts.structures.Policy as policy
use Rattle.td_value.specs.contracts.structures.PropStruct as prop
use Rattle.td_value.specs.contracts.structures.Property as property

-- ---- the rows below, which Rattle itself shows to cross
ruleset rows = (text_cross.the_send, list_cross.the_send, boxed_cross.the_send, shared_cross.the_send)

ruleset low = (sendable, crosses, rows, ior_cross.the_field_send, ior_cross.the_send)

-- ---- what holds a TypeCode or a value: each from its parts
code_field : IsSend (code.the_field).row
code_field = search (send-TypeCode, whole_cross.the_send, low) depth 20

any_field : IsSend (any.the_field).row
any_field = search (send-Any, whole_cross.the_send, low) depth 20

pub any_send : IsSend any.the_row
any_send = recorded_send (any.the_field).row _ _ (any.the_type).to_one any_field

property_send : IsSend property.the_row
property_send = search (any_field, low) depth 20

policy_send : IsSend policy.the_row
policy_send = search (any_field, low) depth 20

prop_send : IsSend prop.the_row
prop_send = search (code_field, mode_cross.the_field_send, low) depth 20

-- ---- what is shared: several threads may see it at once
ruleset seen =
    (sendable, crosses, text_cross.the_sync, list_cross.the_sync, ior_cross.the_field_sync, ior_cross.the_sync)

any_field_sync : IsSync (any.the_field).row
any_field_sync = search (sync-Any, whole_cross.the_sync, seen) depth 20

property_sync : IsSync property.the_row
property_sync = search (any_field_sync, seen) depth 20

policy_sync : IsSync policy.the_row
policy_sync = search (any_field_sync, seen) depth 20

-- ---- an offer of an answer
pub offer_send : IsSend offer.the_row
offer_send = search (property_sync, property_send, seen, low) depth 20

ruleset valued = (any_send, property_send, policy_send, prop_send, offer_send, low)

-- ---- the store
proxy_part_sync : IsSync proxy_part.the_row
proxy_part_sync = search (policy_sync, seen) depth 20

proxy_part_send : IsSend proxy_part.the_row
proxy_part_send = search valued depth 20

offer_record_send : IsSend offer_record.the_row
offer_record_send = search (property_sync, proxy_part_send, proxy_part_sync, seen, valued) depth 20

offer_record_sync : IsSync offer_record.the_row
offer_record_sync =
    search (shared_cross.the_sync, property_sync, property_send, proxy_part_sync, proxy_part_send, seen, low) depth 20

offers_send : IsSend offers.the_row
offers_send = search (slab_cross.the_send, offer_record_send, BTreeMap-send, sendable) depth 20

types_send : IsSend types.the_row
types_send =
    view_send types_inside.the_row _ _ _ _
    (recorded_send (types_inside.the_field).row _ _ (types_inside.the_type).to_one
    (struct_send (shape types_inside.the_type) (
      search (sendable, crosses) depth 20,
      (
        search (list_cross.the_send, low) depth 20,
        (search (prop_send, index_cross.the_send, low) depth 20, (search sendable, tt)),
      ),
    )))

store_field : IsSend (store.the_field).row
store_field =
    struct_send (shape store.the_type) (
      types_send,
      (offers_send, (links_cross.the_send, (attributes_cross.the_field_send, (search sendable, tt)))),
    )

-- ---- a history
change_field : IsSend (change.the_field).row
change_field = search (property_sync, seen, valued) depth 30 fits 20000

accepted_send : IsSend accepted.the_row
accepted_send =
    recorded_send (accepted.the_field).row _ _ (accepted.the_type).to_one
    (struct_send (shape accepted.the_type) (change_field, (change_reply_cross.the_send, tt)))

-- ---- what a trader keeps of what queries were served with
ruleset kept = (
  attributes_cross.the_send,
  attributes_cross.the_sync,
  link_cross.the_send,
  link_cross.the_sync,
  offer_record_send,
  offer_record_sync,
  seen,
  low,
)

cached_search_field : IsSend (cached_search.the_field).row
cached_search_field =
    struct_send (shape cached_search.the_type) (
      text_cross.the_send,
      (uses_cross.the_field_send, (search sendable, (search kept depth 20, tt))),
    )

pub cache_field : IsSend (cache.the_field).row
cache_field =
    struct_send (shape cache.the_type) (
      search kept depth 20,
      (search kept depth 20, (search (cached_search_field, sendable, crosses) depth 20, tt)),
    )

-- ---- a trader
pub trader_send : IsSend trader.the_row
trader_send =
    view_send trader_inside.the_row _ _ _ _
    (recorded_send (trader_inside.the_field).row _ _ (trader_inside.the_type).to_one
    (struct_send (shape trader_inside.the_type) (
      search (sendable, crosses) depth 20,
      (
        text_cross.the_send,
        (
          search sendable depth 20,
          (
            search (sendable, crosses) depth 20,
            (
              store_field,
              (
                search (accepted_send, crosses) depth 20,
                (ring_cross.the_send, (search sendable, (cache_field, tt))),
              ),
            ),
          ),
        ),
      ),
    )))

-- ---- a trader in a cell, and a group's pass
pub shared_trader_send : IsSend shared_trader.the_row
shared_trader_send =
    view_send shared_trader_inside.the_row _ _ _ _
    (recorded_send (shared_trader_inside.the_field).row _ _ (shared_trader_inside.the_type).to_one
    (struct_send (shape shared_trader_inside.the_type) (trader_send, tt)))

module _ (a : NamedLft) (R : RattleType) (s : IsSync R) where
  pub group_pass_field : IsSend (group_pass.the_field a R).row
  group_pass_field =
      struct_send (shape (group_pass.the_type a R)) (
        shr_send a.mir a.lft R s,
        (
          search (sendable, crosses) depth 20,
          (
            search (sendable, Vec-sync, text_cross.the_sync) depth 20,
            (
              search (sendable, Vec-sync, cell_cross.the_sync, shared_trader_send) depth 20,
              (search (crosses, pass_cross.the_send, shared_trader_send) depth 20, tt),
            ),
          ),
        ),
      )

  pub group_pass_send : IsSend (group_pass.the_row a R)
  group_pass_send =
      recorded_send (group_pass.the_field a R).row _ _ (group_pass.the_type a R).to_one group_pass_field
