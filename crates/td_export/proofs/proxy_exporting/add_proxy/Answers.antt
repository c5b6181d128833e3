use Rattle.std.proofs.Common.{ap, subst}
use Rattle.td_store.specs.declared.record.OfferRecord.{OfferRecord}
use Rattle.td_register.specs.Judged.{IsAdded}
use Rattle.td_register.proofs.NoCause.{no_proxy_cause}
use Rattle.td_export.proofs.Exports.{are_below}
use Rattle.td_export.proofs.proxy_exporting.add_proxy.Goals as goal

pub new_proxy-requires : goal.new_proxy-requires
new_proxy-requires c =
    (no_proxy_cause c.args.store.now c.args.target.now c.args.service_type.now c.args.properties.now
    c.args.part.now.recipe c.args.part.now.policies c.requires.none).room.left

pub add_offer-requires-clause-above : goal.add_offer-requires-clause-above
add_offer-requires-clause-above c =
    are_below c.args.store.now.offers c.args.store.now.last_offer c.in_ok-offer.offer.number
    (ap (λ (o : OfferRecord). o.number) c.in_ok-offer.ensures) c.requires.given

pub add_offer-requires-clause-few : goal.add_offer-requires-clause-few
add_offer-requires-clause-few c =
    (no_proxy_cause c.args.store.now c.args.target.now c.args.service_type.now c.args.properties.now
    c.args.part.now.recipe c.args.part.now.policies c.requires.none).room.few

pub returns : goal.returns
returns c =
    subst (λ (o : OfferRecord). IsAdded o c.args.store.now c.add_offer.new.store c.add_offer.result)
    c.in_ok-offer.ensures c.add_offer.ensures
