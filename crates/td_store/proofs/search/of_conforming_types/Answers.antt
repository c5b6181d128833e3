use Rattle.std.proofs.Common.{sym, ap, ◌∙◌, Bor}
use Rattle.td_store.specs.Candidates.{has_conforming_type}
use Rattle.td_store.specs.declared.record.OfferRecord.{OfferRecord}
use Rattle.td_store.proofs.Choosing.{turn-kept, turn-left_out}
use Rattle.td_store.proofs.search.of_conforming_types.Goals as goal
use Rattle.td_store.proofs.search.of_conforming_types.Goals.{then-has_conforming_type+in_ok-push}
use Rattle.td_store.proofs.search.of_conforming_types.Goals.{else-has_conforming_type}

pub loop-offer-preserved : goal.loop-offer-preserved
loop-offer-preserved c =
    let test = has_conforming_type c.args.types.now.types c.args.asked.now in
    elim c.if-has_conforming_type.branch [
      | then-has_conforming_type+in_ok-push w ↦
          turn-kept (λ (r : Bor OfferRecord). r.now) test c.args.offers.now c.loop-offer.offer-index
          c.offer-item.result c.loop-offer.found.items c.if-has_conforming_type.found.items c.offer-item.is
          c.loop-offer-test.true c.loop-offer.invariant
          (sym c.has_conforming_type.ensures ∙ w.if-has_conforming_type.true)
          (ap (λ v. v.items) w.found-is ∙ w.in_ok-push.ensures.items)
      | else-has_conforming_type w ↦
          turn-left_out (λ (r : Bor OfferRecord). r.now) test c.args.offers.now c.loop-offer.offer-index
          c.offer-item.result c.loop-offer.found.items c.if-has_conforming_type.found.items c.offer-item.is
          c.loop-offer-test.true c.loop-offer.invariant
          (sym c.has_conforming_type.ensures ∙ w.if-has_conforming_type.false) (ap (λ v. v.items) w.found-is)
    ]
