use Rattle.std.proofs.Common.{◌≡◌, ◌<◌, ◌+◌, [], ◌∷◌, ◌++◌, length, sym, ap, ◌∙◌, arith, Bor}
use Rattle.std.proofs.lemmas.List.{length_push}
use Rattle.td_store.specs.Candidates.{is_candidate}
use Rattle.td_store.specs.declared.record.OfferRecord.{OfferRecord}
use Rattle.td_store.proofs.Choosing.{turn-chosen, turn-passed}
use Rattle.td_store.proofs.search.candidates.Goals as goal
use Rattle.td_store.proofs.search.candidates.Goals.{then-is_candidate+in_ok-copy+in_ok-push, else-is_candidate}

pub loop-offer-preserved : goal.loop-offer-preserved
loop-offer-preserved c =
    let test = is_candidate c.args.types.now.types c.args.attributes.now c.args.stated.now c.args.asked.now in
    let full : c.len.result < c.args.count = c.if-len-count.false in
    let long : c.len.result ≡ length c.loop-offer.found = c.len.ensures in
    let room : length c.loop-offer.found < c.args.count = omega (arith, full, long) in
    elim c.if-is_candidate.branch [
      | then-is_candidate+in_ok-copy+in_ok-push w ↦
          let grown : c.if-is_candidate.found ≡ c.loop-offer.found ++ c.offer-item.result.now ∷ [] =
          w.found-is ∙ (w.in_ok-push.ensures.ok
          ∙ ap (λ (o : OfferRecord). c.loop-offer.found ++ o ∷ []) w.in_ok-copy.ensures) in
          let more : length c.if-is_candidate.found ≡ length c.loop-offer.found + 1 =
          ap length grown ∙ length_push c.loop-offer.found c.offer-item.result.now in
          record {
            few = omega (arith, room, more);
            so_far =
                turn-chosen (λ (r : Bor OfferRecord). r.now) test c.args.offers.now c.loop-offer.offer-index
                c.args.count
                c.offer-item.result c.loop-offer.found c.if-is_candidate.found c.offer-item.is c.loop-offer-test.true
                room c.loop-offer.invariant.so_far (sym c.is_candidate.ensures ∙ w.if-is_candidate.true) grown;
          }
      | else-is_candidate w ↦
          let same : c.if-is_candidate.found ≡ c.loop-offer.found = w.found-is in
          let kept = ap length same in
          record {
            few = omega (arith, room, kept);
            so_far =
                turn-passed (λ (r : Bor OfferRecord). r.now) test c.args.offers.now c.loop-offer.offer-index
                c.args.count
                c.offer-item.result c.loop-offer.found c.if-is_candidate.found c.offer-item.is c.loop-offer-test.true
                room c.loop-offer.invariant.so_far (sym c.is_candidate.ensures ∙ w.if-is_candidate.false) same;
          }
    ]
