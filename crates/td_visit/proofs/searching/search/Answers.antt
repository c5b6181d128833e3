use Rattle.std.proofs.Common.{◌≡◌, ◌+◌, List, ◌∷◌, drop, length, sym, ap, ◌∙◌, arith}
use Rattle.std.proofs.lemmas.Bool.{lt-leb}
use Rattle.std.proofs.lemmas.List.{drop_more}
use Rattle.td_store.specs.declared.record.OfferRecord.{OfferRecord}
use Rattle.td_visit.proofs.Again.{step}
use Rattle.td_visit.proofs.searching.search.Goals as goal
use Rattle.td_visit.specs.Resuming.{searched_on, searched_up_to}

pub loop-offer-preserved : goal.loop-offer-preserved
loop-offer-preserved c =
    let l = c.args.local.now in
    let os = c.split_at.result.1.now in
    let i = c.loop-offer.offer-index in
    let s = c.loop-offer.scan in
    let xs = c.loop-offer.left.answers.now in
    let next =
    step l c.offer-item.result (drop (i + 1) os) s.tried s.found c.try_candidate.new.found s.made
    c.try_candidate.new.made xs c.try_candidate.new.left.answers.now c.in_ok-question.question
    (sym c.is_some.ensures ∙ c.if-is_some.false)
    (lt-leb l.effective.match_card (length s.found) (omega (arith, c.len.ensures))) c.in_ok-question.ensures.content
    c.in_ok-question.ensures.stopped in
    let behind : drop i os ≡ c.offer-item.result ∷ drop (i + 1) os =
    drop_more os i c.offer-item.result (omega arith)
    ∙ ap (λ (y : OfferRecord). y ∷ drop (i + 1) os) (sym c.offer-item.is) in (
      omega (arith, c.loop-offer.invariant.0),
      next.0 ∙ (sym (ap (λ (ys : List OfferRecord). searched_on l ys s.found s.made xs) behind)
          ∙ c.loop-offer.invariant.1),
      next.1 ∙ (sym (ap (λ (ys : List OfferRecord). searched_up_to l ys s.tried s.found s.made xs) behind)
          ∙ c.loop-offer.invariant.2),
    )
