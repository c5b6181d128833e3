use Rattle.std.proofs.Common.{◌≡◌, ◌++◌, drop, map, Bor}
use Rattle.td_store.specs.declared.record.OfferRecord.{OfferRecord}
use Rattle.td_store.proofs.gathering.numbers_of.Given as goal

-- the numbers so far and those of what is left are those of all
abbrev pub invariant-loop-offer : goal.invariant-loop-offer
invariant-loop-offer l =
    l.numbers ++ map (λ (o : OfferRecord). o.number)
    (map (λ (r : Bor OfferRecord). r.now) (drop l.offer-index l.offers))
    ≡ map (λ (o : OfferRecord). o.number) (map (λ (r : Bor OfferRecord). r.now) l.offers)
