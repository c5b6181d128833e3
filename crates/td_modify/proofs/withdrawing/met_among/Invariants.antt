use Rattle.std.proofs.Common.{◌≡◌, ◌++◌, drop, map, Bor}
use Rattle.std.specs.List.{filter}
use Rattle.td_store.specs.declared.record.OfferRecord.{OfferRecord}
use Rattle.td_modify.specs.Withdrawals.{meets}
use Rattle.td_modify.proofs.withdrawing.met_among.Given as goal

-- the numbers so far and those of what is left are those of all
abbrev pub invariant-loop-offer : goal.invariant-loop-offer
invariant-loop-offer l =
    l.met ++ map (λ (o : OfferRecord). o.number) (filter (meets l.constraint)
    (map (λ (r : Bor OfferRecord). r.now) (drop l.offer-index l.offers)))
    ≡ map (λ (o : OfferRecord). o.number) (filter (meets l.constraint) (map (λ (r : Bor OfferRecord). r.now) l.offers))
