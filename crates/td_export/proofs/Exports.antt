-- Numbers of offers.
use Rattle.std.proofs.Common.{◌≡◌, ℕ, ◌+◌, ◌<◌, ◌≤◌, List, [], ◌∷◌, arith}
use Rattle.std.specs.List.{AllByRecursion}
use Rattle.td_store.specs.declared.record.OfferRecord.{OfferRecord}

-- numbers up to the last one given are below the next
pub are_below : (offers : List OfferRecord) (given_last next : ℕ) → next ≡ given_last + 1 →
    AllByRecursion (λ (o : OfferRecord). (0 < o.number) × (o.number ≤ given_last)) offers →
    AllByRecursion (λ (o : OfferRecord). o.number < next) offers
are_below [] given_last next e h = tt
are_below (o ∷ offers) given_last next e h = (omega (arith, h.0.1), are_below offers given_last next e h.1)
