-- What calls gave can be written, with one call more, and of the last of them.
use Rattle.std.proofs.Common.{◌≡◌, List, [], ◌∷◌, ◌++◌, subst}
use Rattle.td_walk.specs.Peering.{AdmitsExchanges, AdmitsGift, Exchange}

pub gave_next : (calls : List Exchange) (e : Exchange) → AdmitsExchanges calls → AdmitsGift e.gave
    → AdmitsExchanges (calls ++ e ∷ [])
gave_next [] e gave gift = (gift, tt)
gave_next (x ∷ calls) e gave gift = (gave.0, gave_next calls e gave.1 gift)

pub gave_behind : (before made : List Exchange) → AdmitsExchanges (before ++ made) → AdmitsExchanges made
gave_behind [] made gave = gave
gave_behind (x ∷ before) made gave = gave_behind before made gave.1

-- of those that were made since
pub gave_since : (before made after : List Exchange) → after ≡ before ++ made → AdmitsExchanges after
    → AdmitsExchanges made
gave_since before made after is gave = gave_behind before made (subst AdmitsExchanges is gave)
