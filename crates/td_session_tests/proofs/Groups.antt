-- A server of one trader, for the tests.
use Rattle.std.proofs.Common.{◌≡◌, List, [], ◌∷◌, ◌++◌, sym, subst}
use Rattle.std.specs.List.{IsDistinct}
use Rattle.td_trader.specs.PlainTraders.{PlainTrader}
use Rattle.td_trader.specs.Solos.{AreDistinct}

one-distinct : (t : PlainTrader) → AreDistinct (t ∷ [])
unfolding IsDistinct
one-distinct t = (tt, tt)

pub lone : (before all : List PlainTrader) (t : PlainTrader) → before ≡ [] → all ≡ before ++ t ∷ [] → AreDistinct all
lone before all t none one =
    subst AreDistinct (sym one)
    (subst (λ (ts : List PlainTrader). AreDistinct (ts ++ t ∷ [])) (sym none) (one-distinct t))
