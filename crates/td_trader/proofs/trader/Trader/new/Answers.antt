use Rattle.std.proofs.Common.{◌≡◌, ◌≤◌, true, false, sym, subst, rules}
use Rattle.td_register.specs.Registers.{last_number}
use Rattle.td_trader.specs.OfferLimits.{HasLimitedOffers}
use Rattle.td_trader.proofs.Cached.{nothing_kept}
use Rattle.td_trader.proofs.Kept.{kept-opening, short-opening}
use Rattle.td_trader.proofs.trader.Trader.new.Goals as goal

pub invariant_of-result : goal.invariant_of-result
invariant_of-result c =
    let last : c.args.opening.last_offer ≤ last_number = search rules in (
      c.requires.bounds,
      kept-opening c.args.bounds c.of.result.value c.args.opening c.new-history.result.items c.of.ensures
          c.new-history.ensures.items c.requires.limited.numbered,
      λ (e : false ≡ true). absurd cc,
      short-opening c.of.result.value c.args.opening c.args.stem c.of.ensures c.requires.stem last,
      subst HasLimitedOffers (sym c.of.ensures) c.requires.limited,
      nothing_kept c.args.opening c.new-cache.result c.new-cache.ensures,
    )
