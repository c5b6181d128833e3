use Rattle.std.proofs.Common.{◌≡◌, drop}
use Rattle.td_modify.specs.Withdrawals.{without_offers}
use Rattle.td_modify.proofs.withdrawing.remove_all.Given as goal

-- without what is left as without all
abbrev pub invariant-loop-number : goal.invariant-loop-number
invariant-loop-number l =
    without_offers (drop l.number-index l.numbers) l.offers ≡ without_offers l.numbers l.initial.offers
