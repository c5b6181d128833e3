use Rattle.std.proofs.Common.{◌≡◌, ◌++◌, drop}
use Rattle.td_cli_printing.specs.Offers.{offers_lines}
use Rattle.td_cli_printing.proofs.offers.put_offers.Given as goal

-- with what is left, it makes what all makes
abbrev pub invariant-loop-offer : goal.invariant-loop-offer
invariant-loop-offer l =
    l.out.items ++ offers_lines (drop l.offer-index l.offers) ≡ l.initial.out.items ++ offers_lines l.offers
