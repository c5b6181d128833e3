use Rattle.std.proofs.Common.{◌≡◌, drop}
use Rattle.std.specs.List.{list_all}
use Rattle.td_remote_query.specs.Draining.{is_small}
use Rattle.td_remote_query.proofs.joining.are_small.Given as goal

-- all are small where those that are left are
abbrev pub invariant-loop-offer : goal.invariant-loop-offer
invariant-loop-offer l = list_all is_small l.offers ≡ list_all is_small (drop l.offer-index l.offers)
