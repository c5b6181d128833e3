use Rattle.std.proofs.Common.{◌≡◌, drop}
use Rattle.td_trader.specs.Queries.{start_policy}
use Rattle.td_trader.proofs.query.start_policy.Given as goal

-- it is not among those before
abbrev pub invariant-loop-policy : goal.invariant-loop-policy
invariant-loop-policy l = start_policy (drop l.policy-index l.policies) ≡ start_policy l.policies
