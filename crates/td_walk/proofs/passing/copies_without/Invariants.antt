use Rattle.std.proofs.Common.{◌≡◌, ◌++◌, drop}
use Rattle.td_walk.specs.Passing.{without_policy}
use Rattle.td_walk.proofs.passing.copies_without.Given as goal

-- what is copied and what is left of the others are all others
abbrev pub invariant-loop-policy : goal.invariant-loop-policy
invariant-loop-policy l =
    l.others.items ++ without_policy l.name (drop l.policy-index l.policies) ≡ without_policy l.name l.policies
