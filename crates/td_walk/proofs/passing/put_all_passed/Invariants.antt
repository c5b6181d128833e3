use Rattle.std.proofs.Common.{◌≡◌, drop}
use Rattle.td_walk.specs.Passing.{with_all_passed}
use Rattle.td_walk.proofs.passing.put_all_passed.Given as goal

-- the policies that are left make of these what all make
abbrev pub invariant-loop-policy : goal.invariant-loop-policy
invariant-loop-policy l =
    with_all_passed l.limited (drop l.policy-index l.passed) l.policies.items ≡ with_all_passed l.limited l.passed l.initial.policies.items
