use Rattle.std.proofs.Common.{◌≡◌, drop, take, map, reverse}
use Rattle.td_cdr.specs.Seen.{HaveSeen}
use Rattle.td_policy.specs.Stated.{stated, stated_after}
use Rattle.td_value.specs.declared.structures.Policy.{Policy}
use Rattle.td_policy.proofs.reading.read_policies.Given as goal

abbrev pub invariant-loop-policy : goal.invariant-loop-policy
invariant-loop-policy l =
    record {
      seen : HaveSeen l.seen (reverse (map (λ (p : Policy). p.name) (take l.policy-index l.policy-items)));
      so_far : stated_after (reverse (map (λ (p : Policy). p.name) (take l.policy-index l.policy-items))) l.stated
          (drop l.policy-index l.policy-items)
          ≡ stated l.policies;
    }
