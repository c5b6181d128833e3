use Rattle.std.proofs.Common.{◌≡◌, [], drop, take, map, reverse}
use Rattle.td_cdr.specs.Seen.{HaveSeen}
use Rattle.td_value.specs.declared.structures.Policy.{Policy}
use Rattle.td_register.specs.Proxies.{policies_cause}
use Rattle.td_export.proofs.proxy_exporting.check_policies.Given as goal

abbrev pub invariant-loop-policy : goal.invariant-loop-policy
invariant-loop-policy l =
    record {
      seen : HaveSeen l.seen (reverse (map (λ (p : Policy). p.name) (take l.policy-index l.policies)));
      so_far : policies_cause (reverse (map (λ (p : Policy). p.name) (take l.policy-index l.policies)))
          (drop l.policy-index l.policies)
          ≡ policies_cause [] l.policies;
    }
