use Rattle.std.proofs.Common.{◌≡◌, ℕ, Bool, true, false, not, List, ap, ◌∙◌}
use Rattle.td_cdr.specs.Seen.{has_seen}
use Rattle.td_exceptions.specs.declared.exception.UserException.TheVariants.{DuplicatePolicyName}
use Rattle.td_types.specs.Repository.{is_among}
use Rattle.td_register.specs.Causes.{raise_if}
use Rattle.td_register.specs.declared.refusal.Fault.TheVariants.{Refused}
use Rattle.td_register.specs.declared.refusal.Refusal.TheVariants.{Raised}
use Rattle.td_register.proofs.InOrder.{met_before, met_first}
use Rattle.td_export.proofs.PolicyNames.{bad_policy, good_policy, met, seen_more}
use Rattle.td_export.proofs.proxy_exporting.check_policies.Goals as goal

pub returns-then-not-branch : goal.returns-then-not-branch
returns-then-not-branch c =
    let ps = c.args.policies.now in
    let i = c.loop-policy.policy-index in
    let name = c.policy-item.result.name in
    let again : is_among name (met ps i) ≡ true =
    met_before _ _ _ (c.in_ok-see.ensures.fresh
    ∙ ap not (ap (λ (n : List ℕ). has_seen c.loop-policy.seen n) c.as_slice.ensures))
    (c.loop-policy.invariant.seen name) c.if-not-branch.true in
    rw (c.raised.ensures, c.in_ok-copy.ensures) (bad_policy ps i c.policy-item.result
    (Refused (Raised (DuplicatePolicyName name))) c.loop-policy-test.true c.policy-item.is
    (ap (λ (b : Bool). raise_if b (DuplicatePolicyName name)) again) c.loop-policy.invariant.so_far)

pub loop-policy-preserved : goal.loop-policy-preserved
loop-policy-preserved c =
    let ps = c.args.policies.now in
    let i = c.loop-policy.policy-index in
    let p = c.policy-item.result in
    let first : is_among p.name (met ps i) ≡ false =
    met_first _ _ _ (c.in_ok-see.ensures.fresh
    ∙ ap not (ap (λ (n : List ℕ). has_seen c.loop-policy.seen n) c.as_slice.ensures))
    (c.loop-policy.invariant.seen p.name) c.if-not-branch.false in
    record {
      seen =
          seen_more c.loop-policy.seen c.see.new.seen ps i p c.loop-policy-test.true c.policy-item.is
          c.loop-policy.invariant.seen (rw c.as_slice.ensures at c.in_ok-see.ensures.added);
      so_far = good_policy ps i p c.loop-policy-test.true c.policy-item.is first c.loop-policy.invariant.so_far;
    }
