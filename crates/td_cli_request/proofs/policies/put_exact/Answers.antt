use Rattle.td_cli_request.proofs.Putting.{exact_behind}
use Rattle.td_cli_request.proofs.policies.put_exact.Goals as goal

pub returns-in_ok-push : goal.returns-in_ok-push
returns-in_ok-push c =
    exact_behind c.args.exact c.args.policies.now c.push.new.self c.in_ok-truth_policy.field-0 c.if-exact.true
    c.in_ok-truth_policy.ensures c.in_ok-push.ensures.ok
