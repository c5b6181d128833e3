use Rattle.td_cli_request.proofs.Putting.{hops_behind}
use Rattle.td_cli_request.proofs.policies.put_hops.Goals as goal

pub returns-in_ok-number_policy-in-Some : goal.returns-in_ok-number_policy-in-Some
returns-in_ok-number_policy-in-Some c =
    hops_behind c.push.result c.args.hops c.in-Some.hops c.args.policies.now c.push.new.self
    c.in_ok-number_policy-in-Some.field-0 c.in-Some.is c.in_ok-number_policy-in-Some.ensures c.push.ensures.ok
