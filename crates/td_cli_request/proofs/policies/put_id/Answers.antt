use Rattle.td_cli_request.proofs.Putting.{id_behind}
use Rattle.td_cli_request.proofs.policies.put_id.Goals as goal

pub returns-in_ok-octets_policy-in-Some : goal.returns-in_ok-octets_policy-in-Some
returns-in_ok-octets_policy-in-Some c =
    id_behind c.push.result c.args.id.now c.in-Some.id c.as_slice.result.now c.args.policies.now c.push.new.self
    c.in_ok-octets_policy-in-Some.field-0 c.in-Some.is c.as_slice.ensures
    c.in_ok-octets_policy-in-Some.ensures c.push.ensures.ok
