use Rattle.std.proofs.Common.{rules, ◌≡◌, ◌<◌, ◌^◌, IfOk}
use Rattle.td_name_session.proofs.Small.{if_small}
use Rattle.td_name_session.proofs.keys.iterator_reference.Goals as goal
use Rattle.td_name_session.specs.Keys.{iterator_reference}

pub returns-clause-small : goal.returns-clause-small
returns-clause-small c =
    let made : IfOk c.make_ior.result (λ x. x ≡ iterator_reference c.args.home.now c.args.number) = search rules in
    let few : c.args.number < 2 ^ 64 = search rules in
    if_small c.args.home.now c.args.number c.make_ior.result c.requires few made
