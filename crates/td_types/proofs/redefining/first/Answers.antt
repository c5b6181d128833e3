use Rattle.td_types.specs.Firsts.{definition_of}
use Rattle.std.proofs.Common.{Some}
use Rattle.td_types.proofs.Redefined.{found_first, kept_there, put_there}
use Rattle.td_types.proofs.redefining.first.Goals as goal

pub returns-in-Some-clause-earlier : goal.returns-in-Some-clause-earlier
returns-in-Some-clause-earlier c =
    found_first c.args.firsts.now c.as_slice-name.result c.args.given.property.now.name _ c.as_slice-name.ensures
    c.in-Some.ensures.value

pub returns-in-Some-clause-kept : goal.returns-in-Some-clause-kept
returns-in-Some-clause-kept c =
    kept_there c.args.firsts.now c.args.given.property.now.name _ (Some (definition_of c.args.given))
    (found_first c.args.firsts.now c.as_slice-name.result c.args.given.property.now.name _ c.as_slice-name.ensures
    c.in-Some.ensures.value)

pub returns-in_ok-insert-in-None-clause-earlier : goal.returns-in_ok-insert-in-None-clause-earlier
returns-in_ok-insert-in-None-clause-earlier c =
    found_first c.args.firsts.now c.as_slice-name.result c.args.given.property.now.name _ c.as_slice-name.ensures
    c.in-None.ensures.value

pub returns-in_ok-insert-in-None-clause-kept : goal.returns-in_ok-insert-in-None-clause-kept
returns-in_ok-insert-in-None-clause-kept c =
    put_there c.args.firsts.now c.insert.new.self c.as_slice-name.result c.args.given.property.now.name c.args.given
    c.as_slice-name.ensures
    (found_first c.args.firsts.now c.as_slice-name.result c.args.given.property.now.name _ c.as_slice-name.ensures
    c.in-None.ensures.value)
    c.in_ok-insert-in-None.ensures.updates.0
