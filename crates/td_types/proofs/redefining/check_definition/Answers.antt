use Rattle.std.proofs.Common.{◌∷◌, [], ◌++◌}
use Rattle.td_types.specs.Firsts.{definition_of, AreFirsts}
use Rattle.td_types.proofs.Redefined.{follows, none_before, one_before, judged_with}
use Rattle.td_types.proofs.redefining.check_definition.Goals as goal

pub returns-in-None : goal.returns-in-None
returns-in-None c = λ earlier h. (
  none_before c.args.firsts.now earlier c.args.given.property.now.name c.in_ok-first.field-0 (definition_of c.args.given) h
      c.in_ok-first.ensures.earlier c.in-None.is,
  follows c.args.firsts.now c.first.new.firsts earlier (definition_of c.args.given) h c.in_ok-first.ensures.kept,
)

pub returns-in-Some : goal.returns-in-Some
returns-in-Some c = λ earlier h.
    judged_with _ _ (AreFirsts c.first.new.firsts (earlier ++ definition_of c.args.given ∷ [])) c.check_agreement.result
    (one_before c.args.firsts.now earlier c.args.given.property.now.name c.in_ok-first.field-0 c.in-Some.earlier
    (definition_of c.args.given) h c.in_ok-first.ensures.earlier c.in-Some.is)
    (follows c.args.firsts.now c.first.new.firsts earlier (definition_of c.args.given) h c.in_ok-first.ensures.kept)
    c.check_agreement.ensures
