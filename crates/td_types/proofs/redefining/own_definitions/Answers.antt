use Rattle.std.proofs.Common.{List, true, sym, subst}
use Rattle.td_types.specs.Adding.{Definition}
use Rattle.td_types.specs.Firsts.{AreFirsts}
use Rattle.td_types.proofs.Redefined.{follows, one_more}
use Rattle.td_types.proofs.redefining.own_definitions.Goals as goal

pub loop-property-preserved : goal.loop-property-preserved
loop-property-preserved c =
    subst (λ (ds : List Definition). AreFirsts c.first.new.firsts ds)
    (sym (one_more c.args.name.now true c.args.props.now c.loop-property.property-index c.property-item.result
    c.loop-property-test.true c.property-item.is))
    (follows c.loop-property.firsts c.first.new.firsts _
    (record { type = c.args.name.now; property = c.property-item.result; own = true }) c.loop-property.invariant
    c.in_ok-_earlier.ensures.kept)
