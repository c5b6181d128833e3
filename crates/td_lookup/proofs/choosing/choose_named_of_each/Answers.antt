use Rattle.std.proofs.Common.{◌<◌, length, arith}
use Rattle.td_lookup.proofs.Chosen.{changed_on}
use Rattle.td_lookup.proofs.choosing.choose_named_of_each.Goals as goal
use Rattle.td_lookup.specs.Choosing.{chosen}
use Rattle.td_value.specs.declared.unions.SpecifiedProps.TheVariants as props

pub loop-offer-preserved : goal.loop-offer-preserved
loop-offer-preserved c =
    let within : c.loop-offer.offer-index < length c.deref_mut-offer-items.result.now = omega arith in
    changed_on (chosen (props.Some c.args.names.now)) c.deref_mut-offer-items.result.now c.loop-offer.offer-items
    c.loop-offer.offer-index c.offer-item.result c.choose_named.new.offer c.loop-offer.invariant within
    c.in_ok-choose_named.ensures
