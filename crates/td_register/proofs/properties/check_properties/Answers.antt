use Rattle.std.proofs.lemmas.Result.{err_from_is_err_and}
use Rattle.td_register.proofs.OneByOne.{bad_name, bad_value, good_property, met, seen_more}
use Rattle.td_register.proofs.properties.check_properties.Goals as goal

pub returns-in_err-check_name : goal.returns-in_err-check_name
returns-in_err-check_name c =
    let p = err_from_is_err_and c.from_residual.result c.from_residual.ensures.1 in
    rw (p.1, p.2) (bad_name c.args.supported c.args.type_name.now c.args.demanded.now c.args.properties.now
    c.loop-property.property-index c.property-item.result c.in_err-check_name.field-0.0 c.loop-property-test.true
    c.property-item.is
    (c.in_err-check_name.ensures.judged (met c.args.properties.now c.loop-property.property-index)
    c.loop-property.invariant.seen)
    c.loop-property.invariant.so_far)

pub returns-in_err-check_value : goal.returns-in_err-check_value
returns-in_err-check_value c =
    let p =
    err_from_is_err_and c.from_residual-in_err-check_value.result c.from_residual-in_err-check_value.ensures.1 in
    rw (p.1, p.2) (bad_value c.args.supported c.args.type_name.now c.args.demanded.now c.args.properties.now
    c.loop-property.property-index c.property-item.result c.in_err-check_value.field-0.0 c.loop-property-test.true
    c.property-item.is
    (c.in_ok-check_name.ensures.judged (met c.args.properties.now c.loop-property.property-index)
    c.loop-property.invariant.seen)
    c.in_err-check_value.ensures c.loop-property.invariant.so_far)

pub loop-property-preserved : goal.loop-property-preserved
loop-property-preserved c = record {
  seen =
      seen_more c.check_name.new.seen c.args.properties.now c.loop-property.property-index c.property-item.result
      c.loop-property-test.true c.property-item.is
      (c.in_ok-check_name.ensures.noted (met c.args.properties.now c.loop-property.property-index)
      c.loop-property.invariant.seen);
  so_far =
      good_property c.args.supported c.args.type_name.now c.args.demanded.now c.args.properties.now
      c.loop-property.property-index c.property-item.result c.loop-property-test.true c.property-item.is
      (c.in_ok-check_name.ensures.judged (met c.args.properties.now c.loop-property.property-index)
      c.loop-property.invariant.seen)
      c.in_ok-check_value.ensures c.loop-property.invariant.so_far;
}
