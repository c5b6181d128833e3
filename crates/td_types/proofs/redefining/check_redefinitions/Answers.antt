use Rattle.std.proofs.Common.{◌++◌, true, false, take}
use Rattle.std.proofs.lemmas.Result.{err_from_is_err_and}
use Rattle.td_types.specs.Adding.{definitions, redefinition}
use Rattle.td_types.specs.Firsts.{AreFirsts}
use Rattle.td_types.specs.Judged.{inherited_from}
use Rattle.td_types.proofs.Redefined.{passes, entries_of, base_stops, base_goes_on, base_firsts}
use Rattle.td_types.proofs.redefining.check_redefinitions.Goals as goal

pub returns-in_err-check_base : goal.returns-in_err-check_base
returns-in_err-check_base c =
    let p = err_from_is_err_and c.from_residual-in_err-check_base.result c.from_residual-in_err-check_base.ensures.1 in
    rw (p.1, p.2) (passes {X = Unit {0}} {Y = Unit {0}}
    (λ _. AreFirsts c.check_base.new.firsts
    (((definitions c.args.name.now true c.args.props.now)
    ++ inherited_from (entries_of (take c.loop-base.base-index c.args.bases.now)))
    ++ definitions c.base-item.result.now.service_type.name false c.base-item.result.now.full))
    (λ _. Unit {0})
    (redefinition ((definitions c.args.name.now true c.args.props.now)
    ++ inherited_from (entries_of (take c.loop-base.base-index c.args.bases.now)))
    (definitions c.base-item.result.now.service_type.name false c.base-item.result.now.full))
    (redefinition (definitions c.args.name.now true c.args.props.now)
    (inherited_from (entries_of c.args.bases.now)))
    c.in_err-check_base.field-0.0
    (λ f k. base_stops (definitions c.args.name.now true c.args.props.now) c.args.bases.now c.loop-base.base-index
    c.base-item.result f _ c.loop-base-test.true c.base-item.is c.loop-base.invariant.so_far k)
    (c.in_err-check_base.ensures
    ((definitions c.args.name.now true c.args.props.now)
    ++ inherited_from (entries_of (take c.loop-base.base-index c.args.bases.now)))
    c.loop-base.invariant.firsts))

pub loop-base-preserved : goal.loop-base-preserved
loop-base-preserved c =
    let k =
    c.in_ok-check_base.ensures
    ((definitions c.args.name.now true c.args.props.now)
    ++ inherited_from (entries_of (take c.loop-base.base-index c.args.bases.now)))
    c.loop-base.invariant.firsts in
    record {
      firsts =
          base_firsts c.check_base.new.firsts (definitions c.args.name.now true c.args.props.now) c.args.bases.now
          c.loop-base.base-index c.base-item.result c.loop-base-test.true c.base-item.is k.1;
      so_far =
          base_goes_on (definitions c.args.name.now true c.args.props.now) c.args.bases.now c.loop-base.base-index
          c.base-item.result _ c.loop-base-test.true c.base-item.is c.loop-base.invariant.so_far k.0;
    }
