use Rattle.std.proofs.Common.{◌∷◌, [], ◌++◌, false, take}
use Rattle.std.proofs.lemmas.Result.{err_from_is_err_and}
use Rattle.td_types.specs.Adding.{definitions, conflict, earlier_of, redefinition}
use Rattle.td_types.specs.Firsts.{AreFirsts}
use Rattle.td_types.proofs.Redefined.{passes, stops, goes_on, firsts_on, ends, firsts_end}
use Rattle.td_types.proofs.redefining.check_base.Goals as goal

pub returns-in_err-check_definition : goal.returns-in_err-check_definition
returns-in_err-check_definition c = λ earlier h.
    let inv = c.loop-property.invariant earlier h in
    let p = err_from_is_err_and c.from_residual.result c.from_residual.ensures.1 in
    rw (p.1, p.2) (passes {X = Unit {0}} {Y = Unit {0}}
    (λ _. AreFirsts c.check_definition.new.firsts
    ((earlier ++ definitions c.args.base.now.service_type.name false
    (take c.loop-property.property-index c.args.base.now.full))
    ++ (record { type = c.args.base.now.service_type.name; property = c.property-item.result; own = false })
    ∷ []))
    (λ _. AreFirsts c.check_definition.new.firsts
    (earlier ++ definitions c.args.base.now.service_type.name false c.args.base.now.full))
    (conflict (earlier_of (earlier
    ++ definitions c.args.base.now.service_type.name false
    (take c.loop-property.property-index c.args.base.now.full))
    c.property-item.result.name)
    (record { type = c.args.base.now.service_type.name; property = c.property-item.result; own = false }))
    (redefinition earlier (definitions c.args.base.now.service_type.name false c.args.base.now.full))
    c.in_err-check_definition.field-0.0
    (λ f k. stops earlier c.args.base.now.service_type.name c.args.base.now.full c.loop-property.property-index
    c.property-item.result f _ (rw c.as_slice-property-items.ensures at c.loop-property-test.true)
    (rw c.as_slice-property-items.ensures at c.property-item.is) inv.1 k)
    (c.in_err-check_definition.ensures
    (earlier ++ definitions c.args.base.now.service_type.name false
    (take c.loop-property.property-index c.args.base.now.full))
    inv.0))

pub loop-property-preserved : goal.loop-property-preserved
loop-property-preserved c = λ earlier h.
    let inv = c.loop-property.invariant earlier h in
    let k =
    c.in_ok-check_definition.ensures
    (earlier ++ definitions c.args.base.now.service_type.name false
    (take c.loop-property.property-index c.args.base.now.full))
    inv.0 in (
      firsts_on c.loop-property.firsts c.check_definition.new.firsts earlier c.args.base.now.service_type.name
          c.args.base.now.full c.loop-property.property-index c.property-item.result
          (rw c.as_slice-property-items.ensures at c.loop-property-test.true)
          (rw c.as_slice-property-items.ensures at c.property-item.is) k.1,
      goes_on earlier c.args.base.now.service_type.name c.args.base.now.full c.loop-property.property-index
          c.property-item.result _ (rw c.as_slice-property-items.ensures at c.loop-property-test.true)
          (rw c.as_slice-property-items.ensures at c.property-item.is) inv.1 k.0,
    )

pub returns : goal.returns
returns c = λ earlier h.
    let inv = c.loop-property.invariant earlier h in (
      ends earlier c.args.base.now.service_type.name c.args.base.now.full c.loop-property.property-index _
          (rw c.as_slice-property-items.ensures at c.loop-property-test.false) inv.1,
      firsts_end c.loop-property.firsts earlier c.args.base.now.service_type.name c.args.base.now.full
          c.loop-property.property-index (rw c.as_slice-property-items.ensures at c.loop-property-test.false) inv.0,
    )
