use Rattle.std.proofs.Common.{sym, ◌∙◌, arith}
use Rattle.std.proofs.lemmas.List.{at_drop_all}
use Rattle.std.proofs.lemmas.Result.{err_from_is_err_and}
use Rattle.td_register.specs.Causes.{◌otherwise◌}
use Rattle.td_register.specs.Properties.{name_cause, value_cause}
use Rattle.td_register.specs.Registers.{changes_cause, readonly_cause}
use Rattle.td_modify.proofs.Modifies.{change_passes, change_stops, met_with, seen_change}
use Rattle.td_register.proofs.Otherwise.{first, second}
use Rattle.td_modify.proofs.modifying.check_changes.Goals as goal

pub returns-in_err-check_name : goal.returns-in_err-check_name
returns-in_err-check_name c = λ deleted h.
    let p = err_from_is_err_and c.from_residual.result c.from_residual.ensures.1 in
    let met = met_with deleted c.args.changed.now c.loop-property.property-index in
    let demanded = c.args.type_properties.now in
    let o = c.args.offer.now in
    let q = c.property-item.result in
    let so_far = c.loop-property.invariant deleted h in
    rw (p.1, p.2) (change_stops c.args.supported demanded o deleted c.args.changed.now
    c.loop-property.property-index q c.in_err-check_name.field-0.0 c.loop-property-test.true c.property-item.is
    (first (name_cause met q.name) (value_cause c.args.supported o.service_type demanded q otherwise readonly_cause
    demanded o q.name) c.in_err-check_name.field-0.0 (c.in_err-check_name.ensures.judged met so_far.0))
    so_far.1)

pub returns-in_err-check_value : goal.returns-in_err-check_value
returns-in_err-check_value c = λ deleted h.
    let p =
    err_from_is_err_and c.from_residual-in_err-check_value.result c.from_residual-in_err-check_value.ensures.1 in
    let met = met_with deleted c.args.changed.now c.loop-property.property-index in
    let demanded = c.args.type_properties.now in
    let o = c.args.offer.now in
    let q = c.property-item.result in
    let f = c.in_err-check_value.field-0.0 in
    let value = value_cause c.args.supported o.service_type demanded q in
    let fixed = readonly_cause demanded o q.name in
    let so_far = c.loop-property.invariant deleted h in
    rw (p.1, p.2) (change_stops c.args.supported demanded o deleted c.args.changed.now
    c.loop-property.property-index q f c.loop-property-test.true c.property-item.is
    (second (name_cause met q.name) (value otherwise fixed) f (c.in_ok-check_name.ensures.judged met so_far.0)
    (first value fixed f (rw c.deref.ensures at c.in_err-check_value.ensures)))
    so_far.1)

pub returns-in_err-check_readonly : goal.returns-in_err-check_readonly
returns-in_err-check_readonly c = λ deleted h.
    let p =
    err_from_is_err_and c.from_residual-in_err-check_readonly.result
    c.from_residual-in_err-check_readonly.ensures.1 in
    let met = met_with deleted c.args.changed.now c.loop-property.property-index in
    let demanded = c.args.type_properties.now in
    let o = c.args.offer.now in
    let q = c.property-item.result in
    let f = c.in_err-check_readonly.field-0.0 in
    let value = value_cause c.args.supported o.service_type demanded q in
    let fixed = readonly_cause demanded o q.name in
    let so_far = c.loop-property.invariant deleted h in
    rw (p.1, p.2) (change_stops c.args.supported demanded o deleted c.args.changed.now
    c.loop-property.property-index q f c.loop-property-test.true c.property-item.is
    (second (name_cause met q.name) (value otherwise fixed) f (c.in_ok-check_name.ensures.judged met so_far.0)
    (second value fixed f (rw c.deref.ensures at c.in_ok-check_value.ensures) c.in_err-check_readonly.ensures))
    so_far.1)

pub loop-property-preserved : goal.loop-property-preserved
loop-property-preserved c = λ deleted h.
    let met = met_with deleted c.args.changed.now c.loop-property.property-index in
    let so_far = c.loop-property.invariant deleted h in (
      seen_change c.check_name.new.seen deleted c.args.changed.now c.loop-property.property-index
          c.property-item.result c.loop-property-test.true c.property-item.is
          (c.in_ok-check_name.ensures.noted met so_far.0),
      change_passes c.args.supported c.args.type_properties.now c.args.offer.now deleted c.args.changed.now
          c.loop-property.property-index c.property-item.result c.loop-property-test.true c.property-item.is
          (c.in_ok-check_name.ensures.judged met so_far.0) (rw c.deref.ensures at c.in_ok-check_value.ensures)
          c.in_ok-check_readonly.ensures so_far.1,
    )

pub returns : goal.returns
returns c = λ deleted h.
    let met = met_with deleted c.args.changed.now c.loop-property.property-index in
    sym (c.loop-property.invariant deleted h).1
    ∙ at_drop_all (changes_cause c.args.supported c.args.type_properties.now c.args.offer.now met) c.args.changed.now
    c.loop-property.property-index (omega arith)
