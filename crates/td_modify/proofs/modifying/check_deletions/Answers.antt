use Rattle.std.proofs.Common.{List, ℕ, reverse, subst, arith}
use Rattle.std.proofs.lemmas.List.{take_all}
use Rattle.std.proofs.lemmas.Result.{err_from_is_err_and}
use Rattle.td_cdr.specs.Seen.{HaveSeen}
use Rattle.td_register.specs.Properties.{name_cause}
use Rattle.td_register.specs.Registers.{deletion_cause}
use Rattle.td_modify.proofs.Modifies.{deletion_passes, deletion_stops, met_names, seen_name, seen_turned}
use Rattle.td_register.proofs.Otherwise.{first, second}
use Rattle.td_modify.proofs.modifying.check_deletions.Goals as goal

pub returns-in_err-check_name-clause-judged : goal.returns-in_err-check_name-clause-judged
returns-in_err-check_name-clause-judged c =
    let p = err_from_is_err_and c.from_residual.result c.from_residual.ensures.1 in
    let met = met_names c.args.names.now c.loop-name.name-index in
    rw (p.1, p.2) (deletion_stops c.args.type_properties.now c.args.offer.now c.args.names.now c.loop-name.name-index
    c.name-item.result c.in_err-check_name.field-0.0 c.loop-name-test.true c.name-item.is
    (first (name_cause met c.name-item.result)
    (deletion_cause c.args.type_properties.now c.args.offer.now c.name-item.result) c.in_err-check_name.field-0.0
    (c.in_err-check_name.ensures.judged met c.loop-name.invariant.seen))
    c.loop-name.invariant.so_far)

pub returns-in_err-check_deletion-clause-judged : goal.returns-in_err-check_deletion-clause-judged
returns-in_err-check_deletion-clause-judged c =
    let p =
    err_from_is_err_and c.from_residual-in_err-check_deletion.result c.from_residual-in_err-check_deletion.ensures.1 in
    let met = met_names c.args.names.now c.loop-name.name-index in
    rw (p.1, p.2) (deletion_stops c.args.type_properties.now c.args.offer.now c.args.names.now c.loop-name.name-index
    c.name-item.result c.in_err-check_deletion.field-0.0 c.loop-name-test.true c.name-item.is
    (second (name_cause met c.name-item.result)
    (deletion_cause c.args.type_properties.now c.args.offer.now c.name-item.result) c.in_err-check_deletion.field-0.0
    (c.in_ok-check_name.ensures.judged met c.loop-name.invariant.seen) c.in_err-check_deletion.ensures)
    c.loop-name.invariant.so_far)

pub loop-name-preserved : goal.loop-name-preserved
loop-name-preserved c =
    let met = met_names c.args.names.now c.loop-name.name-index in
    record {
      seen =
          seen_name c.check_name.new.seen c.args.names.now c.loop-name.name-index c.name-item.result
          c.loop-name-test.true c.name-item.is
          (c.in_ok-check_name.ensures.noted met c.loop-name.invariant.seen);
      so_far =
          deletion_passes c.args.type_properties.now c.args.offer.now c.args.names.now c.loop-name.name-index
          c.name-item.result c.loop-name-test.true c.name-item.is
          (c.in_ok-check_name.ensures.judged met c.loop-name.invariant.seen) c.in_ok-check_deletion.ensures
          c.loop-name.invariant.so_far;
    }

pub returns-clause-noted : goal.returns-clause-noted
returns-clause-noted c =
    seen_turned c.loop-name.seen c.args.names.now
    (subst (λ (names : List (List ℕ)). HaveSeen c.loop-name.seen (reverse names))
    (take_all c.loop-name.name-index c.args.names.now (omega arith)) c.loop-name.invariant.seen)
