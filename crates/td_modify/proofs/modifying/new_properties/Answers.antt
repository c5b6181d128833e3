use Rattle.std.proofs.lemmas.Result.{err_from_is_err_and}
use Rattle.td_modify.proofs.Renewing.{bad_names}
use Rattle.td_modify.proofs.modifying.new_properties.Goals as goal

pub returns-in_err-check_modify : goal.returns-in_err-check_modify
returns-in_err-check_modify c =
    let p = err_from_is_err_and c.from_residual.result c.from_residual.ensures.1 in
    rw (p.1, p.2) (bad_names c.args.store.now c.args.deleted.now c.args.changed.now c.args.offer.now
    c.in_err-check_modify.field-0.0 (rw c.type_properties.ensures at c.in_err-check_modify.ensures))
