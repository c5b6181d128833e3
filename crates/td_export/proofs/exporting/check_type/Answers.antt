use Rattle.std.proofs.lemmas.Result.{err_from_is_err_and}
use Rattle.td_register.specs.Causes.{with_cause}
use Rattle.td_register.specs.Named.{open_type}
use Rattle.td_register.specs.Registers.{interface_cause, no_more}
use Rattle.td_register.proofs.Otherwise.{absent, carries, opened}
use Rattle.td_export.proofs.exporting.check_type.Goals as goal

pub returns-in_err-check_open : goal.returns-in_err-check_open
returns-in_err-check_open c =
    let p = err_from_is_err_and c.from_residual.result c.from_residual.ensures.1 in
    let s = c.args.store.now in
    let found = open_type s.types.types c.args.type_name.now in
    let fits = interface_cause s c.args.type_name.now c.args.reference.now in
    rw (p.1, p.2) (carries (with_cause found no_more) (with_cause found fits) c.in_err-check_open.field-0.0 (absent found fits)
    c.in_err-check_open.ensures)

pub returns : goal.returns
returns c =
    let s = c.args.store.now in
    let name = c.args.type_name.now in
    rw (opened s.types.types name (interface_cause s name c.args.reference.now) c.in_ok-check_open.ensures)
    c.check_interface.ensures
