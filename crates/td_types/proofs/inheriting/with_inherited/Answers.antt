use Rattle.std.proofs.Common.{◌+◌, ◌++◌, drop, ◌∙◌}
use Rattle.std.proofs.lemmas.Result.{err_from_is_err_and}
use Rattle.td_types.specs.Judged.{inherited_properties}
use Rattle.td_types.specs.Properties.{with_inherited}
use Rattle.td_types.proofs.Gathered.{fails_all, base_of}
use Rattle.td_types.proofs.Redefined.{entries_of}
use Rattle.td_types.proofs.inheriting.with_inherited.Goals as goal

pub returns-in_err-extend : goal.returns-in_err-extend
returns-in_err-extend c =
    let p = err_from_is_err_and c.from_residual-in_err-extend.result c.from_residual-in_err-extend.ensures.1 in
    rw (p.1, p.2) (fails_all (inherited_properties (entries_of c.args.bases.now)) c.loop-base.full c.extend.new.full
    (c.base-item.result.now.full ++ inherited_properties (entries_of (drop (c.loop-base.base-index + 1) c.args.bases.now)))
    (inherited_properties (entries_of (drop (c.loop-base.base-index + 1) c.args.bases.now)))
    (with_inherited c.args.props.now (inherited_properties (entries_of c.args.bases.now))) c.in_err-extend.field-0.0
    (base_of (inherited_properties (entries_of c.args.bases.now)) c.loop-base.full c.args.bases.now c.loop-base.base-index
    c.base-item.result c.loop-base-test.true c.base-item.is
    ∙ c.loop-base.invariant.so_far)
    (c.in_err-extend.ensures (inherited_properties (entries_of (drop (c.loop-base.base-index + 1) c.args.bases.now)))))
