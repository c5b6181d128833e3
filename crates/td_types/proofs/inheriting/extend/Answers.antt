use Rattle.std.proofs.Common.{◌+◌, [], ◌∷◌, ◌++◌, drop, ◌∙◌}
use Rattle.std.proofs.lemmas.Result.{err_from_is_err_and}
use Rattle.td_types.specs.Judged.{inherited_properties}
use Rattle.td_types.proofs.Gathered.{fails, one_of}
use Rattle.td_types.proofs.Redefined.{entries_of}
use Rattle.td_types.proofs.inheriting.extend.Goals as goal

pub returns-in_err-extend_by_one : goal.returns-in_err-extend_by_one
returns-in_err-extend_by_one c = λ later.
    let p = err_from_is_err_and c.from_residual.result c.from_residual.ensures.1 in
    rw (p.1, p.2) (fails (inherited_properties (entries_of c.args.bases.now)) c.loop-property.full c.extend_by_one.new.full
    (c.property-item.result ∷ (drop (c.loop-property.property-index + 1) c.args.base.now.full ++ later))
    (drop (c.loop-property.property-index + 1) c.args.base.now.full ++ later)
    c.args.full.now c.extend_by_one.new.full (c.args.base.now.full ++ later) later c.in_err-extend_by_one.field-0.0
    (one_of (inherited_properties (entries_of c.args.bases.now)) c.loop-property.full c.args.base.now.full later
    c.loop-property.property-index c.property-item.result
    (rw c.as_slice-property-items.ensures at c.loop-property-test.true)
    (rw c.as_slice-property-items.ensures at c.property-item.is)
    ∙ c.loop-property.invariant.so_far later)
    (c.in_err-extend_by_one.ensures (drop (c.loop-property.property-index + 1) c.args.base.now.full ++ later)))

pub loop-property-preserved : goal.loop-property-preserved
loop-property-preserved c =
    record {
      few = (c.in_ok-extend_by_one.ensures []).1;
      so_far =
          λ later. (c.in_ok-extend_by_one.ensures
          (drop (c.loop-property.property-index + 1) c.args.base.now.full ++ later)).0
          ∙ (one_of (inherited_properties (entries_of c.args.bases.now)) c.loop-property.full c.args.base.now.full later
          c.loop-property.property-index c.property-item.result
          (rw c.as_slice-property-items.ensures at c.loop-property-test.true)
          (rw c.as_slice-property-items.ensures at c.property-item.is)
          ∙ c.loop-property.invariant.so_far later);
    }
