use Rattle.td_types.proofs.Gathered.{bases_on}
use Rattle.td_types.proofs.inheriting.ancestors.Goals as goal

pub loop-base-preserved : goal.loop-base-preserved
loop-base-preserved c =
    let m = c.in_ok-meet.ensures c.loop-base.invariant.seen in
    let k = c.in_ok-meet_all.ensures m.1 in
    record {
      seen = k.1;
      so_far =
          bases_on c.args.bases.now c.loop-base.base-index c.base-item.result c.loop-base.met c.meet.new.met
          c.meet_all.new.met _ c.loop-base-test.true c.base-item.is m.0 (rw c.as_slice.ensures at k.0)
          c.loop-base.invariant.so_far;
    }
