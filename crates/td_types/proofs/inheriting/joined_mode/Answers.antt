use Rattle.td_types.proofs.Gathered.{modes_on}
use Rattle.td_types.proofs.inheriting.joined_mode.Goals as goal

pub loop-base-preserved : goal.loop-base-preserved
loop-base-preserved c =
    rw (c.join-mode.ensures, c.mode_in.ensures, c.as_slice.ensures)
    (modes_on c.args.bases.now c.loop-base.base-index c.base-item.result c.args.name.now c.loop-base.mode _
    c.loop-base-test.true c.base-item.is c.loop-base.invariant)
