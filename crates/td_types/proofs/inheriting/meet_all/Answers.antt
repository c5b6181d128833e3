use Rattle.td_types.proofs.Gathered.{names_on, names_all}
use Rattle.td_types.proofs.inheriting.meet_all.Goals as goal

pub loop-name-preserved : goal.loop-name-preserved
loop-name-preserved c = λ h.
    let so_far = c.loop-name.invariant h in
    let m = c.in_ok-meet.ensures so_far.1 in (
      names_on c.args.names.now c.loop-name.name-index c.name-item.result c.loop-name.met c.meet.new.met _
          c.loop-name-test.true c.name-item.is m.0 so_far.0,
      m.1,
    )

pub returns : goal.returns
returns c = λ h.
    let so_far = c.loop-name.invariant h in (
      names_all c.args.names.now c.loop-name.name-index c.loop-name.met _ c.loop-name-test.false so_far.0,
      so_far.1,
    )
