use Rattle.td_group.proofs.Calls.{begins_err, begins_ok}
use Rattle.td_group.proofs.pass.GroupPass.begin_at.Goals as goal

pub unreachable-requires : goal.unreachable-requires
unreachable-requires g c = c.in-Changed.ensures.turned.acts

pub unreachable-requires-in-Looked : goal.unreachable-requires-in-Looked
unreachable-requires-in-Looked g c = c.in-Looked.ensures.turned.acts

pub returns-clause-ok : goal.returns-clause-ok
returns-clause-ok g c = begins_ok _ _ _ c.args.q c.in-Begun.answer c.in-Begun.ensures.turned

pub returns-clause-err : goal.returns-clause-err
returns-clause-err g c = begins_err _ _ _ c.args.q c.in-Begun.answer c.in-Begun.ensures.turned

pub returns-clause-once : goal.returns-clause-once
returns-clause-once g c = c.in-Begun.ensures.once

pub returns-clause-marks : goal.returns-clause-marks
returns-clause-marks g c = c.in-Begun.ensures.marks
