use Rattle.td_group.proofs.Calls.{looks_err, looks_ok}
use Rattle.td_group.proofs.pass.GroupPass.look_at.Goals as goal

pub unreachable-requires : goal.unreachable-requires
unreachable-requires g c = c.in-Changed.ensures.turned.acts

pub unreachable-requires-in-Begun : goal.unreachable-requires-in-Begun
unreachable-requires-in-Begun g c = c.in-Begun.ensures.turned.acts

pub returns-clause-ok : goal.returns-clause-ok
returns-clause-ok g c = looks_ok _ _ _ c.args.l c.in-Looked.answer c.in-Looked.ensures.turned

pub returns-clause-err : goal.returns-clause-err
returns-clause-err g c = looks_err _ _ _ c.args.l c.in-Looked.answer c.in-Looked.ensures.turned

pub returns-clause-once : goal.returns-clause-once
returns-clause-once g c = c.in-Looked.ensures.once
