use Rattle.td_desk_calls.proofs.locating.leave_none.Goals as goal

pub leave_located-requires-clause-place : goal.leave_located-requires-clause-place
leave_located-requires-clause-place c = c.requires.absent c.in-Absent.is

pub unreachable-requires : goal.unreachable-requires
unreachable-requires c = c.requires.takes_no_memory c.in-Memory.is
