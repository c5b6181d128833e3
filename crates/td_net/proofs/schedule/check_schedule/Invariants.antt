use Rattle.td_net.proofs.Scheduling.{Passed}
use Rattle.td_net.proofs.schedule.check_schedule.Given as goal

abbrev pub invariant-loop-place : goal.invariant-loop-place
invariant-loop-place l = Passed l.fn.net l.fn.events l.place-iterator.iter.rest.items l.place-iterator.count l.net
