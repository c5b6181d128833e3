use Rattle.std.proofs.Common.{◌+◌, ◌-◌, length}
use Rattle.td_types.specs.Marking.{count_unmarked}
use Rattle.td_types.proofs.Walks.{Walked}
use Rattle.td_types.proofs.reaching.reach.Given as goal

abbrev pub invariant-loop-next : goal.invariant-loop-next
invariant-loop-next l = Walked l.links.items l.starts l.marks.items l.queue.items l.next

-- what isn't marked yet, and what waits to be looked at
abbrev pub decreases-loop-next : goal.decreases-loop-next
decreases-loop-next l = count_unmarked l.marks.items + (length l.queue.items - l.next)
