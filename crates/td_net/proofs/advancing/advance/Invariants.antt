use Rattle.std.proofs.Common.{◌≡◌, ◌-◌, length}
use Rattle.td_net.proofs.Halting.{Settling}
use Rattle.td_net.proofs.advancing.advance.Given as goal
use Rattle.td_net.specs.Worlds.{inside}
use Rattle.td_query_walk.specs.Reach.{turns_of}

abbrev pub invariant-loop-pending : goal.invariant-loop-pending
invariant-loop-pending l =
    (l.frame.local ≡ l.fn.frame.local)
    × Settling (inside l.group.traders.items l.group.home) l.fn.frame.local l.fn.frame.answers l.fn.steps
    l.frame.answers l.steps

abbrev pub decreases-loop-pending : goal.decreases-loop-pending
decreases-loop-pending l = turns_of l.frame.local - length l.frame.answers
