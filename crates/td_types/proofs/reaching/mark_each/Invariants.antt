use Rattle.std.proofs.Common.{take}
use Rattle.td_types.specs.Marking.{Marks}
use Rattle.td_types.proofs.reaching.mark_each.Given as goal

abbrev pub invariant-loop-place : goal.invariant-loop-place
invariant-loop-place l =
    Marks (take l.place-index l.places) l.fn.marks.items l.fn.queue.items l.marks.items l.queue.items
