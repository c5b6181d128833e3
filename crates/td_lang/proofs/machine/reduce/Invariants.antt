use Rattle.std.proofs.Common.{◌≡◌, reverse}
use Rattle.td_lang.specs.Machine.{reduction}
use Rattle.td_lang.proofs.machine.reduce.Given as goal

abbrev pub invariant-frames : goal.invariant-frames
invariant-frames l =
    reduction l.next (reverse l.stack.items) l.reached l.found
    ≡ reduction l.next (reverse l.initial.stack.items) l.initial.reached l.initial.found

abbrev pub decreases-frames : goal.decreases-frames
decreases-frames l = goal.left-frames l
