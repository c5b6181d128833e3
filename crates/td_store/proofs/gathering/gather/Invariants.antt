use Rattle.std.proofs.Common.{◌-◌, ◌≤◌, length, drop, map}
use Rattle.td_store.specs.Slabs.{chain_of}
use Rattle.td_store.proofs.Walking.{IsAt}
use Rattle.td_store.proofs.gathering.gather.Given as goal

abbrev pub invariant-loop-next : goal.invariant-loop-next
invariant-loop-next g l =
    IsAt l.slab.slots (chain_of l.slab.chains l.chain) (length l.into.items - length l.initial.into.items) l.next
    (map (λ r. r.now) l.initial.into.items) (map (λ r. r.now) l.into.items) l.fn.steps l.steps
    × (length l.initial.into.items ≤ length l.into.items)

abbrev pub decreases-loop-next : goal.decreases-loop-next
decreases-loop-next g l =
    length (drop (length l.into.items - length l.initial.into.items) (chain_of l.slab.chains l.chain))
