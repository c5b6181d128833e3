use Rattle.std.proofs.Common.{map}
use Rattle.td_store.proofs.Walking.{IsAmongTypes}
use Rattle.td_store.proofs.gathering.gather_all.Given as goal

abbrev pub invariant-loop-incarnation : goal.invariant-loop-incarnation
invariant-loop-incarnation g l =
    IsAmongTypes l.slab.slots l.slab.chains l.chains l.incarnations l.incarnation-index
    (map (λ r. r.now) l.initial.into.items)
    (map (λ r. r.now) l.into.items) l.fn.steps l.steps
