use Rattle.std.proofs.Common.{◌≡◌, List, [], sym, subst}
use Rattle.td_store.specs.declared.joint.Joint.{Joint}
use Rattle.td_store.specs.Rings.{AreRingsOf, rings_are}
use Rattle.td_store.proofs.Growing.{fits-none}
use Rattle.td_store.proofs.rings.Rings.new.Goals as goal

fits : (js : List Joint) → js ≡ [] → AreRingsOf js (λ k. [])
fits js e = subst (λ (z : List Joint). AreRingsOf z (λ k. [])) (sym e) fits-none

pub invariant_of-result : goal.invariant_of-result
invariant_of-result c = record { linked = (λ k. [], fits _ c.new.ensures.items) }

pub returns-clause-empty : goal.returns-clause-empty
returns-clause-empty c = rings_are c.new.result.items c.result-1.given.0 (λ k. []) (fits _ c.new.ensures.items)
