use Rattle.std.proofs.Common.{◌<◌, length, ap, arith}
use Rattle.td_store.specs.Slots.{value_of}
use Rattle.td_store.proofs.Keeping.{slot-has, slots-set}
use Rattle.td_store.proofs.Taking.{taken-keeps, taken-shows}
use Rattle.td_store.proofs.slab.Slab.take.Goals as goal

pub invariant_of-self-in-Some : goal.invariant_of-self-in-Some
invariant_of-self-in-Some g c =
    let within : c.args.place < length c.self.inside.values.items = omega (arith, c.self.inside.values.ok.0) in
    let there =
    slot-has c.self.inside.values.items c.args.place _ _ _ within c.index_mut.ensures.value c.take.ensures.value
    c.in-Some.is in
    taken-keeps _ _ _ _ _ c.args.place c.self.invariant there c.free.ensures.rings _ _
    (slots-set c.self.inside.values.items c.args.place _ _ (ap value_of c.take.ensures.after)) c.free.ensures.len

pub returns-in-Some-clause-none : goal.returns-in-Some-clause-none
returns-in-Some-clause-none g c =
    let within : c.args.place < length c.self.inside.values.items = omega (arith, c.self.inside.values.ok.0) in
    let there =
    slot-has c.self.inside.values.items c.args.place _ _ _ within c.index_mut.ensures.value c.take.ensures.value
    c.in-Some.is in
    taken-shows _ _ _ _ _ c.args.place c.self.invariant there c.free.ensures.rings _
    (slots-set c.self.inside.values.items c.args.place _ _ (ap value_of c.take.ensures.after)) _
    c.self.inside.rings.linked.1.paths _ c.self.view_is
