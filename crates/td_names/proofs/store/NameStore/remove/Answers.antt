use Rattle.std.proofs.Common.{◌-◌, refl, arith}
use Rattle.std.proofs.lemmas.Bool.{leb-false}
use Rattle.td_names.proofs.Counts.{stands, some_of, counted-set, bound_live}
use Rattle.td_names.proofs.store.NameStore.remove.Goals as goal

pub overflow_sub-self : goal.overflow_sub-self
overflow_sub-self c =
    let there = (rw (← c.self.view_is) at c.requires.there) in
    let s = stands c.self.inside.contexts.items c.args.context c.index_mut-slot.result.now
    (bound_live c.self.inside.contexts.items c.args.context c.args.component.now there)
    c.index_mut-slot.ensures.value in
    omega (
      arith,
      some_of c.self.inside.contexts.items _ c.index_mut-slot.result.now s.0,
      c.unbind_in.ensures.count,
      c.self.invariant.counted.bindings,
    )

pub invariant_of-self : goal.invariant_of-self
invariant_of-self c =
    let there = (rw (← c.self.view_is) at c.requires.there) in
    let s = stands c.self.inside.contexts.items c.args.context c.index_mut-slot.result.now
    (bound_live c.self.inside.contexts.items c.args.context c.args.component.now there)
    c.index_mut-slot.ensures.value in
    let some = some_of c.self.inside.contexts.items _ c.index_mut-slot.result.now s.0 in
    let room = (rw (← c.self.view_is) at c.requires.room) in
    record {
      address = c.self.invariant.address;
      counted = counted-set c.self.inside.contexts.items _ c.index_mut-slot.result.now c.unbind_in.new.context
          c.self.inside.bindings
          c.self.inside.changes (c.self.inside.bindings - 1) c.self.invariant.counted s.0
          (omega (arith, some, c.unbind_in.ensures.count, c.self.invariant.counted.bindings))
          (omega (arith, c.self.invariant.counted.few_bindings))
          (leb-false 1000000 c.self.inside.changes room);
    }

pub returns : goal.returns
returns c =
    let there = (rw (← c.self.view_is) at c.requires.there) in
    let s = stands c.self.inside.contexts.items c.args.context c.index_mut-slot.result.now
    (bound_live c.self.inside.contexts.items c.args.context c.args.component.now there)
    c.index_mut-slot.ensures.value in
    rw (← c.self.view_is, s.1, c.unbind_in.ensures.new) refl
