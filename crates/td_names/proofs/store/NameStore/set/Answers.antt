use Rattle.std.proofs.Common.{◌≡◌, ◌+◌, cond, ◌∙◌, refl, arith}
use Rattle.std.proofs.lemmas.Bool.{leb-false}
use Rattle.td_names.proofs.Counts.{stands, counted-set, few_after, byte_of}
use Rattle.td_names.proofs.store.NameStore.set.Goals as goal

pub invariant_of-self-2 : goal.invariant_of-self-2
invariant_of-self-2 c =
    let s = stands c.self.inside.contexts.items c.args.context c.index_mut-slot.result.now
    (rw (← c.self.view_is) at c.requires.live) c.index_mut-slot.ensures.value in
    let byte : c.from.result ≡ cond c.in_ok-added.added 1 0 = c.from.ensures ∙ byte_of c.in_ok-added.added in
    let few = few_after c.self.inside.contexts.items c.args.context c.index_mut-slot.result.now c.args.component
    c.self.inside.bindings c.self.inside.changes c.in_ok-added.added c.self.invariant.counted s.1
    c.in_ok-added.ensures.old
    (rw (← c.self.view_is) at c.requires.place) in
    let room = (rw (← c.self.view_is) at c.requires.room) in
    record {
      address = c.self.invariant.address;
      counted = counted-set c.self.inside.contexts.items _ c.index_mut-slot.result.now c.bind_in.new.context
          c.self.inside.bindings
          c.self.inside.changes (c.self.inside.bindings + c.from.result) c.self.invariant.counted s.0
          (omega (arith, byte, c.in_ok-added.ensures.added)) (rw byte few)
          (leb-false 1000000 c.self.inside.changes room);
    }

pub returns-clause-ok : goal.returns-clause-ok
returns-clause-ok c =
    let s = stands c.self.inside.contexts.items c.args.context c.index_mut-slot.result.now
    (rw (← c.self.view_is) at c.requires.live) c.index_mut-slot.ensures.value in
    rw (← c.self.view_is, s.1, c.in_ok-added.ensures.ok) refl
