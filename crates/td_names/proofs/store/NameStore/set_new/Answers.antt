use Rattle.std.proofs.Common.{◌≡◌, ◌+◌, ◌-◌, cond, ◌∙◌, refl, inr, arith, length, slice_set}
use Rattle.std.proofs.lemmas.Bool.{leb-false}
use Rattle.std.proofs.lemmas.List.{length-set}
use Rattle.td_names.proofs.Counts.{stands, counted-set, counted-push, few_after, byte_of}
use Rattle.td_names.proofs.store.NameStore.set_new.Goals as goal

pub invariant_of-self-2 : goal.invariant_of-self-2
invariant_of-self-2 c =
    let items : c.reserve.new.self.items ≡ c.self.inside.contexts.items = c.in_ok-reserve.ensures.items in
    let s = stands c.self.inside.contexts.items c.args.context c.index_mut-slot.result.now
    (rw (← c.self.view_is) at c.requires.live) (rw items at c.index_mut-slot.ensures.value) in
    let byte : c.from.result ≡ cond c.in_ok-added.added 1 0 = c.from.ensures ∙ byte_of c.in_ok-added.added in
    let few = few_after c.self.inside.contexts.items c.args.context c.index_mut-slot.result.now c.args.component
    c.self.inside.bindings c.self.inside.changes c.in_ok-added.added c.self.invariant.counted s.1
    c.in_ok-added.ensures.old
    (inr (rw (← c.self.view_is) at c.requires.bindings)) in
    let room = (rw (← c.self.view_is) at c.requires.room) in
    let contexts = leb-false 65536 (length c.self.inside.contexts.items - 1)
    (rw (← c.self.view_is) at c.requires.contexts) in
    let counted = counted-set c.self.inside.contexts.items (c.args.context - 1) c.index_mut-slot.result.now
    c.bind_in.new.context c.self.inside.bindings
    c.self.inside.changes (c.self.inside.bindings + c.from.result) c.self.invariant.counted s.0
    (omega (arith, byte, c.in_ok-added.ensures.added)) (rw byte few) (leb-false 1000000 c.self.inside.changes room) in
    record {
      address = c.self.invariant.address;
      counted = rw (c.push_reserved.ensures.items, items, c.new.ensures)
          (counted-push (slice_set c.self.inside.contexts.items (c.args.context - 1) c.bind_in.new.context) _ _ counted
          (omega (
            arith,
            contexts,
            length-set c.self.inside.contexts.items (c.args.context - 1)
                c.bind_in.new.context,
          )));
    }

pub returns-clause-ok : goal.returns-clause-ok
returns-clause-ok c =
    let items : c.reserve.new.self.items ≡ c.self.inside.contexts.items = c.in_ok-reserve.ensures.items in
    let s = stands c.self.inside.contexts.items c.args.context c.index_mut-slot.result.now
    (rw (← c.self.view_is) at c.requires.live) (rw items at c.index_mut-slot.ensures.value) in
    let object = (rw (← c.self.view_is) at c.requires.object) in
    rw (
      ← c.self.view_is,
      c.push_reserved.ensures.items,
      items,
      c.new.ensures,
      s.1,
      c.in_ok-added.ensures.ok,
      object,
    ) refl
