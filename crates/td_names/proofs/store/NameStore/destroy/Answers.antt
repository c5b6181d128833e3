use Rattle.std.proofs.Common.{◌-◌, None, sym, arith}
use Rattle.std.proofs.lemmas.Bool.{leb-false}
use Rattle.td_names.proofs.Counts.{stands, counted-set, none_in}
use Rattle.td_names.proofs.store.NameStore.destroy.Goals as goal

pub invariant_of-self : goal.invariant_of-self
invariant_of-self c =
    let s = stands c.self.inside.contexts.items c.args.context c.index_mut.result.now
    (rw (← c.self.view_is) at c.requires) c.index_mut.ensures.value in
    let none = none_in c.self.inside.contexts.items c.args.context c.index_mut.result.now c.in-Some.bindings.now s.1
    (rw (← c.self.view_is) at c.in-Some.ensures) (omega (arith, c.len.ensures, c.if-len-gt0.false)) in
    let room = sym (rw (← c.self.view_is) at c.if-changes_full.ensures) in
    record {
      address = c.self.invariant.address;
      counted = counted-set c.self.inside.contexts.items (c.args.context - 1) c.index_mut.result.now None
          c.self.inside.bindings
          c.self.inside.changes c.self.inside.bindings c.self.invariant.counted s.0 (omega (arith, none))
          c.self.invariant.counted.few_bindings
          (leb-false 1000000 c.self.inside.changes room);
    }
