use Rattle.std.proofs.Common.{◌<◌, arith}
use Rattle.td_store.proofs.Keeping.{count-is}
use Rattle.td_store.proofs.Placing.{room, within, ring-in, few, first-off, second-off, new-keeps, new-puts, free-there}
use Rattle.td_store.proofs.Placing.{free-vacant, free-second, free-keeps, free-puts, none-kept, none-view, no-spare}
use Rattle.td_store.proofs.slab.Slab.put.Goals as goal

pub put_free-requires : goal.put_free-requires
put_free-requires g c =
    let s = c.self.inside in
    let l = s.rings.linked in
    let count = count-is _ _ _ _ c.self.view_is in
    let la : c.args.first < s.count = omega (arith, c.requires.first) in
    let lb : c.args.second < s.count = omega (arith, c.requires.second) in
    record {
      there =
          free-there s.rings.joints.items l s.values.items s.count c.args.first c.args.second c.args.value
          c.self.invariant c.after-head.result c.after-head.ensures.value c.if-head-ne0.true;
      vacant =
          free-vacant s.rings.joints.items l s.values.items s.count c.args.first c.args.second c.args.value
          c.self.invariant c.after-head.result c.after-head.ensures.value c.if-head-ne0.true;
      small =
          within s.rings.joints.items l s.values.items s.count c.args.first c.args.second c.args.value c.self.invariant;
      room =
          room s.rings.joints.items l s.values.items s.count c.args.first c.args.second c.args.value c.self.invariant;
      first =
          ring-in s.rings.joints.items l s.values.items s.count c.args.first c.args.second c.args.value c.self.invariant
          c.args.first la;
      second =
          ring-in s.rings.joints.items l s.values.items s.count c.args.first c.args.second c.args.value c.self.invariant
          c.args.second lb;
      second_off =
          free-second s.rings.joints.items l s.values.items s.count c.args.first c.args.second c.args.value
          c.self.invariant c.after-head.result c.after-head.ensures.value c.if-head-ne0.true;
    }

pub invariant_of-self : goal.invariant_of-self
invariant_of-self g c =
    let s = c.self.inside in
    let count = count-is _ _ _ _ c.self.view_is in
    free-keeps s.rings.joints.items s.rings.linked s.values.items s.count c.args.first c.args.second c.args.value
    c.self.invariant c.after-head.result c.after-head.ensures.value c.if-head-ne0.true
    c.put_free.new.values.items c.put_free.new.rings.linked.0 _ c.put_free.ensures.slots c.put_free.ensures.rings
    c.put_free.ensures.len (omega (arith, c.requires.first)) (omega (arith, c.requires.second)) c.requires.apart

pub returns-then-head-ne0-clause-ok : goal.returns-then-head-ne0-clause-ok
returns-then-head-ne0-clause-ok g c =
    let s = c.self.inside in
    let count = count-is _ _ _ _ c.self.view_is in
    free-puts s.rings.joints.items s.rings.linked s.values.items s.count c.args.first c.args.second c.args.value
    c.self.invariant c.after-head.result c.after-head.ensures.value c.if-head-ne0.true
    c.put_free.new.values.items c.put_free.new.rings.linked.0 _ c.put_free.ensures.slots c.put_free.ensures.rings
    c.put_free.ensures.len (omega (arith, c.requires.first)) (omega (arith, c.requires.second)) c.requires.apart
    c.put_free.result c.put_free.ensures.place _ c.self.view_is

pub put_new-requires : goal.put_new-requires
put_new-requires g c =
    let s = c.self.inside in
    let l = s.rings.linked in
    let count = count-is _ _ _ _ c.self.view_is in
    let la : c.args.first < s.count = omega (arith, c.requires.first) in
    let lb : c.args.second < s.count = omega (arith, c.requires.second) in
    record {
      room =
          room s.rings.joints.items l s.values.items s.count c.args.first c.args.second c.args.value c.self.invariant;
      small =
          few s.rings.joints.items l s.values.items s.count c.args.first c.args.second c.args.value c.self.invariant
          c.after-head.result c.after-head.ensures.value c.if-head-ne0.false _ c.self.view_is c.requires.room;
      first =
          ring-in s.rings.joints.items l s.values.items s.count c.args.first c.args.second c.args.value c.self.invariant
          c.args.first la;
      second =
          ring-in s.rings.joints.items l s.values.items s.count c.args.first c.args.second c.args.value c.self.invariant
          c.args.second lb;
      first_off =
          first-off s.rings.joints.items l s.values.items s.count c.args.first c.args.second c.args.value
          c.self.invariant c.after-head.result c.after-head.ensures.value c.if-head-ne0.false;
      second_off =
          second-off s.rings.joints.items l s.values.items s.count c.args.first c.args.second c.args.value
          c.self.invariant c.after-head.result c.after-head.ensures.value;
    }

pub invariant_of-self-in-Ok : goal.invariant_of-self-in-Ok
invariant_of-self-in-Ok g c =
    let s = c.self.inside in
    let count = count-is _ _ _ _ c.self.view_is in
    new-keeps s.rings.joints.items s.rings.linked s.values.items s.count c.args.first c.args.second c.args.value
    c.self.invariant c.after-head.result c.after-head.ensures.value
    c.put_new.new.values.items c.put_new.new.rings.linked.0 _ c.if-head-ne0.false c.in-Ok.ensures.slots
    c.in-Ok.ensures.rings c.in-Ok.ensures.grown c.put_new.ensures.len
    (few s.rings.joints.items s.rings.linked s.values.items s.count c.args.first c.args.second c.args.value
    c.self.invariant c.after-head.result c.after-head.ensures.value c.if-head-ne0.false _ c.self.view_is
    c.requires.room)
    (omega (arith, c.requires.first)) (omega (arith, c.requires.second)) c.requires.apart

pub returns-in-Ok-clause-ok : goal.returns-in-Ok-clause-ok
returns-in-Ok-clause-ok g c =
    let s = c.self.inside in
    let count = count-is _ _ _ _ c.self.view_is in
    new-puts s.rings.joints.items s.rings.linked s.values.items s.count c.args.first c.args.second c.args.value
    c.self.invariant c.after-head.result c.after-head.ensures.value
    c.put_new.new.values.items c.put_new.new.rings.linked.0 _ c.if-head-ne0.false c.in-Ok.ensures.slots
    c.in-Ok.ensures.rings c.in-Ok.ensures.grown c.put_new.ensures.len
    (few s.rings.joints.items s.rings.linked s.values.items s.count c.args.first c.args.second c.args.value
    c.self.invariant c.after-head.result c.after-head.ensures.value c.if-head-ne0.false _ c.self.view_is
    c.requires.room)
    (omega (arith, c.requires.first)) (omega (arith, c.requires.second)) c.requires.apart
    c.in-Ok.place c.in-Ok.ensures.place _ c.self.view_is

pub invariant_of-self-2 : goal.invariant_of-self-2
invariant_of-self-2 g c =
    let s = c.self.inside in
    none-kept s.rings.joints.items s.rings.linked s.values.items s.count c.args.first c.args.second c.args.value
    c.self.invariant c.put_new.new.values.items c.put_new.new.rings.linked.0 _ c.in-Err.ensures.err_slots
    c.in-Err.ensures.err_rings
    (few s.rings.joints.items s.rings.linked s.values.items s.count c.args.first c.args.second c.args.value
    c.self.invariant c.after-head.result c.after-head.ensures.value c.if-head-ne0.false _ c.self.view_is
    c.requires.room)
    c.put_new.ensures.len

pub returns-clause-err : goal.returns-clause-err
returns-clause-err g c =
    let s = c.self.inside in
    none-view s.rings.joints.items s.rings.linked s.values.items s.count c.args.first c.args.second c.args.value
    c.self.invariant c.put_new.new.values.items c.put_new.new.rings.linked.0 _ c.in-Err.ensures.err_slots
    c.in-Err.ensures.err_rings c.self.view_is

pub returns-clause-memory : goal.returns-clause-memory
returns-clause-memory g c =
    let s = c.self.inside in
    no-spare s.rings.joints.items s.rings.linked s.values.items s.count c.args.first c.args.second c.args.value
    c.self.invariant c.after-head.result c.after-head.ensures.value c.if-head-ne0.false _ c.self.view_is
