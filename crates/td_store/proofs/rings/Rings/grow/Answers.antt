use Rattle.std.proofs.Common.{arith}
use Rattle.td_store.specs.Rings.{rings_are}
use Rattle.td_store.proofs.Linking.{grows}
use Rattle.td_store.proofs.rings.Rings.grow.Goals as goal

pub invariant_of-self : goal.invariant_of-self
invariant_of-self c =
    let old = c.args.self.now in
    record {
      linked = (
        old.linked.0,
        grows old.joints.items _ old.linked c.len-n.result _ _ _ _ (omega (arith, old.joints.ok.0)) c.alone.ensures
            c.alone-2.ensures c.alone-3.ensures c.extend_from_slice.ensures.items,
      );
    }

pub returns-in-Err-clause-rings : goal.returns-in-Err-clause-rings
returns-in-Err-clause-rings c =
    let old = c.args.self.now in
    rings_are _ c.self-1.given.0 old.linked.0
    (grows old.joints.items _ old.linked c.len-n.result _ _ _ _ (omega (arith, old.joints.ok.0)) c.alone.ensures
    c.alone-2.ensures c.alone-3.ensures c.extend_from_slice.ensures.items)

pub returns-in-Ok-clause-rings : goal.returns-in-Ok-clause-rings
returns-in-Ok-clause-rings c =
    let old = c.args.self.now in
    rings_are _ c.self-1.given.0 old.linked.0
    (grows old.joints.items _ old.linked c.len-n.result _ _ _ _ (omega (arith, old.joints.ok.0)) c.alone.ensures
    c.alone-2.ensures c.alone-3.ensures c.extend_from_slice.ensures.items)
