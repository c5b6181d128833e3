use Rattle.std.proofs.Common.{◌*◌, arith}
use Rattle.td_store.specs.Rings.{with_last, rings_are}
use Rattle.td_store.proofs.Linking.{appends, last-in}
use Rattle.td_store.proofs.rings.Rings.append.Goals as goal

pub index_mut-requires : goal.index_mut-requires
index_mut-requires c =
    omega (
      arith,
      last-in c.args.self.now.joints.items c.args.self.now.linked (3 * c.args.ring) c.index.result.now
          c.requires.ring c.index.ensures,
    )

pub invariant_of-self : goal.invariant_of-self
invariant_of-self c =
    let old = c.args.self.now.linked in
    record {
      linked = (
        with_last c.args.ring c.args.link old.0,
        appends _ old c.args.link c.args.ring _ _ _ c.requires.there c.requires.link c.requires.off c.requires.ring
            c.index.ensures c.index_mut.ensures.value c.index_mut-2.ensures.value,
      );
    }

pub returns-clause-rings : goal.returns-clause-rings
returns-clause-rings c =
    let old = c.args.self.now.linked in
    rings_are _ c.self-4-1.given.0 (with_last c.args.ring c.args.link old.0)
    (appends _ old c.args.link c.args.ring _ _ _ c.requires.there c.requires.link c.requires.off c.requires.ring
    c.index.ensures c.index_mut.ensures.value c.index_mut-2.ensures.value)
