use Rattle.td_store.specs.Rings.{rings_are}
use Rattle.td_store.specs.Slabs.{without}
use Rattle.td_store.proofs.Linking.{unlinks}
use Rattle.td_store.proofs.rings.Rings.unlink.Goals as goal

pub invariant_of-self : goal.invariant_of-self
invariant_of-self c =
    let old = c.args.self.now.linked in
    record {
      linked = (
        λ k. without c.args.link (old.0 k),
        unlinks _ old c.args.link _ _ _ _ c.requires.there c.requires.link c.index.ensures c.index_mut.ensures.value
            c.index_mut-2.ensures.value c.alone.ensures,
      );
    }

pub returns-clause-rings : goal.returns-clause-rings
returns-clause-rings c =
    let old = c.args.self.now.linked in
    rings_are _ c.self-4-1.given.0 (λ k. without c.args.link (old.0 k))
    (unlinks _ old c.args.link _ _ _ _ c.requires.there c.requires.link c.index.ensures c.index_mut.ensures.value
    c.index_mut-2.ensures.value c.alone.ensures)
