use Rattle.std.proofs.Common.{◌+◌, ◌*◌, sym, ap, ◌∙◌}
use Rattle.td_store.specs.Slabs.{first_of}
use Rattle.td_store.specs.Kept.{next_place}
use Rattle.td_store.proofs.Keeping.{chain-seen, chain-past}
use Rattle.td_store.proofs.Reading.{first-of}
use Rattle.td_store.proofs.slab.Slab.head.Goals as goal

pub returns-then-chain-self-clause-value : goal.returns-then-chain-self-clause-value
returns-then-chain-self-clause-value g c =
    sym (ap first_of (chain-past _ _ _ _ c.args.chain _ c.self.invariant c.self.view_is c.if-chain-self.true))

pub returns-clause-value : goal.returns-clause-value
returns-clause-value g c =
    let l = c.self.inside.rings.linked in
    c.place_at.ensures ∙ (ap next_place c.after.ensures.value
    ∙ (first-of _ (3 * (c.args.chain + 1)) (c.args.chain + 1) (l.0 (c.args.chain + 1))
    (l.1.paths (c.args.chain + 1))
    ∙ ap first_of (sym (chain-seen _ _ _ _ c.args.chain _ c.self.invariant c.self.view_is))))
