use Rattle.std.proofs.Common.{◌+◌, ◌∷◌, ◌++◌, [], sym, ap, ◌∙◌, arith}
use Rattle.td_store.specs.Slabs.{Slab}
use Rattle.td_store.proofs.Keeping.{grown-kept, same-view, chain-kept, chain-view, count-is}
use Rattle.td_store.proofs.slab.Slab.add_chain.Goals as goal

pub invariant_of-self : goal.invariant_of-self
invariant_of-self g c =
    let count = count-is _ _ _ _ c.self.view_is in
    grown-kept _ _ _ _ _ _ c.self.invariant c.reserve.ensures.rings (c.self.inside.count + 2)
    (omega (arith, c.requires.few)) c.reserve.ensures.len

pub overflow_add-self : goal.overflow_add-self
overflow_add-self g c =
    let count = count-is _ _ _ _ c.self.view_is in
    omega (arith, c.requires.few)

pub invariant_of-self-2 : goal.invariant_of-self-2
invariant_of-self-2 g c =
    let count = count-is _ _ _ _ c.self.view_is in
    let kept =
    grown-kept _ _ _ _ _ _ c.self.invariant c.reserve.ensures.rings (c.self.inside.count + 2)
    (omega (arith, c.requires.few)) c.reserve.ensures.len in
    chain-kept _ _ _ _ kept c.in_ok-reserve.ensures.ok (omega (arith, c.requires.few))

pub returns-clause-ok : goal.returns-clause-ok
returns-clause-ok g c = sym (count-is _ _ _ _ c.self.view_is)

pub returns-clause-added : goal.returns-clause-added
returns-clause-added g c =
    let count = count-is _ _ _ _ c.self.view_is in
    let kept =
    grown-kept _ _ _ _ _ _ c.self.invariant c.reserve.ensures.rings (c.self.inside.count + 2)
    (omega (arith, c.requires.few)) c.reserve.ensures.len in
    chain-view _ _ _ _ kept ∙ ap (λ (s : Slab g.row.T.Denot). record s { chains = s.chains ++ [] ∷ [] })
    (same-view _ _ _ _ c.reserve.ensures.rings ∙ c.self.view_is)
