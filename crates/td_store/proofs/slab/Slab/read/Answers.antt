use Rattle.std.proofs.Common.{◌<◌, ◌≤◌, length, sym, ap, ◌∙◌, arith}
use Rattle.td_store.specs.Slabs.{is_in}
use Rattle.td_store.proofs.Keeping.{chain-seen, chain-past, slot-lacks, slot-past}
use Rattle.td_store.proofs.Reading.{off-chain}
use Rattle.td_store.proofs.slab.Slab.read.Goals as goal

pub returns-then-chain-self-clause-found : goal.returns-then-chain-self-clause-found
returns-then-chain-self-clause-found g c =
    sym (ap (is_in c.args.place)
    (chain-past _ _ _ _ c.args.chain _ c.self.invariant c.self.view_is c.if-chain-self.true))

pub returns-then-place-len-clause-found : goal.returns-then-place-len-clause-found
returns-then-place-len-clause-found g c =
    let items = c.self.inside.values.items in
    let past : length items ≤ c.args.place = omega (arith, c.self.inside.values.ok.0) in
    sym (off-chain _ _ _ _ c.args.chain c.args.place _ _ c.self.invariant c.self.inside.rings.linked.1.paths
    c.self.view_is (slot-past items c.args.place past))

pub returns-in-None-clause-found : goal.returns-in-None-clause-found
returns-in-None-clause-found g c =
    let items = c.self.inside.values.items in
    let within : c.args.place < length items = omega (arith, c.self.inside.values.ok.0) in
    sym (off-chain _ _ _ _ c.args.chain c.args.place _ _ c.self.invariant c.self.inside.rings.linked.1.paths
    c.self.view_is (slot-lacks items c.args.place _ within c.index.ensures (sym c.in-None.ensures)))

pub returns-in-None-next_on-clause-found : goal.returns-in-None-next_on-clause-found
returns-in-None-next_on-clause-found g c =
    c.in-None-next_on.ensures.found
    ∙ ap (is_in c.args.place) (sym (chain-seen _ _ _ _ c.args.chain _ c.self.invariant c.self.view_is))

pub returns-in-Some-next_on-clause-found : goal.returns-in-Some-next_on-clause-found
returns-in-Some-next_on-clause-found g c =
    c.in-Some-next_on.ensures.found
    ∙ ap (is_in c.args.place) (sym (chain-seen _ _ _ _ c.args.chain _ c.self.invariant c.self.view_is))

pub returns-in-Some-next_on-clause-next : goal.returns-in-Some-next_on-clause-next
returns-in-Some-next_on-clause-next g c front back e =
    c.in-Some-next_on.ensures.next front back
    (sym (chain-seen _ _ _ _ c.args.chain _ c.self.invariant c.self.view_is) ∙ e)
