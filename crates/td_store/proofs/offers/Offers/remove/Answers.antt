use Rattle.std.proofs.Common.{sym, ap, ◌∙◌}
use Rattle.td_store.specs.Homes.{offers_in}
use Rattle.td_store.specs.Slabs.{value_at}
use Rattle.td_store.proofs.Offering.{placed, offer-placed, home-of, without-none, taken-shows, taken-holds}
use Rattle.td_store.proofs.Setting.{matched}
use Rattle.td_store.proofs.offers.Offers.remove.Goals as goal

pub invariant_of-self-in-Some : goal.invariant_of-self-in-Some
invariant_of-self-in-Some c =
    rw c.remove.ensures.entries
    (taken-holds c.self.inside.slab c.take.new.self c.self.inside.numbers.entries c.self.inside.chains
    c.self.inside.ordinary c.self.inside.proxies c.args.number c.in-Some.place c.self.invariant
    (sym c.in-Some.ensures.value)
    (let o =
    home-of (value_at c.self.inside.slab.slots) c.args.number c.in-Some.place c.self.inside.numbers.entries
    c.self.invariant.homes.numbered (sym c.in-Some.ensures.value) in
    matched c.take.result o.0 _ _ (c.take.ensures.value ∙ o.1) c.take.ensures.none)
    (rw c.remove.ensures.entries at c.remove.ensures.ordered))

pub returns-in-None-clause-value : goal.returns-in-None-clause-value
returns-in-None-clause-value c =
    let value = value_at c.self.inside.slab.slots in
    rw (← c.self.view_is) (sym
    (offer-placed value c.args.number c.self.inside.numbers.entries c.self.invariant.homes.numbered
    ∙ ap (placed value) (sym c.in-None.ensures.value)))

pub returns-in-None-clause-others : goal.returns-in-None-clause-others
returns-in-None-clause-others c =
    let value = value_at c.self.inside.slab.slots in
    rw (← c.self.view_is) (ap (offers_in c.self.inside.slab) c.in-None.ensures.unchanged
    ∙ sym (without-none c.args.number (offers_in c.self.inside.slab c.self.inside.numbers.entries)
    (offer-placed value c.args.number c.self.inside.numbers.entries c.self.invariant.homes.numbered
    ∙ ap (placed value) (sym c.in-None.ensures.value))))

pub returns-in-Some-clause-value : goal.returns-in-Some-clause-value
returns-in-Some-clause-value c =
    let value = value_at c.self.inside.slab.slots in
    rw (← c.self.view_is) (c.take.ensures.value
    ∙ sym (offer-placed value c.args.number c.self.inside.numbers.entries c.self.invariant.homes.numbered
    ∙ ap (placed value) (sym c.in-Some.ensures.value)))

pub returns-in-Some-clause-others : goal.returns-in-Some-clause-others
returns-in-Some-clause-others c =
    rw (← c.self.view_is) (ap (offers_in c.take.new.self) c.remove.ensures.entries
    ∙ taken-shows c.self.inside.slab c.take.new.self c.self.inside.numbers.entries c.self.inside.chains
    c.self.inside.ordinary c.self.inside.proxies c.args.number c.in-Some.place c.self.invariant
    (sym c.in-Some.ensures.value)
    (let o =
    home-of (value_at c.self.inside.slab.slots) c.args.number c.in-Some.place c.self.inside.numbers.entries
    c.self.invariant.homes.numbered (sym c.in-Some.ensures.value) in
    matched c.take.result o.0 _ _ (c.take.ensures.value ∙ o.1) c.take.ensures.none))
