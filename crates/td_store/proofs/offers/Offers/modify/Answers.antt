use Rattle.std.proofs.Common.{sym, ap, ◌∙◌}
use Rattle.std.specs.Option.{is_some}
use Rattle.td_store.specs.Homes.{offers_in}
use Rattle.td_store.specs.Slabs.{value_at}
use Rattle.td_store.proofs.Offering.{placed, offer-placed, with-none, changed-shows, changed-holds, changed-there}
use Rattle.td_store.proofs.offers.Offers.modify.Goals as goal

pub invariant_of-self : goal.invariant_of-self
invariant_of-self c =
    changed-holds c.self.inside.slab c.self.inside.numbers.entries c.self.inside.chains c.self.inside.ordinary
    c.self.inside.proxies c.args.number c.in-Some.place c.args.properties c.self.invariant
    (sym c.get.ensures.value ∙ (sym c.copied.ensures ∙ c.in-Some.is)) c.change_properties.new.slab
    c.change_properties.ensures

pub returns-in-None-clause-there : goal.returns-in-None-clause-there
returns-in-None-clause-there c =
    let value = value_at c.self.inside.slab.slots in
    rw (← c.self.view_is) (sym
    (ap is_some (offer-placed value c.args.number c.self.inside.numbers.entries c.self.invariant.homes.numbered
    ∙ ap (placed value) (sym c.get.ensures.value ∙ (sym c.copied.ensures ∙ c.in-None.is)))))

pub returns-in-None-clause-changed : goal.returns-in-None-clause-changed
returns-in-None-clause-changed c =
    let value = value_at c.self.inside.slab.slots in
    rw (← c.self.view_is) (sym
    (with-none c.args.number c.args.properties (offers_in c.self.inside.slab c.self.inside.numbers.entries)
    (offer-placed value c.args.number c.self.inside.numbers.entries c.self.invariant.homes.numbered
    ∙ ap (placed value) (sym c.get.ensures.value ∙ (sym c.copied.ensures ∙ c.in-None.is)))))

pub returns-in-Some-clause-there : goal.returns-in-Some-clause-there
returns-in-Some-clause-there c =
    rw (← c.self.view_is) (sym
    (changed-there c.self.inside.slab c.self.inside.numbers.entries c.self.inside.chains c.self.inside.ordinary
    c.self.inside.proxies c.args.number c.in-Some.place c.args.properties c.self.invariant
    (sym c.get.ensures.value ∙ (sym c.copied.ensures ∙ c.in-Some.is))))

pub returns-in-Some-clause-changed : goal.returns-in-Some-clause-changed
returns-in-Some-clause-changed c =
    rw (← c.self.view_is) (changed-shows c.self.inside.slab c.self.inside.numbers.entries c.self.inside.chains
    c.self.inside.ordinary c.self.inside.proxies c.args.number c.in-Some.place c.args.properties c.self.invariant
    (sym c.get.ensures.value ∙ (sym c.copied.ensures ∙ c.in-Some.is)) c.change_properties.new.slab
    c.change_properties.ensures)
