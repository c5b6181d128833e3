use Rattle.std.proofs.Common.{sym, ap, ◌∙◌}
use Rattle.td_store.specs.Slabs.{value_at}
use Rattle.td_store.proofs.Offering.{placed, offer-placed}
use Rattle.td_store.proofs.offers.Offers.get.Goals as goal

pub returns-in-None : goal.returns-in-None
returns-in-None c =
    let value = value_at c.self.inside.slab.slots in
    rw (← c.self.view_is) (sym
    (offer-placed value c.args.number c.self.inside.numbers.entries c.self.invariant.homes.numbered
    ∙ ap (placed value) (sym c.in-None.ensures.value)))

pub returns-in-Some : goal.returns-in-Some
returns-in-Some c =
    let value = value_at c.self.inside.slab.slots in
    rw (← c.self.view_is) (c.look.ensures
    ∙ sym (offer-placed value c.args.number c.self.inside.numbers.entries c.self.invariant.homes.numbered
    ∙ ap (placed value) (sym c.in-Some.ensures.value)))
