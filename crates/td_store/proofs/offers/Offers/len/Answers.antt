use Rattle.std.proofs.Common.{length, sym, ap, ◌∙◌, subst}
use Rattle.td_store.specs.OfferLists.{NumbersRise}
use Rattle.td_store.specs.Slabs.{value_at}
use Rattle.td_store.proofs.Holding.{offers-rise}
use Rattle.td_store.proofs.Offering.{count-is-numbers}
use Rattle.td_store.proofs.offers.Offers.len.Goals as goal

pub returns-clause-count : goal.returns-clause-count
returns-clause-count c =
    c.len.ensures.len
    ∙ sym (ap length (sym c.self.view_is)
    ∙ count-is-numbers (value_at c.self.inside.slab.slots) c.self.inside.numbers.entries
    c.self.invariant.homes.numbered)

pub returns-clause-rise : goal.returns-clause-rise
returns-clause-rise c =
    subst NumbersRise c.self.view_is
    (offers-rise (value_at c.self.inside.slab.slots) c.self.inside.numbers.entries c.self.invariant.homes.numbered
    c.self.invariant.homes.sorted)
