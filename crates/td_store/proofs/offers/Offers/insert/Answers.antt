use Rattle.std.proofs.Common.{List, length, [], ◌∷◌, ◌++◌, sym, ap, ◌∙◌, arith}
use Rattle.std.proofs.lemmas.Result.{err_from_is_err_and}
use Rattle.td_store.specs.Homes.{kind_chain}
use Rattle.td_store.specs.Slabs.{value_at}
use Rattle.td_store.specs.declared.record.OfferRecord.{OfferRecord}
use Rattle.td_store.proofs.Offering.{chained-holds, chained-shows, unchanged-holds, put-holds}
use Rattle.td_store.proofs.Offering.{put-shows, keys-below, count-is-numbers}
use Rattle.td_store.proofs.offers.Offers.insert.Goals as goal

pub returns-then-len-ge-MOST_OFFERS-clause-full : goal.returns-then-len-ge-MOST_OFFERS-clause-full
returns-then-len-ge-MOST_OFFERS-clause-full c =
    let count =
    ap length (sym c.self.view_is)
    ∙ count-is-numbers (value_at c.self.inside.slab.slots) c.self.inside.numbers.entries
    c.self.invariant.homes.numbered in
    omega (arith, count, c.len.ensures.len, c.if-len-ge-MOST_OFFERS.true)

pub returns-in_err-of_type-clause-full : goal.returns-in_err-of_type-clause-full
returns-in_err-of_type-clause-full c =
    let p = err_from_is_err_and c.from_residual.result c.from_residual.ensures.1 in
    let count =
    ap length (sym c.self.view_is)
    ∙ count-is-numbers (value_at c.self.inside.slab.slots) c.self.inside.numbers.entries
    c.self.invariant.homes.numbered in
    rw (p.1, p.2) (omega (arith, count, c.len.ensures.len, c.if-len-ge-MOST_OFFERS.false))

pub put_offer-requires-clause-above : goal.put_offer-requires-clause-above
put_offer-requires-clause-above c =
    (keys-below (value_at c.self.inside.slab.slots) c.args.offer.number c.self.inside.numbers.entries
    c.self.invariant.homes.numbered (rw (← c.self.view_is) at c.requires.above))

pub invariant_of-self-in_err-put_offer : goal.invariant_of-self-in_err-put_offer
invariant_of-self-in_err-put_offer c =
    unchanged-holds c.chain_for.new.slab c.put_offer.new.slab c.self.inside.numbers.entries
    c.put_offer.new.numbers.entries c.chain_for.new.chains c.self.inside.ordinary c.self.inside.proxies
    (chained-holds c.self.inside.slab c.chain_for.new.slab c.self.inside.numbers.entries c.self.inside.chains
    c.chain_for.new.chains c.self.inside.ordinary c.self.inside.proxies c.self.invariant
    c.chain_for.ensures.slots c.chain_for.ensures.places c.chain_for.ensures.of_types
    c.chain_for.ensures.chains)
    c.in_err-put_offer.ensures.as_before c.in_err-put_offer.ensures.numbers

pub returns-in_err-put_offer-clause-full : goal.returns-in_err-put_offer-clause-full
returns-in_err-put_offer-clause-full c =
    let p = err_from_is_err_and c.from_residual-in_err-put_offer.result c.from_residual-in_err-put_offer.ensures.1 in
    let count =
    ap length (sym c.self.view_is)
    ∙ count-is-numbers (value_at c.self.inside.slab.slots) c.self.inside.numbers.entries
    c.self.invariant.homes.numbered in
    rw (p.1, p.2) (omega (arith, count, c.len.ensures.len, c.if-len-ge-MOST_OFFERS.false))

pub invariant_of-self-2 : goal.invariant_of-self-2
invariant_of-self-2 c =
    put-holds c.chain_for.new.slab c.put_offer.new.slab c.self.inside.numbers.entries c.put_offer.new.numbers.entries
    c.chain_for.new.chains c.self.inside.ordinary c.self.inside.proxies c.in_ok-of_type.of_type
    c.chain_of_kind-of_kind.result c.args.offer
    (chained-holds c.self.inside.slab c.chain_for.new.slab c.self.inside.numbers.entries c.self.inside.chains
    c.chain_for.new.chains c.self.inside.ordinary c.self.inside.proxies c.self.invariant
    c.chain_for.ensures.slots c.chain_for.ensures.places c.chain_for.ensures.of_types
    c.chain_for.ensures.chains)
    c.in_ok-put_offer.ensures.put c.in_ok-of_type.ensures.found
    (c.chain_of_kind-of_kind.ensures ∙ ap kind_chain c.is_some.ensures)
    (keys-below (value_at c.self.inside.slab.slots) c.args.offer.number c.self.inside.numbers.entries
    c.self.invariant.homes.numbered (rw (← c.self.view_is) at c.requires.above))
    c.put_offer.ensures.ordered

pub returns-clause-added : goal.returns-clause-added
returns-clause-added c =
    put-shows c.chain_for.new.slab c.put_offer.new.slab c.self.inside.numbers.entries c.put_offer.new.numbers.entries
    c.chain_for.new.chains c.self.inside.ordinary c.self.inside.proxies c.in_ok-of_type.of_type
    c.chain_of_kind-of_kind.result c.args.offer
    (chained-holds c.self.inside.slab c.chain_for.new.slab c.self.inside.numbers.entries c.self.inside.chains
    c.chain_for.new.chains c.self.inside.ordinary c.self.inside.proxies c.self.invariant
    c.chain_for.ensures.slots c.chain_for.ensures.places c.chain_for.ensures.of_types
    c.chain_for.ensures.chains)
    c.in_ok-put_offer.ensures.put c.in_ok-of_type.ensures.found
    (c.chain_of_kind-of_kind.ensures ∙ ap kind_chain c.is_some.ensures)
    (keys-below (value_at c.self.inside.slab.slots) c.args.offer.number c.self.inside.numbers.entries
    c.self.invariant.homes.numbered (rw (← c.self.view_is) at c.requires.above))
    c.put_offer.ensures.ordered
    ∙ ap (λ (os : List OfferRecord). os ++ c.args.offer ∷ [])
    (chained-shows c.self.inside.slab c.chain_for.new.slab c.self.inside.numbers.entries c.self.inside.chains
    c.chain_for.new.chains c.self.inside.ordinary c.self.inside.proxies c.self.invariant
    c.chain_for.ensures.slots c.chain_for.ensures.places c.chain_for.ensures.of_types c.chain_for.ensures.chains
    ∙ c.self.view_is)

pub returns-clause-full : goal.returns-clause-full
returns-clause-full c =
    let count =
    ap length (sym c.self.view_is)
    ∙ count-is-numbers (value_at c.self.inside.slab.slots) c.self.inside.numbers.entries
    c.self.invariant.homes.numbered in
    omega (arith, count, c.len.ensures.len, c.if-len-ge-MOST_OFFERS.false)
