use Rattle.std.proofs.Common.{List, ◌++◌, map, rules, ap, ◌∙◌, Bor}
use Rattle.std.proofs.lemmas.List.Sorted.{IsNonDecreasingBy-from_sort_by_key}
use Rattle.td_store.specs.declared.record.OfferRecord.{OfferRecord}
use Rattle.td_store.specs.Walks.{values_of}
use Rattle.td_store.proofs.Mixing.{few-steps, in-order}
use Rattle.td_store.proofs.search.conforming.Goals as goal

pub returns-in_err-gather_all-clause-steps : goal.returns-in_err-gather_all-clause-steps
returns-in_err-gather_all-clause-steps g c = λ offers held.
    few-steps c.args.slab.now c.args.chains.now offers held c.args.incarnations.now _ _ c.requires.apart
    c.gather_all.ensures.steps

pub returns-in_err-sort_by_key-clause-steps : goal.returns-in_err-sort_by_key-clause-steps
returns-in_err-sort_by_key-clause-steps g c = λ offers held.
    few-steps c.args.slab.now c.args.chains.now offers held c.args.incarnations.now _ _ c.requires.apart
    c.gather_all.ensures.steps

pub returns-clause-steps : goal.returns-clause-steps
returns-clause-steps g c = λ offers held.
    few-steps c.args.slab.now c.args.chains.now offers held c.args.incarnations.now _ _ c.requires.apart
    c.gather_all.ensures.steps

pub returns-clause-ok : goal.returns-clause-ok
returns-clause-ok g c = λ offers held.
    let up =
    IsNonDecreasingBy-from_sort_by_key (λ (r : Bor OfferRecord). r.now.number) _ c.in_ok-sort_by_key.ensures.sorted
    (λ a r q k. search rules) in
    in-order (λ (r : Bor OfferRecord). r.now) c.args.slab.now c.args.chains.now offers c.args.incarnations.now _ _ held
    c.requires.apart
    (c.in_ok-gather_all.ensures.ok
    ∙ ap (λ (xs : List (Bor OfferRecord)).
    map (λ r. r.now) xs ++ values_of c.args.slab.now.slots c.args.slab.now.chains c.args.chains.now
    c.args.incarnations.now)
    c.new-found.ensures.items)
    c.in_ok-sort_by_key.ensures.permutation up
