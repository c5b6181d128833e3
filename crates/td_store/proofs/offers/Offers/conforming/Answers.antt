use Rattle.std.proofs.Common.{false, map, ap, ◌∙◌, Bor}
use Rattle.std.proofs.lemmas.Result.{IfOk-weaker}
use Rattle.td_store.specs.Homes.{offers_in}
use Rattle.td_store.specs.declared.record.OfferRecord.{OfferRecord}
use Rattle.td_store.proofs.Choosing.{steps-within, conforming-same}
use Rattle.td_store.proofs.Holding.{chained}
use Rattle.td_store.proofs.offers.Offers.conforming.Goals as goal

pub returns-in_err-offers-clause-steps : goal.returns-in_err-offers-clause-steps
returns-in_err-offers-clause-steps g c =
    let offers = offers_in c.self.inside.slab c.self.inside.numbers.entries in
    let held =
    chained c.self.inside.slab c.self.inside.numbers.entries c.self.inside.chains c.self.inside.ordinary
    c.self.inside.proxies c.self.invariant in
    steps-within c.args.types.now.types false c.args.asked.now offers c.args.self.now c.as_slice.result.now
    c.args.steps.now c.conforming.new.steps
    (c.as_slice.ensures ∙ c.in_ok-incarnations.ensures.answer) c.self.view_is (c.conforming.ensures.steps offers held)

pub returns-clause-found : goal.returns-clause-found
returns-clause-found g c =
    let offers = offers_in c.self.inside.slab c.self.inside.numbers.entries in
    let held =
    chained c.self.inside.slab c.self.inside.numbers.entries c.self.inside.chains c.self.inside.ordinary
    c.self.inside.proxies c.self.invariant in
    let now : Bor OfferRecord → OfferRecord = λ r. r.now in
    IfOk-weaker c.of_conforming_types.result _ _
    (λ v h. h ∙ conforming-same c.args.types.now.types c.args.asked.now offers c.args.self.now
    (map now c.as_slice-2.result.now) c.as_slice.result.now (c.as_slice.ensures ∙ c.in_ok-incarnations.ensures.answer)
    c.self.view_is (ap (map now) c.as_slice-2.ensures.value ∙ c.in_ok-offers.ensures.ok offers held))
    c.of_conforming_types.ensures

pub returns-clause-steps : goal.returns-clause-steps
returns-clause-steps g c =
    let offers = offers_in c.self.inside.slab c.self.inside.numbers.entries in
    let held =
    chained c.self.inside.slab c.self.inside.numbers.entries c.self.inside.chains c.self.inside.ordinary
    c.self.inside.proxies c.self.invariant in
    steps-within c.args.types.now.types false c.args.asked.now offers c.args.self.now c.as_slice.result.now
    c.args.steps.now c.conforming.new.steps
    (c.as_slice.ensures ∙ c.in_ok-incarnations.ensures.answer) c.self.view_is (c.conforming.ensures.steps offers held)
