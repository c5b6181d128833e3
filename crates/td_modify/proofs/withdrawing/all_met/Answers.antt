use Rattle.std.proofs.Common.{◌≡◌, List, map, ap, ◌∙◌, Bor}
use Rattle.std.specs.List.{filter}
use Rattle.std.proofs.lemmas.Result.{IfOk-weaker}
use Rattle.td_store.specs.declared.record.OfferRecord.{OfferRecord}
use Rattle.td_register.specs.Registers.{is_met}
use Rattle.td_modify.specs.Withdrawals.{meets}
use Rattle.td_modify.proofs.Withdrawn.{met-within, numbers_in}
use Rattle.td_modify.proofs.withdrawing.all_met.Goals as goal

pub returns : goal.returns
returns c =
    let now = λ (r : Bor OfferRecord). r.now in
    let asked = c.args.constraint.now in
    let offers = c.args.store.now.offers in
    IfOk-weaker c.met_among.result (λ met. met ≡ numbers_in (filter (meets asked) (map now c.as_slice.result.now)))
    (λ met. met ≡ numbers_in (filter (is_met c.args.store.now.types.types c.args.asked.now asked) offers))
    (λ met e. e ∙ (ap (λ (os : List OfferRecord). numbers_in (filter (meets asked) os)) (ap (map now)
    c.as_slice.ensures.value ∙ c.in_ok-offers.ensures) ∙ ap numbers_in (met-within c.args.store.now.types.types
    c.args.asked.now asked offers)))
    c.met_among.ensures
