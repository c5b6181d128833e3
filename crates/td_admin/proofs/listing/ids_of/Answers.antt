use Rattle.std.proofs.Common.{◌≡◌, List, [], ◌∷◌, map, refl, ap, ◌∙◌}
use Rattle.std.specs.List.{filter}
use Rattle.std.proofs.lemmas.Result.{IfOk-weaker}
use Rattle.td_store.specs.OfferLists.{is_of_kind}
use Rattle.td_store.specs.declared.record.OfferRecord.{OfferRecord}
use Rattle.td_admin.specs.Administration.{ids_of}
use Rattle.td_register.specs.Ids.{id_of}
use Rattle.td_admin.proofs.listing.ids_of.Goals as goal

ids-of_numbers : (os : List OfferRecord) →
    map id_of (map (λ (o : OfferRecord). o.number) os) ≡ map (λ (o : OfferRecord). id_of o.number) os
ids-of_numbers [] = refl
ids-of_numbers (o ∷ os) = ap (λ t. id_of o.number ∷ t) (ids-of_numbers os)

pub returns : goal.returns
returns c =
    IfOk-weaker c.spelled.result (λ ids. ids ≡ map id_of c.as_slice.result.now) (λ ids. ids ≡ ids_of c.args.proxies
    c.args.offers.now)
    (λ ids e. e ∙ (ap (map id_of) (c.as_slice.ensures ∙ c.in_ok-numbers.ensures) ∙ ids-of_numbers (filter (is_of_kind
    c.args.proxies) c.args.offers.now)))
    c.spelled.ensures
