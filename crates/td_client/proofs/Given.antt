-- What queries and evaluations mean to a visit: small offers that can be written, and values that can be.
use Rattle.std.proofs.Common.{◌≡◌, Option, Some, None, Result, Ok, Err, IfOk, sym, subst}
use Rattle.td_call.specs.Readings.{AdmitsValue}
use Rattle.td_typecode.specs.Values.{any_value}
use Rattle.td_typecode.specs.declared.code.Any.{Any}
use Rattle.td_walk.specs.Peering.{HasSmallOffers, HasWritableOffers}
use Rattle.td_walk.specs.declared.answer.SubAnswer.{SubAnswer}
use Rattle.td_walk.specs.declared.fault.PeerFault.{PeerFault}
use Rattle.td_remote_query.proofs.Fitness.{fit_small, fit_writable}
use Rattle.td_remote_query.specs.Querying.{GivesFitOffers}
use Rattle.td_remote_query.specs.Draining.{AreFit}
use Rattle.td_remote_query.specs.declared.gathered.Gathered.{Gathered}
use Rattle.td_remote_query.specs.declared.gathered.Gathered.TheVariants.{Offers, Refused}
use Rattle.td_client.specs.Meanings.{offers_meant, value_meant, with_meaning}

-- ---- offers

fit-meant : (r : Result Gathered PeerFault) (a : Result SubAnswer PeerFault) → a ≡ with_meaning offers_meant r
    → IfOk r (λ g. GivesFitOffers g) → IfOk a (λ x. AreFit x.offers)
fit-meant r a is fit =
    subst (λ (x : Result SubAnswer PeerFault). IfOk x (λ y. AreFit y.offers)) (sym is) (go r fit)
  where
    go : (r : Result Gathered PeerFault) → IfOk r (λ g. GivesFitOffers g)
        → IfOk (with_meaning offers_meant r) (λ y. AreFit y.offers)
    go (Ok (Offers a)) s = s
    go (Ok (Refused e)) s = tt
    go (Err e) s = tt

small-of : (a : Result SubAnswer PeerFault) → IfOk a (λ x. AreFit x.offers) → IfOk a (λ x. HasSmallOffers x)
small-of (Ok a) fit = fit_small a.offers fit
small-of (Err e) fit = tt

writable-of : (a : Result SubAnswer PeerFault) → IfOk a (λ x. AreFit x.offers) → IfOk a (λ x. HasWritableOffers x)
writable-of (Ok a) fit = fit_writable a.offers fit
writable-of (Err e) fit = tt

pub small_meant : (r : Result Gathered PeerFault) (a : Result SubAnswer PeerFault) → a ≡ with_meaning offers_meant r
    → IfOk r (λ g. GivesFitOffers g) → IfOk a (λ x. HasSmallOffers x)
small_meant r a is fit = small-of a (fit-meant r a is fit)

pub writable_meant : (r : Result Gathered PeerFault) (a : Result SubAnswer PeerFault)
    → a ≡ with_meaning offers_meant r → IfOk r (λ g. GivesFitOffers g) → IfOk a (λ x. HasWritableOffers x)
writable_meant r a is fit = writable-of a (fit-meant r a is fit)

-- ---- values

pub value_admitted : (r : Result (Option Any) PeerFault) (x : Result Any PeerFault) → x ≡ with_meaning value_meant r
    → IfOk r (λ o. AdmitsValue o) → IfOk x (λ v. any_value.format.admits v)
value_admitted r x is h =
    subst (λ (y : Result Any PeerFault). IfOk y (λ v. any_value.format.admits v)) (sym is) (go r h)
  where
    go : (r : Result (Option Any) PeerFault) → IfOk r (λ o. AdmitsValue o)
        → IfOk (with_meaning value_meant r) (λ v. any_value.format.admits v)
    go (Ok (Some v)) h = h
    go (Ok None) h = tt
    go (Err e) h = tt
