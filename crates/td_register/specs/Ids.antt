-- Offers by their ids (OMG's Trading Object Service, the exceptions IllegalOfferId and UnknownOfferId of module
-- CosTrading). An offer's id is its number in decimal.
use Rattle.std.specs.Prelude.{ℕ, nat_eq, ◌^◌, is_some, if◌then◌else◌, List, Option, None, Some, Ok, Err}
use Rattle.std.specs.Fmt.{decimal}
use Rattle.td_exceptions.specs.declared.exception.UserException.TheVariants.{IllegalOfferId, UnknownOfferId}
use Rattle.td_exceptions.specs.declared.exception.UserException.TheVariants.{ProxyOfferId, NotProxyOfferId}
use Rattle.td_ior.specs.Number.{number_below}
use Rattle.td_store.specs.OfferLists.{offer_of}
use Rattle.td_store.specs.declared.record.OfferRecord.{OfferRecord}
use Rattle.td_register.specs.Causes.{OrRefusal, raise, there}

abbrev pub id_of : ℕ → List ℕ
id_of number = decimal number

abbrev pub positive : Option ℕ → Option ℕ
positive None = None
positive (Some n) = if nat_eq n 0 then None else Some n

-- from 1 to 4,294,967,295, in decimal without leading zeros
abbrev pub number_in : List ℕ → Option ℕ
number_in id = positive (number_below (2 ^ 32) id)

abbrev pub offer_numbered : List OfferRecord → List ℕ → Option ℕ → OrRefusal OfferRecord
offer_numbered offers id None = raise (IllegalOfferId id)
offer_numbered offers id (Some number) = there (offer_of offers number) (UnknownOfferId id)

-- the offer of an id, of either kind
abbrev pub offer_of_id : List OfferRecord → List ℕ → OrRefusal OfferRecord
offer_of_id offers id = offer_numbered offers id (number_in id)

abbrev pub of_proxies : List ℕ → OrRefusal OfferRecord → OrRefusal OfferRecord
of_proxies id (Err f) = Err f
of_proxies id (Ok offer) = if is_some offer.proxy then Ok offer else raise (NotProxyOfferId id)

abbrev pub of_ordinary : List ℕ → OrRefusal OfferRecord → OrRefusal OfferRecord
of_ordinary id (Err f) = Err f
of_ordinary id (Ok offer) = if is_some offer.proxy then raise (ProxyOfferId id) else Ok offer

-- the ordinary offer of an id
abbrev pub ordinary : List OfferRecord → List ℕ → OrRefusal OfferRecord
ordinary offers id = of_ordinary id (offer_of_id offers id)

-- the proxy offer of an id
abbrev pub proxy : List OfferRecord → List ℕ → OrRefusal OfferRecord
proxy offers id = of_proxies id (offer_of_id offers id)
