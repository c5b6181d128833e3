-- Service types by their names, as the operations on offers look for them (OMG's Trading Object Service, the
-- exceptions IllegalServiceType and UnknownServiceType of module CosTrading).
use Rattle.std.specs.Prelude.{ℕ, if◌then◌else◌, List, [], Option, None, Some}
use Rattle.td_cdr.specs.Names.{word_name}
use Rattle.td_exceptions.specs.declared.exception.UserException.TheVariants.{IllegalServiceType, UnknownServiceType}
use Rattle.td_value.specs.declared.structures.PropStruct.{PropStruct}
use Rattle.td_types.specs.Properties.{full_properties}
use Rattle.td_types.specs.Repository.{type_named}
use Rattle.td_types.specs.declared.entry.ServiceType.{ServiceType}
use Rattle.td_store.specs.Candidates.{belongs}
use Rattle.td_store.specs.declared.record.OfferRecord.{OfferRecord}
use Rattle.td_register.specs.Causes.{OrRefusal, raise, there}

-- the type of a name
abbrev pub type_found : List ServiceType → List ℕ → OrRefusal ServiceType
type_found types name =
    if word_name name then there (type_named types name) (UnknownServiceType name) else raise
    (IllegalServiceType name)

abbrev pub if_unmasked : Option ServiceType → Option ServiceType
if_unmasked None = None
if_unmasked (Some t) = if t.masked then None else Some t

-- the type of a name for a new offer: a masked type counts as unknown
abbrev pub open_type : List ServiceType → List ℕ → OrRefusal ServiceType
open_type types name =
    if word_name name then there (if_unmasked (type_named types name)) (UnknownServiceType name)
    else raise (IllegalServiceType name)

-- ---- the type of an offer

-- what its type demands of its properties; of an offer that belongs to none nothing is demanded
abbrev pub type_properties : List ServiceType → OfferRecord → List PropStruct
type_properties types o = if belongs types o then full_properties types o.service_type else []
