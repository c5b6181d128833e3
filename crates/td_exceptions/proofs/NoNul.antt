-- No repository id has a NUL.
use Rattle.std.proofs.Common.{refl}
use Rattle.td_cdr.specs.Text.{HasNoNul}
use Rattle.td_exceptions.specs.Exceptions.{user_id}
use Rattle.td_exceptions.specs.declared.exception.UserException.{UserException}
use Rattle.td_exceptions.specs.declared.exception.UserException.TheVariants as user

pub user_id-clean : (e : UserException) → HasNoNul (user_id e)
user_id-clean user.NotImplemented = refl
user_id-clean (user.IllegalServiceType _) = refl
user_id-clean (user.UnknownServiceType _) = refl
user_id-clean (user.IllegalPropertyName _) = refl
user_id-clean (user.DuplicatePropertyName _) = refl
user_id-clean (user.PropertyTypeMismatch _ _) = refl
user_id-clean (user.MissingMandatoryProperty _ _) = refl
user_id-clean (user.ReadonlyDynamicProperty _ _) = refl
user_id-clean (user.IllegalConstraint _) = refl
user_id-clean (user.InvalidLookupRef _) = refl
user_id-clean (user.IllegalOfferId _) = refl
user_id-clean (user.UnknownOfferId _) = refl
user_id-clean (user.DuplicatePolicyName _) = refl
user_id-clean (user.IllegalPreference _) = refl
user_id-clean (user.IllegalPolicyName _) = refl
user_id-clean (user.PolicyTypeMismatch _) = refl
user_id-clean (user.InvalidPolicyValue _) = refl
user_id-clean (user.InvalidObjectRef _) = refl
user_id-clean (user.UnknownPropertyName _) = refl
user_id-clean (user.InterfaceTypeMismatch _ _) = refl
user_id-clean (user.ProxyOfferId _) = refl
user_id-clean (user.MandatoryProperty _ _) = refl
user_id-clean (user.ReadonlyProperty _ _) = refl
user_id-clean (user.NoMatchingOffers _) = refl
user_id-clean (user.IllegalTraderName _) = refl
user_id-clean (user.UnknownTraderName _) = refl
user_id-clean (user.IllegalLinkName _) = refl
user_id-clean (user.UnknownLinkName _) = refl
user_id-clean (user.DuplicateLinkName _) = refl
user_id-clean (user.DefaultFollowTooPermissive _ _) = refl
user_id-clean (user.LimitingFollowTooPermissive _ _) = refl
user_id-clean (user.IllegalRecipe _) = refl
user_id-clean (user.NotProxyOfferId _) = refl
user_id-clean (user.DPEvalFailure _ _ _) = refl
user_id-clean (user.ServiceTypeExists _) = refl
user_id-clean (user.ReposInterfaceTypeMismatch _ _ _ _) = refl
user_id-clean (user.HasSubTypes _ _) = refl
user_id-clean (user.AlreadyMasked _) = refl
user_id-clean (user.NotMasked _) = refl
user_id-clean (user.ValueTypeRedefinition _ _ _ _) = refl
user_id-clean (user.DuplicateServiceTypeName _) = refl
