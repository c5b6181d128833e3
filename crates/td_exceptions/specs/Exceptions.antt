-- User exceptions: each has a scope, a name and members in the order of their declaration (OMG's Trading Object
-- Service, modules CosTrading, CosTradingDynamic and CosTradingRepos; CORBA, chapter on General Inter-ORB Protocol,
-- "Reply Body").
use Rattle.std.specs.Prelude.{ℕ, List, ◌++◌, codes, Some, None, refl}
use Rattle.td_cdr.specs.Format.{Piece, ◌then◌}
use Rattle.td_cdr.specs.Sound.{Sound, ◌&◌, variant, constant, text, sequence}
use Rattle.td_cdr.specs.declared.value_fault.ValueFault.{ValueFault}
use Rattle.td_typecode.specs.Outermost.{type_code}
use Rattle.td_typecode.specs.References.{reference}
use Rattle.td_value.specs.Values.{any_value}
use Rattle.td_value.specs.Enumerations.{follow_option}
use Rattle.td_value.specs.Structures.{property, policy, prop_struct}
use Rattle.td_exceptions.specs.declared.exception.UserException.{UserException}
use Rattle.td_exceptions.specs.declared.exception.UserException.TheVariants as user

pub record Row : Type 1 where
  pub scope : List ℕ
  pub name : List ℕ
  pub members : Sound ValueFault UserException

-- ---- the scopes: a module, or a module and an interface in it

abbrev pub trading : List ℕ
trading = codes "CosTrading"

abbrev pub lookup : List ℕ
lookup = codes "CosTrading/Lookup"

abbrev pub register : List ℕ
register = codes "CosTrading/Register"

abbrev pub link : List ℕ
link = codes "CosTrading/Link"

abbrev pub proxy : List ℕ
proxy = codes "CosTrading/Proxy"

abbrev pub dynamic : List ℕ
dynamic = codes "CosTradingDynamic"

abbrev pub repository : List ℕ
repository = codes "CosTradingRepos/ServiceTypeRepository"

-- ---- the table

abbrev pub row_of : UserException → Row
row_of user.NotImplemented = record {
  scope = trading;
  name = codes "NotImplemented";
  members = constant user.NotImplemented;
}
row_of (user.IllegalServiceType _) = record {
  scope = trading;
  name = codes "IllegalServiceType";
  members =
      variant (λ p. user.IllegalServiceType p)
      (elim [ user.IllegalServiceType x ↦ Some x | _ ↦ None ]) (λ _. refl) (text);
}
row_of (user.UnknownServiceType _) = record {
  scope = trading;
  name = codes "UnknownServiceType";
  members =
      variant (λ p. user.UnknownServiceType p)
      (elim [ user.UnknownServiceType x ↦ Some x | _ ↦ None ]) (λ _. refl) (text);
}
row_of (user.IllegalPropertyName _) = record {
  scope = trading;
  name = codes "IllegalPropertyName";
  members =
      variant (λ p. user.IllegalPropertyName p)
      (elim [ user.IllegalPropertyName x ↦ Some x | _ ↦ None ]) (λ _. refl) (text);
}
row_of (user.DuplicatePropertyName _) = record {
  scope = trading;
  name = codes "DuplicatePropertyName";
  members =
      variant (λ p. user.DuplicatePropertyName p)
      (elim [ user.DuplicatePropertyName x ↦ Some x | _ ↦ None ]) (λ _. refl) (text);
}
row_of (user.PropertyTypeMismatch _ _) = record {
  scope = trading;
  name = codes "PropertyTypeMismatch";
  members =
      variant (λ p. user.PropertyTypeMismatch p.0 p.1)
      (elim [ user.PropertyTypeMismatch x y ↦ Some (x, y) | _ ↦ None ]) (λ _. refl)
      (text & property);
}
row_of (user.MissingMandatoryProperty _ _) = record {
  scope = trading;
  name = codes "MissingMandatoryProperty";
  members =
      variant (λ p. user.MissingMandatoryProperty p.0 p.1)
      (elim [ user.MissingMandatoryProperty x y ↦ Some (x, y) | _ ↦ None ]) (λ _. refl)
      (text & text);
}
row_of (user.ReadonlyDynamicProperty _ _) = record {
  scope = trading;
  name = codes "ReadonlyDynamicProperty";
  members =
      variant (λ p. user.ReadonlyDynamicProperty p.0 p.1)
      (elim [ user.ReadonlyDynamicProperty x y ↦ Some (x, y) | _ ↦ None ]) (λ _. refl)
      (text & text);
}
row_of (user.IllegalConstraint _) = record {
  scope = trading;
  name = codes "IllegalConstraint";
  members =
      variant (λ p. user.IllegalConstraint p)
      (elim [ user.IllegalConstraint x ↦ Some x | _ ↦ None ]) (λ _. refl) (text);
}
row_of (user.InvalidLookupRef _) = record {
  scope = trading;
  name = codes "InvalidLookupRef";
  members =
      variant (λ p. user.InvalidLookupRef p) (elim [ user.InvalidLookupRef x ↦ Some x | _ ↦ None ])
      (λ _. refl) (reference);
}
row_of (user.IllegalOfferId _) = record {
  scope = trading;
  name = codes "IllegalOfferId";
  members =
      variant (λ p. user.IllegalOfferId p) (elim [ user.IllegalOfferId x ↦ Some x | _ ↦ None ])
      (λ _. refl) (text);
}
row_of (user.UnknownOfferId _) = record {
  scope = trading;
  name = codes "UnknownOfferId";
  members =
      variant (λ p. user.UnknownOfferId p) (elim [ user.UnknownOfferId x ↦ Some x | _ ↦ None ])
      (λ _. refl) (text);
}
row_of (user.DuplicatePolicyName _) = record {
  scope = trading;
  name = codes "DuplicatePolicyName";
  members =
      variant (λ p. user.DuplicatePolicyName p)
      (elim [ user.DuplicatePolicyName x ↦ Some x | _ ↦ None ]) (λ _. refl) (text);
}
row_of (user.IllegalPreference _) = record {
  scope = lookup;
  name = codes "IllegalPreference";
  members =
      variant (λ p. user.IllegalPreference p)
      (elim [ user.IllegalPreference x ↦ Some x | _ ↦ None ]) (λ _. refl) (text);
}
row_of (user.IllegalPolicyName _) = record {
  scope = lookup;
  name = codes "IllegalPolicyName";
  members =
      variant (λ p. user.IllegalPolicyName p)
      (elim [ user.IllegalPolicyName x ↦ Some x | _ ↦ None ]) (λ _. refl) (text);
}
row_of (user.PolicyTypeMismatch _) = record {
  scope = lookup;
  name = codes "PolicyTypeMismatch";
  members =
      variant (λ p. user.PolicyTypeMismatch p)
      (elim [ user.PolicyTypeMismatch x ↦ Some x | _ ↦ None ]) (λ _. refl) (policy);
}
row_of (user.InvalidPolicyValue _) = record {
  scope = lookup;
  name = codes "InvalidPolicyValue";
  members =
      variant (λ p. user.InvalidPolicyValue p)
      (elim [ user.InvalidPolicyValue x ↦ Some x | _ ↦ None ]) (λ _. refl) (policy);
}
row_of (user.InvalidObjectRef _) = record {
  scope = register;
  name = codes "InvalidObjectRef";
  members =
      variant (λ p. user.InvalidObjectRef p) (elim [ user.InvalidObjectRef x ↦ Some x | _ ↦ None ])
      (λ _. refl) (reference);
}
row_of (user.UnknownPropertyName _) = record {
  scope = register;
  name = codes "UnknownPropertyName";
  members =
      variant (λ p. user.UnknownPropertyName p)
      (elim [ user.UnknownPropertyName x ↦ Some x | _ ↦ None ]) (λ _. refl) (text);
}
row_of (user.InterfaceTypeMismatch _ _) = record {
  scope = register;
  name = codes "InterfaceTypeMismatch";
  members =
      variant (λ p. user.InterfaceTypeMismatch p.0 p.1)
      (elim [ user.InterfaceTypeMismatch x y ↦ Some (x, y) | _ ↦ None ]) (λ _. refl)
      (text & reference);
}
row_of (user.ProxyOfferId _) = record {
  scope = register;
  name = codes "ProxyOfferId";
  members = variant (λ p. user.ProxyOfferId p) (elim [ user.ProxyOfferId x ↦ Some x | _ ↦ None ])
      (λ _. refl) (text);
}
row_of (user.MandatoryProperty _ _) = record {
  scope = register;
  name = codes "MandatoryProperty";
  members =
      variant (λ p. user.MandatoryProperty p.0 p.1)
      (elim [ user.MandatoryProperty x y ↦ Some (x, y) | _ ↦ None ]) (λ _. refl) (text & text);
}
row_of (user.ReadonlyProperty _ _) = record {
  scope = register;
  name = codes "ReadonlyProperty";
  members =
      variant (λ p. user.ReadonlyProperty p.0 p.1)
      (elim [ user.ReadonlyProperty x y ↦ Some (x, y) | _ ↦ None ]) (λ _. refl) (text & text);
}
row_of (user.NoMatchingOffers _) = record {
  scope = register;
  name = codes "NoMatchingOffers";
  members =
      variant (λ p. user.NoMatchingOffers p) (elim [ user.NoMatchingOffers x ↦ Some x | _ ↦ None ])
      (λ _. refl) (text);
}
row_of (user.IllegalTraderName _) = record {
  scope = register;
  name = codes "IllegalTraderName";
  members =
      variant (λ p. user.IllegalTraderName p)
      (elim [ user.IllegalTraderName x ↦ Some x | _ ↦ None ]) (λ _. refl) (sequence text);
}
row_of (user.UnknownTraderName _) = record {
  scope = register;
  name = codes "UnknownTraderName";
  members =
      variant (λ p. user.UnknownTraderName p)
      (elim [ user.UnknownTraderName x ↦ Some x | _ ↦ None ]) (λ _. refl) (sequence text);
}
row_of (user.IllegalLinkName _) = record {
  scope = link;
  name = codes "IllegalLinkName";
  members =
      variant (λ p. user.IllegalLinkName p) (elim [ user.IllegalLinkName x ↦ Some x | _ ↦ None ])
      (λ _. refl) (text);
}
row_of (user.UnknownLinkName _) = record {
  scope = link;
  name = codes "UnknownLinkName";
  members =
      variant (λ p. user.UnknownLinkName p) (elim [ user.UnknownLinkName x ↦ Some x | _ ↦ None ])
      (λ _. refl) (text);
}
row_of (user.DuplicateLinkName _) = record {
  scope = link;
  name = codes "DuplicateLinkName";
  members =
      variant (λ p. user.DuplicateLinkName p)
      (elim [ user.DuplicateLinkName x ↦ Some x | _ ↦ None ]) (λ _. refl) (text);
}
row_of (user.DefaultFollowTooPermissive _ _) = record {
  scope = link;
  name = codes "DefaultFollowTooPermissive";
  members =
      variant (λ p. user.DefaultFollowTooPermissive p.0 p.1)
      (elim [ user.DefaultFollowTooPermissive x y ↦ Some (x, y) | _ ↦ None ]) (λ _. refl)
      (follow_option & follow_option);
}
row_of (user.LimitingFollowTooPermissive _ _) = record {
  scope = link;
  name = codes "LimitingFollowTooPermissive";
  members =
      variant (λ p. user.LimitingFollowTooPermissive p.0 p.1)
      (elim [ user.LimitingFollowTooPermissive x y ↦ Some (x, y) | _ ↦ None ]) (λ _. refl)
      (follow_option & follow_option);
}
row_of (user.IllegalRecipe _) = record {
  scope = proxy;
  name = codes "IllegalRecipe";
  members = variant (λ p. user.IllegalRecipe p) (elim [ user.IllegalRecipe x ↦ Some x | _ ↦ None ])
      (λ _. refl) (text);
}
row_of (user.NotProxyOfferId _) = record {
  scope = proxy;
  name = codes "NotProxyOfferId";
  members =
      variant (λ p. user.NotProxyOfferId p) (elim [ user.NotProxyOfferId x ↦ Some x | _ ↦ None ])
      (λ _. refl) (text);
}
row_of (user.DPEvalFailure _ _ _) = record {
  scope = dynamic;
  name = codes "DPEvalFailure";
  members =
      variant (λ p. user.DPEvalFailure p.0 p.1.0 p.1.1)
      (elim [ user.DPEvalFailure x y z ↦ Some (x, (y, z)) | _ ↦ None ]) (λ _. refl)
      (text & type_code & any_value);
}
row_of (user.ServiceTypeExists _) = record {
  scope = repository;
  name = codes "ServiceTypeExists";
  members =
      variant (λ p. user.ServiceTypeExists p)
      (elim [ user.ServiceTypeExists x ↦ Some x | _ ↦ None ]) (λ _. refl) (text);
}
row_of (user.ReposInterfaceTypeMismatch _ _ _ _) = record {
  scope = repository;
  name = codes "InterfaceTypeMismatch";
  members =
      variant (λ p. user.ReposInterfaceTypeMismatch p.0 p.1.0 p.1.1.0 p.1.1.1)
      (elim [ user.ReposInterfaceTypeMismatch x y z u ↦ Some (x, (y, (z, u))) | _ ↦ None ])
      (λ _. refl) (text & text & text & text);
}
row_of (user.HasSubTypes _ _) = record {
  scope = repository;
  name = codes "HasSubTypes";
  members =
      variant (λ p. user.HasSubTypes p.0 p.1)
      (elim [ user.HasSubTypes x y ↦ Some (x, y) | _ ↦ None ]) (λ _. refl) (text & text);
}
row_of (user.AlreadyMasked _) = record {
  scope = repository;
  name = codes "AlreadyMasked";
  members = variant (λ p. user.AlreadyMasked p) (elim [ user.AlreadyMasked x ↦ Some x | _ ↦ None ])
      (λ _. refl) (text);
}
row_of (user.NotMasked _) = record {
  scope = repository;
  name = codes "NotMasked";
  members = variant (λ p. user.NotMasked p) (elim [ user.NotMasked x ↦ Some x | _ ↦ None ])
      (λ _. refl) (text);
}
row_of (user.ValueTypeRedefinition _ _ _ _) = record {
  scope = repository;
  name = codes "ValueTypeRedefinition";
  members =
      variant (λ p. user.ValueTypeRedefinition p.0 p.1.0 p.1.1.0 p.1.1.1)
      (elim [ user.ValueTypeRedefinition x y z u ↦ Some (x, (y, (z, u))) | _ ↦ None ]) (λ _. refl)
      (text & prop_struct & text & prop_struct);
}
row_of (user.DuplicateServiceTypeName _) = record {
  scope = repository;
  name = codes "DuplicateServiceTypeName";
  members =
      variant (λ p. user.DuplicateServiceTypeName p)
      (elim [ user.DuplicateServiceTypeName x ↦ Some x | _ ↦ None ]) (λ _. refl) (text);
}

-- ---- what follows of it

-- the repository id
abbrev pub id_of : Row → List ℕ
id_of row = codes "IDL:omg.org/" ++ row.scope ++ codes "/" ++ row.name ++ codes ":1.0"

abbrev pub user_id : UserException → List ℕ
user_id exception = id_of (row_of exception)

-- what is written: the repository id and the members
abbrev pub exception_piece : UserException → Piece
exception_piece exception =
    text.format.writes (user_id exception) then (row_of exception).members.format.writes exception
