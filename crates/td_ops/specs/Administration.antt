-- The operations of the interface Admin (OMG's Trading Object Service), a row each: name, parameters
-- in the order of their declaration, and the shape of the result.
use Rattle.std.specs.Prelude.{List, [], ◌∷◌, codes, Some, None, refl}
use Rattle.td_cdr.specs.Sound.{arm, ulong, failure}
use Rattle.td_cdr.specs.Place.{At}
use Rattle.td_cdr.specs.declared.value_fault.ValueFault.{ValueFault}
use Rattle.td_cdr.specs.declared.value_fault.ValueFault.TheVariants.{Unsupported}
use Rattle.td_ops.specs.declared.call.Look.TheVariants as look
use Rattle.td_ops.specs.declared.operation.Operation.{Operation}
use Rattle.td_ops.specs.declared.operation.Operation.TheVariants.{Admin}
use Rattle.td_ops.specs.declared.operation.AdminOperation.{AdminOperation}
use Rattle.td_ops.specs.declared.operation.AdminOperation.TheVariants as admin
use Rattle.td_ops.specs.declared.shape.Shape.TheVariants as shape
use Rattle.td_ops.specs.Called.{Row, look_arm}

-- the repository of a trader is not changed, whatever the body: what can be read of it stands for NO_IMPLEMENT
abbrev pub not_implemented : At → ValueFault
not_implemented _ = Unsupported 14

abbrev pub admin_row : AdminOperation → Row
admin_row admin.ListOffers = record {
  name = codes "list_offers";
  body =
      look_arm (Admin admin.ListOffers) (λ p. look.ListOffers p)
      (elim [ look.ListOffers x ↦ Some x | _ ↦ None ]) (λ _. refl) (λ _. refl) (ulong);
  result = shape.Ids;
}
admin_row admin.ListProxies = record {
  name = codes "list_proxies";
  body =
      look_arm (Admin admin.ListProxies) (λ p. look.ListProxies p)
      (elim [ look.ListProxies x ↦ Some x | _ ↦ None ]) (λ _. refl) (λ _. refl) (ulong);
  result = shape.Ids;
}
admin_row admin.SetTypeRepos = record {
  name = codes "set_type_repos";
  body =
      arm (Admin admin.SetTypeRepos) (λ x. absurd x) (λ _. None) (λ x. absurd x) (λ x. absurd x)
      (failure not_implemented);
  result = shape.Reference;
}

abbrev pub admin_operations : List Operation
admin_operations = Admin admin.ListOffers ∷ Admin admin.ListProxies ∷ Admin admin.SetTypeRepos ∷ []
