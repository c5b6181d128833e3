-- The operations of the interface Proxy (OMG's Trading Object Service), a row each: name, parameters
-- in the order of their declaration, and the shape of the result.
use Rattle.std.specs.Prelude.{List, [], ◌∷◌, codes, Some, None, refl}
use Rattle.td_cdr.specs.Sound.{◌&◌, text, boolean, sequence}
use Rattle.td_typecode.specs.References.{reference}
use Rattle.td_value.specs.Structures.{property, policy}
use Rattle.td_ops.specs.declared.call.Change.TheVariants as change
use Rattle.td_ops.specs.declared.call.Look.TheVariants as look
use Rattle.td_ops.specs.declared.operation.Operation.{Operation}
use Rattle.td_ops.specs.declared.operation.Operation.TheVariants.{Proxy}
use Rattle.td_ops.specs.declared.operation.ProxyOperation.{ProxyOperation}
use Rattle.td_ops.specs.declared.operation.ProxyOperation.TheVariants as proxy
use Rattle.td_ops.specs.declared.shape.Shape.TheVariants as shape
use Rattle.td_ops.specs.Called.{Row, change_arm, look_arm}

abbrev pub proxy_row : ProxyOperation → Row
proxy_row proxy.ExportProxy = record {
  name = codes "export_proxy";
  body =
      change_arm (Proxy proxy.ExportProxy)
      (λ p. change.ExportProxy p.0 p.1.0 p.1.1.0 p.1.1.1.0 p.1.1.1.1.0 p.1.1.1.1.1)
      (elim [ change.ExportProxy x y z u v w ↦ Some (x, (y, (z, (u, (v, w))))) | _ ↦ None ])
      (λ _. refl) (λ _. refl) (reference & text & sequence property & boolean & text & sequence
      policy);
  result = shape.Id;
}
proxy_row proxy.WithdrawProxy = record {
  name = codes "withdraw_proxy";
  body =
      change_arm (Proxy proxy.WithdrawProxy) (λ p. change.WithdrawProxy p)
      (elim [ change.WithdrawProxy x ↦ Some x | _ ↦ None ]) (λ _. refl) (λ _. refl) (text);
  result = shape.Nothing;
}
proxy_row proxy.DescribeProxy = record {
  name = codes "describe_proxy";
  body =
      look_arm (Proxy proxy.DescribeProxy) (λ p. look.DescribeProxy p)
      (elim [ look.DescribeProxy x ↦ Some x | _ ↦ None ]) (λ _. refl) (λ _. refl) (text);
  result = shape.Proxy;
}

abbrev pub proxy_operations : List Operation
proxy_operations = Proxy proxy.ExportProxy ∷ Proxy proxy.WithdrawProxy ∷ Proxy proxy.DescribeProxy
    ∷ []
