-- Each operation's parameters make calls of that operation.
use Rattle.std.proofs.Common.{◌≡◌, ℕ, List, refl, sym, ◌∙◌}
use Rattle.td_cdr.specs.declared.order.Order.{Order}
use Rattle.td_ops.specs.declared.call.Call.{Call}
use Rattle.td_ops.specs.declared.operation.Operation.{Operation}
use Rattle.td_ops.specs.declared.operation.Operation.TheVariants.{Query, Register, Link, Proxy, Admin, Iterator, Types}
use Rattle.td_ops.specs.declared.operation.Operation.TheVariants.{Get, SetTruth, SetNumber, SetFollow, SetRequestIdStem}
use Rattle.td_ops.specs.declared.operation.Operation.TheVariants.{IsA, NonExistent}
use Rattle.td_ops.specs.declared.operation.RegisterOperation.TheVariants as register
use Rattle.td_ops.specs.declared.operation.LinkOperation.TheVariants as link
use Rattle.td_ops.specs.declared.operation.ProxyOperation.TheVariants as proxy
use Rattle.td_ops.specs.declared.operation.AdminOperation.TheVariants as admin
use Rattle.td_ops.specs.declared.operation.IteratorOperation.TheVariants as iterator
use Rattle.td_ops.specs.declared.operation.TypesOperation.TheVariants as types
use Rattle.td_ops.specs.Called.{operation_in}
use Rattle.td_ops.specs.Operations.{row}
use Rattle.td_ops.specs.Calls.{body_of}

-- one operation of each object is written out: the others are the cases that are left
row-tag : (o : Operation) → (row o).body.tag ≡ o
row-tag Query = refl
row-tag (Register register.Export) = refl
row-tag (Register _) = refl
row-tag (Link link.AddLink) = refl
row-tag (Link _) = refl
row-tag (Proxy proxy.ExportProxy) = refl
row-tag (Proxy _) = refl
row-tag (Admin admin.ListOffers) = refl
row-tag (Admin _) = refl
row-tag (Iterator iterator.MaxLeft) = refl
row-tag (Iterator _) = refl
row-tag (Types types.AddType) = refl
row-tag (Types _) = refl
row-tag (Get a) = refl
row-tag (SetTruth a) = refl
row-tag (SetNumber a) = refl
row-tag (SetFollow a) = refl
row-tag SetRequestIdStem = refl
row-tag IsA = refl
row-tag NonExistent = refl

pub called : (o : Operation) (order : Order) (place : ℕ) (c : Call) (b : List ℕ) → (body_of o).spells order place c b
    → operation_in c ≡ o
called o order place c b s = sym ((row o).body.content order place c b s) ∙ row-tag o
