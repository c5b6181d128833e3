-- What a Request asks for by its key and its operation alone, whatever its body (OMG's Trading Object Service,
-- interface Lookup; CORBA, chapter on General Inter-ORB Protocol, "Request Header").
use Rattle.std.specs.Prelude.{◌≡◌, ℕ, Bool, true, false, List, Option, Some, None}
use Rattle.td_iter.specs.Desks.{Live}
use Rattle.td_ops.specs.Operations.{operation_named}
use Rattle.td_ops.specs.declared.call.Call.{Call as Asked}
use Rattle.td_ops.specs.declared.call.Call.TheVariants as call
use Rattle.td_ops.specs.declared.operation.Operation.{Operation}
use Rattle.td_ops.specs.declared.operation.Operation.TheVariants as operation
use Rattle.td_trader.specs.Worlds.{View}
use Rattle.td_servant.specs.Objects.{object_at}
use Rattle.td_servant.specs.declared.class.RequestClass.{RequestClass}
use Rattle.td_servant.specs.declared.class.RequestClass.TheVariants.{Query, Other}
use Rattle.td_servant.specs.declared.judging.Judged.{Judged}
use Rattle.td_servant.specs.declared.judging.Judged.TheVariants.{Call, Refused}
use Rattle.td_servant.specs.declared.objects.Object.{Object}

abbrev pub class_of : Asked → RequestClass
class_of (call.Query q) = Query
class_of other = Other

-- the class of an operation's calls
abbrev pub class_named : Option Operation → RequestClass
class_named (Some operation.Query) = Query
class_named other = Other

abbrev pub class_at : Option Object → (name : List ℕ) → RequestClass
class_at None name = Other
class_at (Some x) name = class_named (operation_named x.kind name)

-- what a Request with this key and operation asks for
abbrev pub request_class : List View → Live → (key operation : List ℕ) → RequestClass
request_class w d key name = class_at (object_at w d key) name

abbrev pub is_query : Judged → Bool
is_query (Call x (call.Query q)) = true
is_query other = false

-- what a Request of a class may spell: no call, or one of the class
abbrev pub IsOfClass : RequestClass → Judged → Type 0
IsOfClass Query (Call x c) = is_query (Call x c) ≡ true
IsOfClass Query (Refused o) = Unit {0}
IsOfClass Other j = is_query j ≡ false
