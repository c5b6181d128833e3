-- What code keeps of the nodes of a TypeCode with indirections, as it is known of them.
use Rattle.std.specs.Prelude.{◌≡◌, ℕ, List, map, option_map, Result, Ok, Err}
use Rattle.td_cdr.specs.declared.value_fault.ValueFault.{ValueFault}
use Rattle.td_cdr.specs.Place.{At}
use Rattle.td_cdr.specs.Format.{Read, Unless}
use Rattle.td_cdr.specs.ValueFaults.{is_memory}
use Rattle.td_typecode.specs.declared.code.TypeCode.TheOpen as c
use Rattle.td_typecode.specs.declared.kinds.CodeKind.{CodeKind}
use Rattle.td_typecode.specs.declared.kinds.CodeKind.TheVariants as kind
use Rattle.td_typecode.specs.declared.node_layer.NodeLayer.{NodeLayer}
use Rattle.td_typecode.specs.declared.node_layer.NodeLayer.TheVariants as layer
use Rattle.td_typecode.specs.declared.node_layer.BegunNode.{BegunNode}
use Rattle.td_indirection.specs.States.{slot}
use Rattle.td_typecode.specs.Known.{MemberNode, Numbers, KnownNode, KnownState, KnownSlot}

-- of a kind that has no parameters
abbrev pub leaf_numbers : CodeKind → Numbers
leaf_numbers kind.Void = c.Void
leaf_numbers kind.Short = c.TypeCode::Short
leaf_numbers kind.Long = c.TypeCode::Long
leaf_numbers kind.UShort = c.TypeCode::UShort
leaf_numbers kind.ULong = c.TypeCode::ULong
leaf_numbers kind.Boolean = c.TypeCode::Boolean
leaf_numbers kind.Char = c.TypeCode::Char
leaf_numbers kind.Octet = c.TypeCode::Octet
leaf_numbers kind.AnyCode = c.AnyCode
leaf_numbers kind.Code = c.TypeCode::Code
leaf_numbers kind.LongLong = c.TypeCode::LongLong
leaf_numbers kind.ULongLong = c.TypeCode::ULongLong
leaf_numbers k = c.Null

abbrev pub fields_numbers : CodeKind → List ℕ → List ℕ → List MemberNode → Numbers
fields_numbers kind.Except id name members = c.Except id name members
fields_numbers k id name members = c.TypeCode::Struct id name members

abbrev pub items_numbers : CodeKind → ℕ → ℕ → Numbers
items_numbers kind.Array item size = c.Array item size
items_numbers k item size = c.Sequence item size

-- the layer of a node of a kind
abbrev pub numbers_of : NodeLayer → CodeKind → Numbers
numbers_of layer.Leaf k = leaf_numbers k
numbers_of (layer.Str bound) k = c.TypeCode::Str bound
numbers_of (layer.ObjRef id name) k = c.TypeCode::ObjRef id name
numbers_of (layer.Enum id name labels) k = c.TypeCode::Enum id name labels
numbers_of (layer.Fields id name members) k = fields_numbers k id name members
numbers_of (layer.Union id name switch default arms) k = c.TypeCode::Union id name switch default
    arms
numbers_of (layer.Items item size) k = items_numbers k item size
numbers_of (layer.Alias id name item) k = c.Alias id name item

abbrev pub known_node : BegunNode → KnownNode
known_node b = record { kind = b.kind; layer = option_map (λ l. numbers_of l b.kind) b.layer }

abbrev pub begun_slot : BegunNode → KnownSlot
begun_slot b = slot b.place (known_node b)

-- the nodes of a table that code keeps, and where their kinds stand
abbrev pub known_nodes : List BegunNode → List KnownNode
known_nodes bs = map (λ x. x.node) (map begun_slot bs)

abbrev pub node_places : List BegunNode → List ℕ
node_places bs = map (λ x. x.place) (map begun_slot bs)

-- a reader of a TypeCode with indirections: where it stands, and the nodes so far
pub record GraphAt : Type 0 where
  pub at : At
  pub state : KnownState

-- what a reading of a part gives; where it fails, it isn't said where the reader then stands
abbrev pub GivesOn : {X : Type 0} → GraphAt → Result X ValueFault → Read ValueFault (X × KnownState)
    → Type 0
GivesOn new (Ok x) reading = reading ≡ Ok ((x, new.state), new.at)
GivesOn new (Err e) reading = Unless (is_memory e) (reading ≡ Err e)

-- the same of a value that stands for another
abbrev pub GivesAs : {X Y : Type 0} → (X → Y) → GraphAt → Result X ValueFault
    → Read ValueFault (Y × KnownState) → Type 0
GivesAs f new (Ok x) reading = reading ≡ Ok ((f x, new.state), new.at)
GivesAs f new (Err e) reading = Unless (is_memory e) (reading ≡ Err e)

-- what a reading gives that the nodes so far play no part in
abbrev pub Passes : {X : Type 0} → GraphAt → GraphAt → Result X ValueFault → Read ValueFault X
    → Type 0
Passes old new (Ok x) reading = (reading ≡ Ok (x, new.at)) × (new.state ≡ old.state)
Passes old new (Err e) reading = Unless (is_memory e) (reading ≡ Err e)
