-- What is known of the nodes of a TypeCode that is spelled with indirections (CORBA's chapter on the General Inter-ORB
-- Protocol, "TypeCode"): of each its kind, and behind its parameters one layer of it, with the numbers of nodes in
-- place of the TypeCodes that it holds.
use Rattle.std.specs.Prelude.{ℕ, zero, suc, ◌+◌, ◌-◌, ◌^◌, min, nat_lt, Bool, true, false, if◌then◌else◌, List, length}
use Rattle.std.specs.Prelude.{Option, Some, None}
use Rattle.td_cdr.specs.Place.{At}
use Rattle.td_cdr.specs.Format.{nth}
use Rattle.td_typecode.specs.declared.code.Any.{Any}
use Rattle.td_typecode.specs.declared.code.TypeCode.{TypeCode-F}
use Rattle.td_typecode.specs.declared.code.TypeCode.TheOpen as c
use Rattle.td_typecode.specs.declared.code.Value.{Value}
use Rattle.td_typecode.specs.declared.kinds.CodeKind.{CodeKind}
use Rattle.td_typecode.specs.declared.kinds.CodeKind.TheVariants as kind
use Rattle.td_typecode.specs.declared.mode.Mode.{Mode}
use Rattle.td_typecode.specs.declared.mode.Mode.TheVariants.{Outer, Inner, Switch}
use Rattle.td_typecode.specs.Kinds.{may_switch}
use Rattle.td_indirection.specs.States.{Slot, CodingState}

-- a member of a structure or an exception: its name, and the number of the node that it is
abbrev pub MemberNode : Type 0
MemberNode = List ℕ × ℕ

-- an arm of a union, behind its label
abbrev pub ArmNode : Type 0
ArmNode = Value × MemberNode

abbrev pub Numbers : Type 0
Numbers = TypeCode-F ℕ Value Any ArmNode MemberNode

pub record KnownNode : Type 0 where
  pub kind : CodeKind
  -- None as long as its parameters aren't read whole
  pub layer : Option Numbers

abbrev pub KnownState : Type 0
KnownState = CodingState KnownNode

abbrev pub KnownSlot : Type 0
KnownSlot = Slot KnownNode

abbrev pub node_with_layer : CodeKind → Numbers → KnownNode
node_with_layer k l = record { kind = k; layer = Some l }

-- a node whose parameters aren't read yet
abbrev pub unread_node : CodeKind → KnownNode
unread_node k = record { kind = k; layer = None }

abbrev pub layer_of : Option KnownNode → Option Numbers
layer_of (Some k) = k.layer
layer_of None = None

abbrev pub kind_known : Option KnownNode → CodeKind
kind_known (Some k) = k.kind
kind_known None = kind.Null

-- the item of an alias; of one whose parameters aren't read yet, it is the node that begins next
abbrev pub item_of : Option Numbers → ℕ → ℕ
item_of (Some (c.Alias id name item)) j = item
item_of l j = suc j

abbrev pub is_alias : CodeKind → Bool
is_alias kind.Alias = true
is_alias k = false

-- the node without aliases, which so many steps reach
abbrev pub bare_number : ℕ → List KnownNode → ℕ → ℕ
bare_number zero ns j = j
bare_number (suc n) ns j =
    if is_alias (kind_known (nth ns j)) then bare_number n ns (item_of (layer_of (nth ns j)) j)
    else j

-- a discriminator may be an indirection to a node whose kind, without aliases, may stand there
abbrev pub may_lead : Mode → List KnownNode → ℕ → Bool
may_lead Switch ns j = may_switch (kind_known (nth ns (bare_number (length ns) ns j)))
may_lead Inner ns j = true
may_lead Outer ns j = true

-- aliases lead to no alias of the chain that they stand in, whose first one this is
abbrev pub leaves_chain : Option ℕ → List KnownNode → ℕ → Bool
leaves_chain None ns j = true
leaves_chain (Some first) ns j = nat_lt j first

-- the first alias of the chain that goes on under an alias
abbrev pub chain_under : Option ℕ → ℕ → Option ℕ
chain_under (Some first) own = Some first
chain_under None own = Some own

-- where a place that the state counts stands in the message; one past the last that a u32 can name is that last one
abbrev pub message_place : CodingState KnownNode → At → ℕ → ℕ
message_place s a place = min (place + (a.origin - s.base)) (2 ^ 32 - 1)
