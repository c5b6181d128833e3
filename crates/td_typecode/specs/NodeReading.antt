-- What reading a TypeCode with indirections is made of, as code does it.
use Rattle.std.specs.Prelude.{◌≡◌, ℕ, zero, suc, ◌+◌, ◌-◌, ◌<◌, ◌≤◌, nat_lt, if◌then◌else◌, List, length, Option, Some}
use Rattle.std.specs.Prelude.{None, Result}
use Rattle.std.specs.Prelude.{Ok, Err, refl}
use Rattle.std.proofs.Common.{cond}
use Rattle.td_cdr.specs.Place.{At}
use Rattle.td_cdr.specs.declared.value_fault.ValueFault.{ValueFault}
use Rattle.td_cdr.specs.declared.value_fault.ValueFault.TheVariants as fault
use Rattle.td_cdr.specs.Reading.{encapsulation_at}
use Rattle.td_cdr.specs.Format.{Read, ◌>>=◌, nth, as_fault, Unless}
use Rattle.td_cdr.specs.ValueFaults.{is_memory}
use Rattle.td_cdr.specs.Sound.{Sound as Plain, failure}
use Rattle.td_typecode.specs.declared.code.TypeCode.TheOpen as c
use Rattle.td_typecode.specs.declared.code.Value.{Value}
use Rattle.td_typecode.specs.declared.kinds.CodeKind.{CodeKind}
use Rattle.td_typecode.specs.declared.kinds.CodeKind.TheVariants as kind
use Rattle.td_typecode.specs.declared.mode.Mode.{Mode}
use Rattle.td_typecode.specs.declared.node_layer.Discriminator.{Discriminator}
use Rattle.td_typecode.specs.declared.node_layer.Discriminator.TheVariants as discriminator
use Rattle.td_indirection.specs.States.{with_blank, with_node, inside_state, nodes}
use Rattle.td_indirection.specs.Stateful.{Sound}
use Rattle.td_indirection.specs.Pairs.{lift}
use Rattle.td_indirection.specs.Variants.{variant}
use Rattle.td_typecode.specs.Labels.{no_value, no_label, one_of, short_value, long_value, ushort_value, ulong_value}
use Rattle.td_typecode.specs.Labels.{longlong_value}
use Rattle.td_typecode.specs.Labels.{ulonglong_value, boolean_value, char_value}
use Rattle.td_typecode.specs.Codes.{header}
use Rattle.td_typecode.specs.Known.{Numbers, KnownNode, KnownState, node_with_layer, unread_node, layer_of, kind_known}
use Rattle.td_typecode.specs.Known.{item_of, is_alias}
use Rattle.td_typecode.specs.Known.{bare_number, may_lead, leaves_chain}
use Rattle.td_typecode.specs.GraphCodes.{most_nodes, labels_of, node_labels, object_in, names_in, enum_parameters}
use Rattle.td_typecode.specs.GraphCodes.{struct_layer, not_there}
use Rattle.td_typecode.specs.GraphCodes.{except_layer, union_layer, sequence_layer, array_layer, alias_layer}
use Rattle.td_typecode.specs.GraphCodes.{parameters}
use Rattle.td_typecode.specs.NodeLayers.{GraphAt}

-- a node of a kind begins; place: where its kind stands in the message
abbrev pub BeginsNode : CodeKind → ℕ → GraphAt → GraphAt → Result ℕ ValueFault → Type 0
BeginsNode k place old new (Ok n) =
    (length old.state.table < most_nodes) × (n ≡ length old.state.table)
    × (new ≡ record {
      at = old.at;
      state = with_blank (unread_node k) (old.state.base + (place - old.at.origin)) old.state;
    })
BeginsNode k place old new (Err e) =
    Unless (is_memory e) ((most_nodes ≤ length old.state.table) × (e ≡ fault.Depth place))

-- the inside of an encapsulation; the reader outside is then behind it
abbrev pub EntersEncapsulation : GraphAt → GraphAt → Result GraphAt ValueFault → Type 0
EntersEncapsulation old new (Ok inner) =
    (encapsulation_at old.at ≡ Ok (inner.at, new.at))
    × (inner.state ≡ inside_state old.state (old.at.place - old.at.origin))
    × (new.state.base ≡ old.state.base)
EntersEncapsulation old new (Err e) = as_fault fault.Cdr (encapsulation_at old.at) ≡ Err e

-- ---- which indirections may stand

-- the item of a node that is an alias
abbrev pub alias_at : List KnownNode → ℕ → Option ℕ
alias_at ns j =
    if is_alias (kind_known (nth ns j)) then Some (item_of (layer_of (nth ns j)) j) else None

-- the node without aliases, where an indirection may not lead to this node
abbrev pub refused_target : Mode → List KnownNode → ℕ → Option ℕ
refused_target mode ns j = if may_lead mode ns j then None else Some (bare_number (length ns) ns j)

-- the node, or the fault of an indirection that may not lead to it
abbrev pub allowed_node : Mode → Option ℕ → KnownState → At → ℕ → Result ℕ ValueFault
allowed_node mode chain s a j =
    if leaves_chain chain (nodes s) j then (
    if may_lead mode (nodes s) j then Ok j
    else Err (not_there s (bare_number (length (nodes s)) (nodes s) j) a)
    )
    else Err (not_there s j a)

-- ---- what discriminates a union

-- of a layer that is no alias
abbrev pub discriminator_of : Numbers → Discriminator
discriminator_of c.TypeCode::Short = discriminator.Plain kind.Short
discriminator_of c.TypeCode::Long = discriminator.Plain kind.Long
discriminator_of c.TypeCode::UShort = discriminator.Plain kind.UShort
discriminator_of c.TypeCode::ULong = discriminator.Plain kind.ULong
discriminator_of c.TypeCode::LongLong = discriminator.Plain kind.LongLong
discriminator_of c.TypeCode::ULongLong = discriminator.Plain kind.ULongLong
discriminator_of c.TypeCode::Boolean = discriminator.Plain kind.Boolean
discriminator_of c.TypeCode::Char = discriminator.Plain kind.Char
discriminator_of (c.TypeCode::Enum id name names) = discriminator.Names (length names)
discriminator_of l = discriminator.Other

-- of a layer that was read, if it was
abbrev pub discriminator_read : Option Numbers → Discriminator
discriminator_read None = discriminator.Other
discriminator_read (Some l) = discriminator_of l

-- of a node that is no alias
abbrev pub bare_discriminator : List KnownNode → ℕ → Discriminator
bare_discriminator ns j = discriminator_read (layer_of (nth ns j))

-- the item of an alias that was read whole
abbrev pub item_read : Option Numbers → Option ℕ
item_read (Some (c.Alias id name item)) = Some item
item_read l = None

abbrev pub read_alias : List KnownNode → ℕ → Option ℕ
read_alias ns j = item_read (layer_of (nth ns j))

abbrev pub discriminator_under : (ℕ → Discriminator) → Option Numbers → Discriminator
discriminator_under inner None = discriminator.Other
discriminator_under inner (Some (c.Alias id name item)) = inner item
discriminator_under inner (Some l) = discriminator_of l

-- of a node that is reached over so many aliases at most
abbrev pub discriminator_in : ℕ → List KnownNode → ℕ → Discriminator
discriminator_in zero ns j = discriminator.Other
discriminator_in (suc n) ns j = discriminator_under (discriminator_in n ns) (layer_of (nth ns j))

abbrev pub kind_label : CodeKind → Plain ValueFault Value
kind_label kind.Short = short_value
kind_label kind.Long = long_value
kind_label kind.UShort = ushort_value
kind_label kind.ULong = ulong_value
kind_label kind.LongLong = longlong_value
kind_label kind.ULongLong = ulonglong_value
kind_label kind.Boolean = boolean_value
kind_label kind.Char = char_value
kind_label k = no_label

abbrev pub discriminator_label : Discriminator → Plain ValueFault Value
discriminator_label (discriminator.Plain k) = kind_label k
discriminator_label (discriminator.Names n) = one_of n
discriminator_label discriminator.Other = no_label

label-layer : (inner : ℕ → Plain ValueFault Value) (under : ℕ → Discriminator)
    → ((j : ℕ) → inner j ≡ discriminator_label (under j)) → (o : Option Numbers)
    → labels_of inner o ≡ discriminator_label (discriminator_under under o)
label-layer inner under h None = refl
label-layer inner under h (Some (c.Alias id name item)) = h item
label-layer inner under h (Some c.TypeCode::Short) = refl
label-layer inner under h (Some c.TypeCode::Long) = refl
label-layer inner under h (Some c.TypeCode::UShort) = refl
label-layer inner under h (Some c.TypeCode::ULong) = refl
label-layer inner under h (Some c.TypeCode::LongLong) = refl
label-layer inner under h (Some c.TypeCode::ULongLong) = refl
label-layer inner under h (Some c.TypeCode::Boolean) = refl
label-layer inner under h (Some c.TypeCode::Char) = refl
label-layer inner under h (Some (c.TypeCode::Enum id name names)) = refl
label-layer inner under h (Some l) = refl

pub labels-are : (n : ℕ) (ns : List KnownNode) (j : ℕ)
    → node_labels n ns j ≡ discriminator_label (discriminator_in n ns j)
labels-are zero ns j = refl
labels-are (suc n) ns j =
    label-layer (node_labels n ns) (discriminator_in n ns) (labels-are n ns) (layer_of (nth ns j))

-- ---- what stands in the encapsulation behind a kind

-- nothing where the kind has none; own: the number of the node
module _ (inner : Mode → Option ℕ → Sound ValueFault KnownNode ℕ) (mode : Mode) (chain : Option ℕ)
    (own : ℕ) where
  abbrev pub enclosed_layer : CodeKind → Sound ValueFault KnownNode Numbers
  enclosed_layer kind.ObjRef = variant (λ p. c.TypeCode::ObjRef p.0 p.1) object_in (λ _. refl)
      (lift header)
  enclosed_layer kind.Enum =
      variant (λ p. c.TypeCode::Enum p.0.0 p.0.1 p.1) names_in (λ _. refl) (lift enum_parameters)
  enclosed_layer kind.Struct = struct_layer inner
  enclosed_layer kind.Except = except_layer inner
  enclosed_layer kind.Union = union_layer inner
  enclosed_layer kind.Sequence = sequence_layer inner
  enclosed_layer kind.Array = array_layer inner
  enclosed_layer kind.Alias = alias_layer inner mode chain own
  enclosed_layer k = lift (failure no_value)

-- a node of a kind that stands at a place of the message
abbrev pub node_from : (Mode → Option ℕ → Sound ValueFault KnownNode ℕ) → Mode → Option ℕ → CodeKind
    → ℕ
    → KnownState → At → Read ValueFault (ℕ × KnownState)
node_from inner mode chain k place s a =
    cond (nat_lt (length s.table) most_nodes)
    ((parameters inner mode chain k).format.reads
    (with_blank (unread_node k) (s.base + (place - a.origin)) s) a >>= λ v.
    Ok ((length s.table, with_node v.0.1 (length s.table) (node_with_layer k v.0.0)), v.1))
    (Err (fault.Depth place))
