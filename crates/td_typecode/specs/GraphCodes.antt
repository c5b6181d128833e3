-- The format of TypeCodes with indirections (CORBA's chapter on the General Inter-ORB Protocol, "TypeCode"): as without
-- them, and in the place of a kind that stands in another TypeCode there may be an indirection to a kind that was
-- begun.
use Rattle.std.proofs.Common.{◌≡◌, ℕ, ℤ, zero, suc, ◌+◌, ◌-◌, ◌^◌, ◌==◌, Bool, true, false, cond, List, length}
use Rattle.std.proofs.Common.{Option, Some, None, refl, sym, ap, ◌∙◌, arith, length-append}
use Rattle.std.specs.Prelude.{nat_eq, slice_index, option_map}
use Rattle.std.specs.Int.{w32, cast_unsigned}
use Rattle.std.proofs.lemmas.Bool.{eq-eqb, ne_eqb, eqb-true}
use Rattle.std.proofs.lemmas.List.{length-map}
use Rattle.td_cdr.specs.declared.value_fault.ValueFault.{ValueFault}
use Rattle.td_cdr.specs.declared.value_fault.ValueFault.TheVariants as fault
use Rattle.td_cdr.specs.Place.{At}
use Rattle.td_cdr.specs.Reading.{next_aligned}
use Rattle.td_cdr.specs.Format.{nth, partial_format}
use Rattle.td_cdr.specs.LawfulFormats.{partial_format-lawful}
use Rattle.td_cdr.specs.FormatFaults.{PartialFault}
use Rattle.td_cdr.specs.RefusedFormats.{partial_format-refuses}
use Rattle.td_cdr.specs.Sound.{Sound as Plain, ulong, text, failure, constant, restriction as plain_restriction}
use Rattle.td_cdr.specs.Sound.{pair_on as plain_pair_on}
use Rattle.td_typecode.specs.declared.code.TypeCode.TheOpen as c
use Rattle.td_typecode.specs.declared.code.Value.{Value}
use Rattle.td_typecode.specs.declared.kinds.CodeKind.{CodeKind}
use Rattle.td_typecode.specs.declared.kinds.CodeKind.TheVariants as kind
use Rattle.td_typecode.specs.declared.mode.Mode.{Mode}
use Rattle.td_typecode.specs.declared.mode.Mode.TheVariants.{Inner, Switch}
use Rattle.td_typecode.specs.Formats.{is_nonempty, nonempty_sequence}
use Rattle.td_typecode.specs.Kinds.{number_of, kind_by_number, all_kinds, indirection as indirection_number, may_stand}
use Rattle.td_typecode.specs.Kinds.{under}
use Rattle.td_typecode.specs.Kinds.{number_fault, deep_kind, kind_by_number-number}
use Rattle.td_typecode.specs.Labels.{no_value, no_label, label_layer}
use Rattle.td_typecode.specs.Codes.{header, positive, head}
use Rattle.td_indirection.specs.States.{CodingState, nodes, places, ulong_place}
use Rattle.td_indirection.specs.Stateful.{Sound, TaggedArm}
use Rattle.td_indirection.specs.Tables.{alike-length}
use Rattle.td_indirection.specs.Pairs.{lift, pair_on, ◌&◌}
use Rattle.td_indirection.specs.Encapsulations.{encapsulation}
use Rattle.td_indirection.specs.Variants.{variant, restriction, on_nodes}
use Rattle.td_indirection.specs.Indirections.{indirection, number-below}
use Rattle.td_indirection.specs.NodeStarts.{node, node-known}
use Rattle.td_indirection.specs.Choices.{IsSized, HasTag, arm, choice, array, array-count, sequence_with}
use Rattle.td_indirection.specs.Ulongs.{ulong-sized, ulong-long}
use Rattle.td_typecode.specs.Known.{MemberNode, ArmNode, Numbers, KnownNode, node_with_layer, unread_node, layer_of}
use Rattle.td_typecode.specs.Known.{bare_number, may_lead}
use Rattle.td_typecode.specs.Known.{leaves_chain, chain_under, message_place}

-- ---- what stands in the place of a kind: a kind, or the number that an indirection begins with

abbrev pub place_number : Option CodeKind → ℕ
place_number None = indirection_number
place_number (Some k) = number_of k

abbrev pub place_by_number : ℕ → Option (Option CodeKind)
place_by_number n =
    cond (n == indirection_number) (Some None)
    (option_map (λ k. Some k) (kind_by_number all_kinds n))

pub place-forth : (k : Option CodeKind) → place_by_number (place_number k) ≡ Some k
place-forth None = refl
place-forth (Some kind.Null) = refl
place-forth (Some kind.Void) = refl
place-forth (Some kind.Short) = refl
place-forth (Some kind.Long) = refl
place-forth (Some kind.UShort) = refl
place-forth (Some kind.ULong) = refl
place-forth (Some kind.Boolean) = refl
place-forth (Some kind.Char) = refl
place-forth (Some kind.Octet) = refl
place-forth (Some kind.AnyCode) = refl
place-forth (Some kind.Code) = refl
place-forth (Some kind.ObjRef) = refl
place-forth (Some kind.Struct) = refl
place-forth (Some kind.Union) = refl
place-forth (Some kind.Enum) = refl
place-forth (Some kind.Str) = refl
place-forth (Some kind.Sequence) = refl
place-forth (Some kind.Array) = refl
place-forth (Some kind.Alias) = refl
place-forth (Some kind.Except) = refl
place-forth (Some kind.LongLong) = refl
place-forth (Some kind.ULongLong) = refl

kind-back : (o : Option CodeKind) (k : Option CodeKind) (n : ℕ)
    → ((z : CodeKind) → o ≡ Some z → number_of z ≡ n) → option_map (λ z. Some z) o ≡ Some k
    → place_number k ≡ n
kind-back (Some z) k n is e = let same : Some z ≡ k = cc (e) in ap place_number (sym same)
    ∙ is z refl
kind-back None k n is e = absurd (let none : ⊥ = cc (e) in none)

place-back-at : (n : ℕ) (k : Option CodeKind) (b : Bool) → (n == indirection_number) ≡ b
    → cond b (Some None) (option_map (λ z. Some z) (kind_by_number all_kinds n)) ≡ Some k
    → place_number k ≡ n
place-back-at n k true is e =
    let same : ◌≡◌ {A = Option CodeKind} None k = cc (e) in
    ap place_number (sym same) ∙ sym (eqb-true n indirection_number is)
place-back-at n k false is e =
    kind-back (kind_by_number all_kinds n) k n (λ z h. kind_by_number-number all_kinds n z h) e

pub place-back : (n : ℕ) (k : Option CodeKind) → place_by_number n ≡ Some k → place_number k ≡ n
place-back n k e = place-back-at n k (n == indirection_number) refl e

-- the fault of a number that is neither
abbrev pub other_fault : Mode → ℕ → At → ValueFault
other_fault mode = number_fault (λ place. fault.Indirection place) mode

abbrev pub any_place : Mode → Plain ValueFault (Option CodeKind)
any_place mode = record {
  format = partial_format place_by_number place_number (other_fault mode) ulong.format;
  lawful =
      partial_format-lawful place_by_number place_number (other_fault mode)
      ulong.format place-forth place-back ulong.lawful;
  faults = PartialFault ulong.format.spells place_by_number (other_fault mode) ulong.faults;
  refuses =
      partial_format-refuses place_by_number place_number (other_fault mode)
      ulong.format ulong.faults ulong.lawful ulong.refuses;
}

abbrev pub may_be_there : Mode → Option CodeKind → Bool
may_be_there mode None = true
may_be_there mode (Some k) = may_stand mode k

abbrev pub kind_or_indirection : Mode → Plain ValueFault (Option CodeKind)
kind_or_indirection mode = plain_restriction (may_be_there mode)
    (λ k a. fault.BadValue (next_aligned 4 a)) (any_place mode)

pub kind-sized : (mode : Mode) → IsSized (kind_or_indirection mode)
kind-sized mode k order place = ulong-sized (place_number k) order place

pub deep-sized : (mode : Mode) → IsSized (deep_kind mode)
deep-sized mode k order place = ulong-sized (number_of k) order place

pub positive-sized : IsSized positive
positive-sized n order place = ulong-sized n order place

-- ---- a union's labels, by the node that its discriminator is

abbrev pub labels_of : (ℕ → Plain ValueFault Value) → Option Numbers → Plain ValueFault Value
labels_of inner (Some l) = label_layer inner l
labels_of inner None = no_label

-- of a node that is reached over so many aliases at most
abbrev pub node_labels : ℕ → List KnownNode → ℕ → Plain ValueFault Value
node_labels zero ns j = no_label
node_labels (suc n) ns j = labels_of (node_labels n ns) (layer_of (nth ns j))

-- ---- what stands behind a kind

abbrev pub fields_in : Numbers → Option ((List ℕ × List ℕ) × List MemberNode)
fields_in (c.TypeCode::Struct id name members) = Some ((id, name), members)
fields_in (c.Except id name members) = Some ((id, name), members)
fields_in l = None

abbrev pub object_in : Numbers → Option (List ℕ × List ℕ)
object_in (c.TypeCode::ObjRef id name) = Some (id, name)
object_in l = None

abbrev pub names_in : Numbers → Option ((List ℕ × List ℕ) × List (List ℕ))
names_in (c.TypeCode::Enum id name names) = Some ((id, name), names)
names_in l = None

abbrev pub bound_in : Numbers → Option ℕ
bound_in (c.TypeCode::Str bound) = Some bound
bound_in l = None

abbrev pub item_in : Numbers → Option (ℕ × ℕ)
item_in (c.Sequence item bound) = Some (item, bound)
item_in (c.Array item len) = Some (item, len)
item_in l = None

abbrev pub alias_in : Numbers → Option ((List ℕ × List ℕ) × ℕ)
alias_in (c.Alias id name item) = Some ((id, name), item)
alias_in l = None

abbrev pub union_in : Numbers → Option (((List ℕ × List ℕ) × ℕ) × (ℤ × List ArmNode))
union_in (c.TypeCode::Union id name switch default arms) = Some
    (((id, name), switch), (default, arms))
union_in l = None

pub head-sized : IsSized head
head-sized h order place =
    let one = ulong-sized (cast_unsigned w32 h.0) order place in
    let front = ulong.format.writes (cast_unsigned w32 h.0) order place in
    omega (arith, one, length-append front (ulong.format.writes h.1 order (place + length front)))

-- an enumeration's id, name and names
abbrev pub enum_parameters : Plain ValueFault ((List ℕ × List ℕ) × List (List ℕ))
enum_parameters = plain_pair_on header (λ _. nonempty_sequence text)

abbrev pub head_of : ℤ × List ArmNode → ℤ × ℕ
head_of p = (p.0, length p.1)

-- no items at all may not stand there
abbrev pub nonempty : {X : Type 0} → Sound ValueFault KnownNode (List X)
    → Sound ValueFault KnownNode (List X)
nonempty t = restriction (λ ns xs. is_nonempty xs) (λ s xs a. fault.BadValue (next_aligned 4 a)) t

-- ---- faults

abbrev pub most_nodes : ℕ
most_nodes = 4096

-- the fault of one node more, by where its kind stands
abbrev pub too_many_nodes : At → ValueFault
too_many_nodes a = fault.Depth (next_aligned 4 a)

-- the fault of a long that leads to no kind; where the indirection begins
abbrev pub no_node : At → ValueFault
no_node a = fault.Indirection (next_aligned 4 a - 4)

-- the fault of a node that may not stand there: where its kind stands
abbrev pub not_there : CodingState KnownNode → ℕ → At → ValueFault
not_there s j a = fault.BadValue (message_place s a (slice_index (places s) j))

-- a node that has the next number is spelled, by its kind; any other is an indirection
abbrev pub kind_of_node : List KnownNode → CodingState KnownNode → ℕ → Option CodeKind
kind_of_node graph s j = cond (nat_eq j (length s.table)) (option_map (λ n. n.kind) (nth graph j))
    None

-- an indirection that may stand there
abbrev pub led_to : Mode → Option ℕ → Sound ValueFault KnownNode ℕ
led_to mode chain =
    restriction (may_lead mode) (λ s j. not_there s (bare_number (length (nodes s)) (nodes s) j))
    (restriction (leaves_chain chain) not_there (indirection no_node ulong ulong-long))

-- inner: an edge in a mode, under the first alias of a chain
module _ (inner : Mode → Option ℕ → Sound ValueFault KnownNode ℕ) where
  abbrev pub member_node : Sound ValueFault KnownNode MemberNode
  member_node = lift text & inner Inner None

  abbrev pub arm_node : Plain ValueFault Value → Sound ValueFault KnownNode ArmNode
  arm_node label = lift label & member_node

  -- as many arms as the head says
  abbrev pub arms_after : Plain ValueFault Value → ℤ × ℕ → Sound ValueFault KnownNode
      (ℤ × List ArmNode)
  arms_after label h = variant (λ arms. (h.0, arms)) (λ p. Some p.1) (λ _. refl)
      (array (arm_node label) h.1)

  pub arms-content : (label : Plain ValueFault Value)
      → HasTag (λ h. arm (arms_after label h)) (λ graph s p. head_of p)
  arms-content label h graph m s u order place p next b sp agrees alike =
      ap (λ (n : ℕ). (h.0, n)) (array-count (arm_node label) h.1 s order place sp.0 next b sp.2)
      ∙ ap head_of sp.1

  abbrev pub counted_arms : Plain ValueFault Value → Sound ValueFault KnownNode (ℤ × List ArmNode)
  counted_arms label =
      choice head head-sized (λ h. arm (arms_after label h)) (λ graph s p. head_of p)
      (arms-content label)

  abbrev pub union_parameters : Sound ValueFault KnownNode (((List ℕ × List ℕ) × ℕ)
      × (ℤ × List ArmNode))
  union_parameters =
      pair_on (lift header & inner Switch None)
      (λ p. on_nodes (λ ns. counted_arms (node_labels (suc (length ns)) ns p.1)))

  abbrev pub struct_layer : Sound ValueFault KnownNode Numbers
  struct_layer =
      variant (λ p. c.TypeCode::Struct p.0.0 p.0.1 p.1) fields_in (λ _. refl)
      (lift header & nonempty (sequence_with ulong ulong-sized member_node))

  abbrev pub except_layer : Sound ValueFault KnownNode Numbers
  except_layer =
      variant (λ p. c.Except p.0.0 p.0.1 p.1) fields_in (λ _. refl)
      (lift header & sequence_with ulong ulong-sized member_node)

  abbrev pub union_layer : Sound ValueFault KnownNode Numbers
  union_layer =
      variant (λ p. c.TypeCode::Union p.0.0.0 p.0.0.1 p.0.1 p.1.0 p.1.1) union_in (λ _. refl)
      union_parameters

  abbrev pub sequence_layer : Sound ValueFault KnownNode Numbers
  sequence_layer = variant (λ p. c.Sequence p.0 p.1) item_in (λ _. refl)
      (inner Inner None & lift ulong)

  abbrev pub array_layer : Sound ValueFault KnownNode Numbers
  array_layer = variant (λ p. c.Array p.0 p.1) item_in (λ _. refl)
      (inner Inner None & lift positive)

  -- own: the number of the alias
  abbrev pub alias_layer : Mode → Option ℕ → ℕ → Sound ValueFault KnownNode Numbers
  alias_layer mode chain own =
      variant (λ p. c.Alias p.0.0 p.0.1 p.1) alias_in (λ _. refl)
      (lift header & inner (under mode) (chain_under chain own))

  -- the parameters of each kind
  abbrev pub parameters : Mode → Option ℕ → CodeKind → Sound ValueFault KnownNode Numbers
  parameters mode chain kind.Null = lift (constant c.Null)
  parameters mode chain kind.Void = lift (constant c.Void)
  parameters mode chain kind.Short = lift (constant c.TypeCode::Short)
  parameters mode chain kind.Long = lift (constant c.TypeCode::Long)
  parameters mode chain kind.UShort = lift (constant c.TypeCode::UShort)
  parameters mode chain kind.ULong = lift (constant c.TypeCode::ULong)
  parameters mode chain kind.Boolean = lift (constant c.TypeCode::Boolean)
  parameters mode chain kind.Char = lift (constant c.TypeCode::Char)
  parameters mode chain kind.Octet = lift (constant c.TypeCode::Octet)
  parameters mode chain kind.AnyCode = lift (constant c.AnyCode)
  parameters mode chain kind.Code = lift (constant c.TypeCode::Code)
  parameters mode chain kind.LongLong = lift (constant c.TypeCode::LongLong)
  parameters mode chain kind.ULongLong = lift (constant c.TypeCode::ULongLong)
  parameters mode chain kind.Str = variant (λ n. c.TypeCode::Str n) bound_in (λ _. refl)
      (lift ulong)
  parameters mode chain kind.ObjRef =
      encapsulation fault.Cdr (variant (λ p. c.TypeCode::ObjRef p.0 p.1) object_in (λ _. refl)
      (lift header))
  parameters mode chain kind.Enum =
      encapsulation fault.Cdr (variant (λ p. c.TypeCode::Enum p.0.0 p.0.1 p.1) names_in (λ _. refl)
      (lift enum_parameters))
  parameters mode chain kind.Struct = encapsulation fault.Cdr struct_layer
  parameters mode chain kind.Except = encapsulation fault.Cdr except_layer
  parameters mode chain kind.Union = encapsulation fault.Cdr union_layer
  parameters mode chain kind.Sequence = encapsulation fault.Cdr sequence_layer
  parameters mode chain kind.Array = encapsulation fault.Cdr array_layer
  parameters mode chain kind.Alias =
      on_nodes (λ ns. encapsulation fault.Cdr (alias_layer mode chain (length ns - 1)))

  abbrev pub behind_kind : Mode → Option ℕ → CodeKind → Sound ValueFault KnownNode KnownNode
  behind_kind mode chain k = variant (node_with_layer k) (λ n. n.layer) (λ _. refl)
      (parameters mode chain k)

  -- ---- an edge

  abbrev pub behind : Mode → Option ℕ → Option CodeKind → TaggedArm ValueFault KnownNode ℕ
  behind mode chain (Some k) = node most_nodes too_many_nodes (unread_node k)
      (behind_kind mode chain k)
  behind mode chain None = arm (led_to mode chain)

  pub kind-content : (mode : Mode) (chain : Option ℕ) → HasTag (behind mode chain) kind_of_node
  kind-content mode chain (Some k) graph m s u order place j next b sp agrees alike =
      let here : nat_eq j (length u.table) ≡ true = eq-eqb j (length u.table)
      (sp.3 ∙ alike-length s u alike) in
      let is : nth graph j ≡ Some sp.0 =
      node-known most_nodes too_many_nodes (unread_node k)
      (behind_kind mode chain k) graph m s order place j next b sp agrees in
      rw (here, is) (ap (λ (n : KnownNode). Some n.kind) sp.4.1)
  kind-content mode chain None graph m s u order place j next b sp agrees alike =
      let low =
      number-below 0 (places s) (2 ^ 32 - sp.1.1.0) (ulong_place s place) j sp.1.1.2 in
      let count : length (places s) ≡ length s.table = length-map s.table (λ x. x.place) in
      let same = alike-length s u alike in
      let other : nat_eq j (length u.table) ≡ false =
      ne_eqb j (length u.table) (λ e. absurd (omega (arith, low, count, same, e))) in
      rw other refl

-- a TypeCode in which so many levels of others may stand, or an indirection to one that was begun
abbrev pub edges : ℕ → Mode → Option ℕ → Sound ValueFault KnownNode ℕ
edges zero mode chain =
    choice (deep_kind mode) (deep-sized mode) (λ k. arm (lift (failure no_value)))
    (λ graph s j. kind.Null) (λ k graph m s u order place j next b sp agrees alike. absurd sp.0)
edges (suc levels) mode chain =
    choice (kind_or_indirection mode) (kind-sized mode) (behind (edges levels) mode chain)
    kind_of_node
    (kind-content (edges levels) mode chain)
