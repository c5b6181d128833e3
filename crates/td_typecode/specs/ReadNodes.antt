-- What holds of the nodes of a TypeCode that is read with indirections: the parameters of each are those of its kind,
-- its edges lead to nodes, and aliases lead on to the next node or back to one before the chain that they stand in.
use Rattle.std.specs.Prelude.{◌≡◌, ℕ, zero, suc, ◌<◌, ◌≤◌, ◌⊎◌, ◌&&◌, nat_eq, Bool, if◌then◌else◌, List, [], ◌∷◌, ◌++◌}
use Rattle.std.specs.Prelude.{length, Option, Some, None}
use Rattle.std.specs.Int.{w16, w32, w64, cast_signed}
use Rattle.td_cdr.specs.Format.{nth}
use Rattle.td_typecode.specs.declared.code.TypeCode.TheOpen as c
use Rattle.td_typecode.specs.declared.code.Value.{Value}
use Rattle.td_typecode.specs.declared.code.Value.TheVariants as value
use Rattle.td_typecode.specs.declared.kinds.CodeKind.{CodeKind}
use Rattle.td_typecode.specs.declared.kinds.CodeKind.TheVariants as kind
use Rattle.td_typecode.specs.Labels.{label_of}
use Rattle.td_typecode.specs.Same.{label_number}
use Rattle.td_typecode.specs.WritingCodes.{kind_of_layer}
use Rattle.td_typecode.specs.Known.{ArmNode, Numbers, KnownNode, layer_of, kind_known, item_of, is_alias}
use Rattle.td_typecode.specs.GraphCodes.{most_nodes}
use Rattle.td_typecode.specs.GraphNodes.{layer_node}

-- ---- chains of aliases

-- whether a node is an alias of the node that begins next
abbrev pub goes_on : List KnownNode → ℕ → Bool
goes_on ns i = is_alias (kind_known (nth ns i)) && nat_eq (item_of (layer_of (nth ns i)) i) (suc i)

-- the first alias of the chain in which a node stands, if it is an alias
abbrev pub chain_start : List KnownNode → ℕ → ℕ
chain_start ns zero = zero
chain_start ns (suc i) = if goes_on ns i then chain_start ns i else suc i

-- the same, as it is known while the node is read
abbrev pub first_of : Option ℕ → ℕ → ℕ
first_of (Some first) n = first
first_of None n = n

-- the next node to begin stands in the chain that is known of
abbrev pub Starts : Option ℕ → List KnownNode → Type 0
Starts chain ns = chain_start ns (length ns) ≡ first_of chain (length ns)

-- an alias leads to the next node, or to one before its chain
abbrev pub LeavesChain : List KnownNode → ℕ → Numbers → Type 0
LeavesChain ns i (c.Alias id name item) = (item ≡ suc i) ⊎ (item < chain_start ns i)
LeavesChain ns i l = Unit {0}

-- ---- labels

-- the value of a discriminator of a kind that a number spells
abbrev pub value_of_number : CodeKind → ℕ → Value
value_of_number kind.Short n = value.Short (cast_signed w16 n)
value_of_number kind.Long n = value.Long (cast_signed w32 n)
value_of_number kind.UShort n = value.UShort n
value_of_number kind.ULong n = value.ULong n
value_of_number kind.LongLong n = value.LongLong (cast_signed w64 n)
value_of_number kind.ULongLong n = value.ULongLong n
value_of_number kind.Boolean n = value.Boolean (nat_eq n 1)
value_of_number kind.Char n = value.Char n
value_of_number kind.Enum n = value.Enum n
value_of_number k n = value.Empty

abbrev pub kind_under : (ℕ → Option CodeKind) → Option Numbers → Option CodeKind
kind_under inner None = None
kind_under inner (Some (c.Alias id name item)) = inner item
kind_under inner (Some l) = Some (kind_of_layer l)

-- the kind of a node that was read whole, behind so many aliases at most, each read whole
abbrev pub bare_kind : ℕ → List KnownNode → ℕ → Option CodeKind
bare_kind zero ns j = None
bare_kind (suc n) ns j = kind_under (bare_kind n ns) (layer_of (nth ns j))

-- each label is a value of a discriminator of the kind
abbrev pub AreLabels : CodeKind → List ArmNode → Type 0
AreLabels k [] = Unit {0}
AreLabels k (b ∷ bs) = (value_of_number k (label_number (label_of b.0)) ≡ b.0) × AreLabels k bs

abbrev pub SwitchFits : List KnownNode → ℕ → List ArmNode → Type 0
SwitchFits ns switch arms = (n : ℕ) × (k : CodeKind) × (bare_kind n ns switch ≡ Some k)
    × AreLabels k arms

-- the labels of a union, where it has arms
abbrev pub LabelsFit : List KnownNode → Numbers → Type 0
LabelsFit ns (c.TypeCode::Union id name switch default arms) = (arms ≡ [])
    ⊎ SwitchFits ns switch arms
LabelsFit ns l = Unit {0}

-- ---- nodes

abbrev pub edges_of : Numbers → List ℕ
edges_of l = (layer_node 0 l).edges

abbrev pub AllBelow : ℕ → List ℕ → Type 0
AllBelow n [] = Unit {0}
AllBelow n (x ∷ xs) = (x < n) × AllBelow n xs

abbrev pub IsNoGraph : Numbers → Type 0
IsNoGraph (c.Linked graph) = ⊥
IsNoGraph l = Unit {0}

-- what is known of the node of a number, once it is read whole
pub record IsNode (ns : List KnownNode) (i : ℕ) (k : KnownNode) : Type 0 where
  pub layer : Numbers
  pub whole : k.layer ≡ Some layer
  pub kind : kind_of_layer layer ≡ k.kind
  pub no_graph : IsNoGraph layer
  pub within : AllBelow (length ns) (edges_of layer)
  pub leaves : LeavesChain ns i layer
  pub labels : LabelsFit ns layer

-- nodes that are read whole come behind others
pub record AddsNodes (ns next : List KnownNode) : Type 0 where
  pub more : List KnownNode
  pub is : next ≡ ns ++ more
  pub few : length ns ≤ most_nodes → length next ≤ most_nodes
  pub new : (i : ℕ) (k : KnownNode) → length ns ≤ i → nth next i ≡ Some k → IsNode next i k

-- an edge leads to the node that begins next, or to one before it, which is before the chain of aliases
pub record IsEdge (chain : Option ℕ) (ns : List KnownNode) (j : ℕ) (next : List KnownNode) :
    Type 0 where
  pub adds : AddsNodes ns next
  pub below : j < length next
  pub leads : (j ≡ length ns) ⊎ ((next ≡ ns) × (j < first_of chain (length ns)))

-- an alias leads to the next node, or back to one before a place
abbrev pub LeadsOn : ℕ → List KnownNode → List KnownNode → Numbers → Type 0
LeadsOn first ns next (c.Alias id name item) = (item ≡ length ns) ⊎ ((next ≡ ns) × (item < first))
LeadsOn first ns next l = Unit {0}

-- the parameters of a node that was begun last, of a kind, in the chain of aliases of a first one
pub record IsLayer (first : ℕ) (k : CodeKind) (ns next : List KnownNode) (l : Numbers) :
    Type 0 where
  pub adds : AddsNodes ns next
  pub kind : kind_of_layer l ≡ k
  pub no_graph : IsNoGraph l
  pub within : AllBelow (length next) (edges_of l)
  pub leads : LeadsOn first ns next l
  pub labels : LabelsFit next l
