-- What is spelled with indirections adds nodes that are whole: each part of it does.
use Rattle.std.proofs.Common.{◌≡◌, ℕ, ℤ, zero, suc, ◌+◌, ◌-◌, ◌^◌, ◌<◌, Bool, true, false, List, [], ◌∷◌, ◌++◌, length}
use Rattle.std.proofs.Common.{map, refl, sym}
use Rattle.std.proofs.Common.{ap, subst, ◌∙◌, arith, append_assoc, length-append, inl, inr, ◌⊎◌}
use Rattle.std.specs.Prelude.{IsTrue, nat_eq, Option, Some, None}
use Rattle.std.specs.Int.{Width, w16, w32, w64, cast_signed, cast_unsigned, from_bool}
use Rattle.std.proofs.lemmas.Bool.{ltb-true}
use Rattle.std.proofs.lemmas.Int.{to_z-of_z}
use Rattle.std.proofs.lemmas.List.{map-append, length-map}
use Rattle.td_cdr.specs.declared.order.Order.{Order}
use Rattle.td_cdr.specs.declared.value_fault.ValueFault.{ValueFault}
use Rattle.td_cdr.specs.declared.value_fault.ValueFault.TheVariants as fault
use Rattle.td_cdr.specs.Truth.{order_of}
use Rattle.td_cdr.specs.Lawful.{AreOctets}
use Rattle.td_cdr.specs.Octets.{octets-front, octets-back}
use Rattle.td_cdr.specs.Format.{nth, uncons}
use Rattle.td_cdr.specs.Sound.{Sound as Plain, ulong, text, short, long, longlong}
use Rattle.td_typecode.specs.declared.code.TypeCode.TheOpen as c
use Rattle.td_typecode.specs.declared.code.Value.{Value}
use Rattle.td_typecode.specs.declared.code.Value.TheVariants as value
use Rattle.td_typecode.specs.declared.kinds.CodeKind.{CodeKind}
use Rattle.td_typecode.specs.declared.kinds.CodeKind.TheVariants as kind
use Rattle.td_typecode.specs.declared.mode.Mode.{Mode}
use Rattle.td_typecode.specs.declared.mode.Mode.TheVariants.{Inner, Switch}
use Rattle.td_indirection.specs.States.{nodes, places, slot, inside_state, with_blank, with_node, ulong_place}
use Rattle.td_indirection.specs.Stateful.{Sound}
use Rattle.td_indirection.specs.Pairs.{lift, pair_on, ◌&◌}
use Rattle.td_indirection.specs.Variants.{variant}
use Rattle.td_indirection.specs.Encapsulations.{encapsulation}
use Rattle.td_indirection.specs.Choices.{array, sequence_with}
use Rattle.td_indirection.specs.Indirections.{number-below}
use Rattle.td_indirection.specs.Ulongs.{ulong-sized}
use Rattle.td_indirection.specs.Tables.{with_node-table}
use Rattle.td_typecode.specs.Kinds.{under}
use Rattle.td_typecode.specs.Labels.{label_of, label_layer}
use Rattle.td_typecode.specs.Layers.{value-short, value-long, value-ushort, value-ulong, value-boolean, value-char}
use Rattle.td_typecode.specs.Layers.{value-longlong, value-ulonglong, value-enum}
use Rattle.td_typecode.specs.Same.{label_number}
use Rattle.td_typecode.specs.WritingCodes.{kind_of_layer}
use Rattle.td_typecode.specs.Codes.{header, positive}
use Rattle.td_typecode.specs.Known.{MemberNode, ArmNode, Numbers, KnownNode, KnownState, KnownSlot, node_with_layer}
use Rattle.td_typecode.specs.Known.{unread_node, layer_of}
use Rattle.td_typecode.specs.Known.{chain_under, leaves_chain}
use Rattle.td_typecode.specs.Known.{is_alias}
use Rattle.td_typecode.specs.GraphNodes.{member_place}
use Rattle.td_typecode.specs.GraphCodes.{labels_of, node_labels, enum_parameters, nonempty, led_to, member_node}
use Rattle.td_typecode.specs.GraphCodes.{arm_node}
use Rattle.td_typecode.specs.GraphCodes.{fields_in, object_in, names_in, bound_in, item_in, most_nodes}
use Rattle.td_typecode.specs.GraphCodes.{counted_arms, struct_layer, except_layer, union_layer, sequence_layer}
use Rattle.td_typecode.specs.GraphCodes.{array_layer, alias_layer}
use Rattle.td_typecode.specs.GraphCodes.{parameters, behind, edges}
use Rattle.td_typecode.specs.ReadNodes.{first_of, Starts, value_of_number, kind_under, bare_kind, AreLabels, SwitchFits}
use Rattle.td_typecode.specs.ReadNodes.{LabelsFit}
use Rattle.td_typecode.specs.ReadNodes.{edges_of, AllBelow, IsNoGraph, AddsNodes, IsEdge, LeadsOn, IsLayer}
use Rattle.td_typecode.specs.WholeLists.{KeepsNodes, bare-stays, adds-none, adds-stay, adds-long, adds-on, starts-on}
use Rattle.td_typecode.specs.WholeLists.{begins-plain}
use Rattle.td_typecode.specs.WholeLists.{first-under, begins-alias, edge-to-next}

-- ---- labels

-- a value of a discriminator of a kind, where there is one
abbrev pub LabelFor : Option CodeKind → Value → Type 0
LabelFor (Some k) v = value_of_number k (label_number (label_of v)) ≡ v
LabelFor None v = ⊥

abbrev LabelOf : Value → CodeKind → Value → Type 0
LabelOf made k v = value_of_number k (label_number (label_of v)) ≡ v

signed-again : (width : Width) (z : ℤ) (make : ℤ → Value) → (value_of_number_at : ℕ → Value)
    → ((n : ℕ) → value_of_number_at n ≡ make (cast_signed width n))
    → cast_signed width (cast_unsigned width z) ≡ z
    → value_of_number_at (cast_unsigned width z) ≡ make z
signed-again width z make at is e = is (cast_unsigned width z) ∙ ap make e

flag-again : (b : Bool) → nat_eq (from_bool b) 1 ≡ b
flag-again true = refl
flag-again false = refl

-- of a layer, where aliases lead to others
abbrev LabelsAreContent : (ℕ → Plain ValueFault Value) → (ℕ → Option CodeKind) → Type 0
LabelsAreContent inner kinds = (j : ℕ) (order : Order) (place : ℕ) (v : Value) (b : List ℕ)
    → AreOctets b
    → (inner j).format.spells order place v b → LabelFor (kinds j) v

-- of the value that a label is made of, and of the label
content-by : (k : CodeKind) (made v : Value) → made ≡ v
    → value_of_number k (label_number (label_of made)) ≡ made → LabelFor (Some k) v
content-by k made v e h = subst (λ (x : Value). value_of_number k (label_number (label_of x)) ≡ x) e
    h

layer-content : (inner : ℕ → Plain ValueFault Value) (kinds : ℕ → Option CodeKind)
    → LabelsAreContent inner kinds → (l : Numbers) (order : Order) (place : ℕ) (v : Value)
    (b : List ℕ)
    → AreOctets b
    → (label_layer inner l).format.spells order place v b → LabelFor (kind_under kinds (Some l)) v
layer-content inner kinds h c.TypeCode::Short order place v b o s =
    content-by kind.Short (value.Short s.0) v s.1
    (rw (value-short s.0) (ap (λ (z : ℤ). value.Short z) (to_z-of_z w16 s.0
    (short.lawful.admitted order place s.0 b o s.2))))
layer-content inner kinds h c.TypeCode::Long order place v b o s =
    content-by kind.Long (value.Long s.0) v s.1
    (rw (value-long s.0) (ap (λ (z : ℤ). value.Long z) (to_z-of_z w32 s.0
    (long.lawful.admitted order place s.0 b o s.2))))
layer-content inner kinds h c.TypeCode::LongLong order place v b o s =
    content-by kind.LongLong (value.LongLong s.0) v s.1
    (rw (value-longlong s.0) (ap (λ (z : ℤ). value.LongLong z) (to_z-of_z w64 s.0
    (longlong.lawful.admitted order place s.0 b o s.2))))
layer-content inner kinds h c.TypeCode::UShort order place v b o s =
    content-by kind.UShort (value.UShort s.0) v s.1 (rw (value-ushort s.0) refl)
layer-content inner kinds h c.TypeCode::ULong order place v b o s =
    content-by kind.ULong (value.ULong s.0) v s.1 (rw (value-ulong s.0) refl)
layer-content inner kinds h c.TypeCode::ULongLong order place v b o s =
    content-by kind.ULongLong (value.ULongLong s.0) v s.1 (rw (value-ulonglong s.0) refl)
layer-content inner kinds h c.TypeCode::Boolean order place v b o s =
    content-by kind.Boolean (value.Boolean s.0) v s.1
    (rw (value-boolean s.0) (ap (λ (z : Bool). value.Boolean z) (flag-again s.0)))
layer-content inner kinds h c.TypeCode::Char order place v b o s =
    content-by kind.Char (value.Char s.0) v s.1 (rw (value-char s.0) refl)
layer-content inner kinds h (c.TypeCode::Enum id name names) order place v b o s =
    content-by kind.Enum (value.Enum s.0) v s.1 (rw (value-enum s.0) refl)
layer-content inner kinds h (c.Alias id name item) order place v b o s = h item order place v b o s
layer-content inner kinds h l order place v b o s = absurd s

under-content : (inner : ℕ → Plain ValueFault Value) (kinds : ℕ → Option CodeKind)
    → LabelsAreContent inner kinds
    → (l : Option Numbers) (order : Order) (place : ℕ) (v : Value) (b : List ℕ) → AreOctets b
    → (labels_of inner l).format.spells order place v b → LabelFor (kind_under kinds l) v
under-content inner kinds h None order place v b o s = absurd s
under-content inner kinds h (Some l) order place v b o s = layer-content inner kinds h l order place
    v b o
    s

pub labels-content : (n : ℕ) (ns : List KnownNode) → LabelsAreContent (node_labels n ns)
    (bare_kind n ns)
labels-content zero ns j order place v b o s = absurd s
labels-content (suc n) ns j order place v b o s =
    under-content (node_labels n ns) (bare_kind n ns) (labels-content n ns)
    (layer_of (nth ns j)) order place v b o s

-- ---- what each part of a format adds

-- a fact on a value and on the nodes that there are, which stays while nodes are added
abbrev Fact : Type 0 → Type 1
Fact X = X → List KnownNode → Type 0

abbrev Lasts : {X : Type 0} → Fact X → Type 0
Lasts {X = X} P = (x : X) (ns next : List KnownNode) → AddsNodes ns next → P x ns → P x next

abbrev Holds : {X : Type 0} → Fact X → Sound ValueFault KnownNode X → Type 0
Holds {X = X} P t =
    (s : KnownState) (order : Order) (place : ℕ) (x : X) (next : KnownState) (b : List ℕ)
    → AreOctets b → t.format.spells s order place (x, next) b → Starts None (nodes s)
    → AddsNodes (nodes s) (nodes next) × P x (nodes next)

abbrev Leads : Option ℕ → Sound ValueFault KnownNode ℕ → Type 0
Leads chain t =
    (s : KnownState) (order : Order) (place : ℕ) (j : ℕ) (next : KnownState) (b : List ℕ)
    → AreOctets b → t.format.spells s order place (j, next) b → Starts chain (nodes s)
    → IsEdge chain (nodes s) j (nodes next)

abbrev Both : {X Y : Type 0} → Fact X → Fact Y → Fact (X × Y)
Both P Q p ns = P p.0 ns × Q p.1 ns

abbrev Each : {X : Type 0} → Fact X → Fact (List X)
Each P [] ns = Unit {0}
Each P (x ∷ xs) ns = P x ns × Each P xs ns

abbrev Any : {X : Type 0} → Fact X
Any x ns = Unit {0}

lift-holds : {X : Type 0} (g : Plain ValueFault X) (P : X → Type 0)
    → ((order : Order) (place : ℕ) (x : X) (b : List ℕ) → AreOctets b
    → g.format.spells order place x b → P x) → Holds (λ x ns. P x) (lift g)
lift-holds g P h s order place x next b o sp st = (
  subst (λ (t : KnownState). AddsNodes (nodes s) (nodes t)) (sym sp.1) (adds-none (nodes s)),
  h order place x b o sp.0,
)

any-holds : {X : Type 0} (g : Plain ValueFault X) → Holds (λ x ns. Unit {0}) (lift g)
any-holds {X} g = lift-holds g (λ (x : X). Unit {0}) (λ order place x b o s. tt)

pair-holds : {X Y : Type 0} (t : Sound ValueFault KnownNode X)
    (u : X → Sound ValueFault KnownNode Y)
    (P : Fact X) (Q : Fact Y)
    → Lasts P → Holds P t → ((x : X) → Holds Q (u x)) → Holds (Both P Q) (pair_on t u)
pair-holds t u P Q lasts h k s order place x next b o sp st =
    let mid = sp.0 in
    let q = sp.1 in
    let all : AreOctets (q.front ++ q.back) = subst AreOctets q.parts o in
    let one = h s order place x.0 mid q.front (octets-front q.front q.back all) q.spelled st in
    let two =
    k x.0 mid order (place + length q.front) x.1 next q.back (octets-back q.front q.back all)
    q.then_spelled (starts-on (nodes s) (nodes mid) one.0 st) in (
      adds-on (nodes s) (nodes mid) (nodes next) one.0 two.0,
      (lasts x.0 (nodes mid) (nodes next) two.0 one.1, two.1),
    )

variant-holds : {X Y : Type 0} (to : X → Y) (from : Y → Option X)
    (back : (x : X) → from (to x) ≡ Some x) (t : Sound ValueFault KnownNode X) (P : Fact X)
    (Q : Fact Y)
    → ((x : X) (ns : List KnownNode) → P x ns → Q (to x) ns)
    → Holds P t → Holds Q (variant to from back t)
variant-holds {X} {Y} to from back t P Q f h s order place y next b o sp st =
    let r = h s order place sp.0 next b o sp.2 st in (
      r.0,
      subst (λ (z : Y). Q z (nodes next)) sp.1 (f sp.0 (nodes next) r.1),
    )

array-holds : {X : Type 0} (t : Sound ValueFault KnownNode X) (P : Fact X) → Lasts P → Holds P t
    → (n : ℕ) → Holds (Each P) (array t n)
array-holds {X} t P lasts h zero s order place xs next b o sp st = (
  subst (λ (z : KnownState). AddsNodes (nodes s) (nodes z)) (sym sp.1) (adds-none (nodes s)),
  subst (λ (z : List X). Each P z (nodes next)) sp.0.0 tt,
)
array-holds {X} t P lasts h (suc n) s order place xs next b o sp st =
    variant-holds (λ p. p.0 ∷ p.1) uncons (λ x. refl) (t & array t n) (Both P (Each P)) (Each P)
    (λ p ns r. r) (pair-holds t (λ _. array t n) P (Each P) lasts h
    (λ _. array-holds t P lasts h n)) s order place xs next b o sp st

sequence-holds : {X : Type 0} (t : Sound ValueFault KnownNode X) (P : Fact X) → Lasts P → Holds P t
    → Holds (Each P) (sequence_with ulong ulong-sized t)
sequence-holds t P lasts h s order place xs next b o sp st =
    let q = sp.1 in
    let all : AreOctets (q.front ++ q.back) = subst AreOctets q.parts o in
    array-holds t P lasts h sp.0 s order (place + length q.front) xs next q.back
    (octets-back q.front q.back all) q.then_spelled st

encapsulation-holds : {X : Type 0} (t : Sound ValueFault KnownNode X) (P : Fact X) → Holds P t
    → Holds P (encapsulation fault.Cdr t)
encapsulation-holds {X} t P h s order place x next b o sp st =
    let end = sp.0 in
    let w = sp.1 in
    let all : AreOctets (w.octets.count ++ (w.flag ∷ (w.body ++ w.ignored))) = subst AreOctets
    w.octets.parts o in
    let behind =
    octets-back (w.flag ∷ []) (w.body ++ w.ignored)
    (octets-back w.octets.count (w.flag ∷ (w.body ++ w.ignored)) all) in
    let r =
    h (inside_state s place) (order_of w.little) 1 x end w.body
    (octets-front w.body w.ignored behind) w.spelled st in
    subst (λ (z : KnownState). AddsNodes (nodes s) (nodes z) × P x (nodes z)) (sym sp.2) r

-- ---- members and arms

abbrev IsThere : Fact ℕ
IsThere j ns = j < length ns

there-lasts : Lasts IsThere
there-lasts j ns next a lt = let long = adds-long ns next a in omega (arith, long, lt)

abbrev MemberFact : Fact MemberNode
MemberFact = Both Any IsThere

member-lasts : Lasts MemberFact
member-lasts m ns next a h = (tt, there-lasts m.1 ns next a h.1)

abbrev ArmFact : Option CodeKind → Fact ArmNode
ArmFact o = Both (λ v ns. LabelFor o v) MemberFact

arm-lasts : (o : Option CodeKind) → Lasts (ArmFact o)
arm-lasts o b ns next a h = (h.0, member-lasts b.1 ns next a h.1)

members-below : (ms : List MemberNode) (ns : List KnownNode) → Each MemberFact ms ns
    → AllBelow (length ns) (map member_place ms)
members-below [] ns h = tt
members-below (m ∷ ms) ns h = (h.0.1, members-below ms ns h.1)

arms-below : (o : Option CodeKind) (bs : List ArmNode) (ns : List KnownNode)
    → Each (ArmFact o) bs ns
    → AllBelow (length ns) (map (λ b. member_place b.1) bs)
arms-below o [] ns h = tt
arms-below o (b ∷ bs) ns h = (h.0.1.1, arms-below o bs ns h.1)

arms-labelled : (k : CodeKind) (bs : List ArmNode) (ns : List KnownNode)
    → Each (ArmFact (Some k)) bs ns
    → AreLabels k bs
arms-labelled k [] ns h = tt
arms-labelled k (b ∷ bs) ns h = (h.0.0, arms-labelled k bs ns h.1)

arms-fit : (n : ℕ) (ns next : List KnownNode) (switch : ℕ) (o : Option CodeKind) (bs : List ArmNode)
    → KeepsNodes ns next
    → bare_kind n ns switch ≡ o → Each (ArmFact o) bs next → (bs ≡ []) ⊎ SwitchFits next switch bs
arms-fit n ns next switch None [] stays e h = inl refl
arms-fit n ns next switch None (b ∷ bs) stays e h = absurd h.0.0
arms-fit n ns next switch (Some k) bs stays e h = inr
    (n, k, bare-stays ns next stays n k switch e, arms-labelled k bs next h)

-- what holds of the parameters of a kind in which aliases play no part
pub record IsWithoutAliases (k : CodeKind) (l : Numbers) (ns : List KnownNode) : Type 0 where
  pub kind : kind_of_layer l ≡ k
  pub no_graph : IsNoGraph l
  pub within : AllBelow (length ns) (edges_of l)
  pub leads : (first : ℕ) (front next : List KnownNode) → LeadsOn first front next l
  pub labels : LabelsFit ns l

-- of a kind that holds no others
leaf-plain : (k : CodeKind) (l : Numbers) (ns : List KnownNode) → kind_of_layer l ≡ k → IsNoGraph l
    → edges_of l ≡ []
    → ((first : ℕ) (front next : List KnownNode) → LeadsOn first front next l) → LabelsFit ns l
    → IsWithoutAliases k l ns
leaf-plain k l ns e g none leads labels = record {
  kind = e;
  no_graph = g;
  within = subst (λ (xs : List ℕ). AllBelow (length ns) xs) (sym none) tt;
  leads = leads;
  labels = labels;
}

constant-plain : (k : CodeKind) (l : Numbers) → kind_of_layer l ≡ k → IsNoGraph l → edges_of l ≡ []
    → ((first : ℕ) (front next : List KnownNode) → LeadsOn first front next l)
    → ((ns : List KnownNode) → LabelsFit ns l)
    → (m : Numbers) (ns : List KnownNode) → l ≡ m → IsWithoutAliases k m ns
constant-plain k l e g none leads labels m ns same =
    subst (λ (z : Numbers). IsWithoutAliases k z ns) same
    (leaf-plain k l ns e g none leads (labels ns))

layer-of : (first : ℕ) (k : CodeKind) (ns next : List KnownNode) (l : Numbers) → AddsNodes ns next
    × IsWithoutAliases k l next → IsLayer first k ns next l
layer-of first k ns next l h = record {
  adds = h.0;
  kind = h.1.kind;
  no_graph = h.1.no_graph;
  within = h.1.within;
  leads = h.1.leads first ns next;
  labels = h.1.labels;
}

-- ---- indirections

before-chain : (chain : Option ℕ) (ns : List KnownNode) (j : ℕ) → j < length ns
    → IsTrue (leaves_chain chain ns j) → j < first_of chain (length ns)
before-chain (Some first) ns j lt t = ltb-true j first t
before-chain None ns j lt t = lt

led-leads : (mode : Mode) (chain : Option ℕ) → Leads chain (led_to mode chain)
led-leads mode chain s order place j next b o sp st =
    let link = sp.1.1 in
    let low = number-below 0 (places s) (2 ^ 32 - link.0) (ulong_place s place) j link.2 in
    let count : length (places s) ≡ length s.table = length-map s.table (λ x. x.place) in
    let many : length (nodes s) ≡ length s.table = length-map s.table (λ x. x.node) in
    let lt : j < length (nodes s) = omega (arith, low, count, many) in
    let same : nodes next ≡ nodes s = ap (λ (t : KnownState). nodes t) link.3 in
    subst (λ (ns : List KnownNode). IsEdge chain (nodes s) j ns) (sym same)
    (record {
      adds = adds-none (nodes s);
      below = lt;
      leads = inr (refl, before-chain chain (nodes s) j lt sp.1.0);
    })

-- ---- TypeCodes

module _ (inner : Mode → Option ℕ → Sound ValueFault KnownNode ℕ)
    (h : (mode : Mode) (chain : Option ℕ) → Leads chain (inner mode chain)) where
  edge-holds : (mode : Mode) → Holds IsThere (inner mode None)
  edge-holds mode s order place j next b o sp st =
      let e = h mode None s order place j next b o sp st in (e.adds, e.below)

  member-holds : Holds MemberFact (member_node inner)
  member-holds = pair-holds (lift text) (λ _. inner Inner None) Any IsThere (λ x ns next a u. tt)
      (any-holds text) (λ _. edge-holds Inner)

  arm-holds : (n : ℕ) (ns : List KnownNode) (switch : ℕ)
      → Holds (ArmFact (bare_kind n ns switch)) (arm_node inner (node_labels n ns switch))
  arm-holds n ns switch =
      let label = node_labels n ns switch in
      let o = bare_kind n ns switch in
      pair-holds (lift label) (λ _. member_node inner)
      (λ v ms. LabelFor o v) MemberFact (λ x ms next a u. u)
      (lift-holds label (LabelFor o) (labels-content n ns switch)) (λ _. member-holds)

  abbrev ArmsFact : Option CodeKind → Fact (ℤ × List ArmNode)
  ArmsFact o p ns = Each (ArmFact o) p.1 ns

  arms-holds : (n : ℕ) (ns : List KnownNode) (switch : ℕ)
      → Holds (ArmsFact (bare_kind n ns switch)) (counted_arms inner (node_labels n ns switch))
  arms-holds n ns switch s order place x next b oct sp st =
      let label = node_labels n ns switch in
      let o = bare_kind n ns switch in
      let q = sp.1 in
      let all : AreOctets (q.front ++ q.back) = subst AreOctets q.parts oct in
      variant-holds (λ arms. (sp.0.0, arms)) (λ p. Some p.1) (λ _. refl)
      (array (arm_node inner label) sp.0.1) (Each (ArmFact o)) (ArmsFact o) (λ arms ms r. r)
      (array-holds (arm_node inner label) (ArmFact o) (arm-lasts o) (arm-holds n ns switch) sp.0.1)
      s order (place + length q.front) x next q.back (octets-back q.front q.back all)
      q.then_spelled st

  abbrev Header : Type 0
  Header = List ℕ × List ℕ

  struct-holds : Holds (IsWithoutAliases kind.Struct) (struct_layer inner)
  struct-holds =
      variant-holds (λ p. c.TypeCode::Struct p.0.0 p.0.1 p.1) fields_in (λ _. refl)
      (lift header & nonempty (sequence_with ulong ulong-sized (member_node inner)))
      (Both Any (Each MemberFact)) (IsWithoutAliases kind.Struct)
      (λ p ns r. record {
        kind = refl;
        no_graph = tt;
        within = members-below p.1 ns r.1;
        leads = λ first front next. tt;
        labels = tt;
      })
      (pair-holds (lift header)
      (λ _. nonempty (sequence_with ulong ulong-sized (member_node inner))) Any (Each MemberFact)
      (λ x ns next a u. tt) (any-holds header)
      (λ _ s order place x next b o sp st. sequence-holds (member_node inner)
      MemberFact member-lasts member-holds s order place x next b o sp.1 st))

  except-holds : Holds (IsWithoutAliases kind.Except) (except_layer inner)
  except-holds =
      variant-holds (λ p. c.Except p.0.0 p.0.1 p.1) fields_in (λ _. refl)
      (lift header & sequence_with ulong ulong-sized (member_node inner))
      (Both Any (Each MemberFact)) (IsWithoutAliases kind.Except)
      (λ p ns r. record {
        kind = refl;
        no_graph = tt;
        within = members-below p.1 ns r.1;
        leads = λ first front next. tt;
        labels = tt;
      })
      (pair-holds (lift header) (λ _. sequence_with ulong ulong-sized (member_node inner)) Any
      (Each MemberFact) (λ x ns next a u. tt) (any-holds header)
      (λ _. sequence-holds (member_node inner) MemberFact member-lasts member-holds))

  sequence-layer-holds : Holds (IsWithoutAliases kind.Sequence) (sequence_layer inner)
  sequence-layer-holds =
      variant-holds (λ p. c.Sequence p.0 p.1) item_in (λ _. refl) (inner Inner None & lift ulong)
      (Both IsThere Any) (IsWithoutAliases kind.Sequence)
      (λ p ns r. record {
        kind = refl;
        no_graph = tt;
        within = (r.0, tt);
        leads = λ first front next. tt;
        labels = tt;
      })
      (pair-holds (inner Inner None) (λ _. lift ulong) IsThere Any there-lasts (edge-holds Inner)
      (λ _. any-holds ulong))

  array-layer-holds : Holds (IsWithoutAliases kind.Array) (array_layer inner)
  array-layer-holds =
      variant-holds (λ p. c.Array p.0 p.1) item_in (λ _. refl) (inner Inner None & lift positive)
      (Both IsThere Any) (IsWithoutAliases kind.Array)
      (λ p ns r. record {
        kind = refl;
        no_graph = tt;
        within = (r.0, tt);
        leads = λ first front next. tt;
        labels = tt;
      })
      (pair-holds (inner Inner None) (λ _. lift positive) IsThere Any there-lasts (edge-holds Inner)
      (λ _. any-holds positive))

  -- a union's arms are told by the nodes that there are behind its discriminator
  union-holds : Holds (IsWithoutAliases kind.Union) (union_layer inner)
  union-holds s order place l next b o sp st =
      let x = sp.0 in
      let mid = sp.2.0 in
      let q = sp.2.1 in
      let all : AreOctets (q.front ++ q.back) = subst AreOctets q.parts o in
      let fuel = suc (length (nodes mid)) in
      let kinds = bare_kind fuel (nodes mid) x.0.1 in
      let one =
      pair-holds (lift header) (λ _. inner Switch None) Any IsThere (λ y ns z a u. tt)
      (any-holds header) (λ _. edge-holds Switch) s order place x.0 mid q.front
      (octets-front q.front q.back all) q.spelled st in
      let two =
      arms-holds fuel (nodes mid) x.0.1 mid order (place + length q.front) x.1 next q.back
      (octets-back q.front q.back all) q.then_spelled (starts-on (nodes s) (nodes mid) one.0 st) in
      let switch = there-lasts x.0.1 (nodes mid) (nodes next) two.0 one.1.1 in
      let plain : IsWithoutAliases kind.Union (c.TypeCode::Union x.0.0.0 x.0.0.1 x.0.1 x.1.0 x.1.1)
      (nodes next) =
      record {
        kind = refl;
        no_graph = tt;
        within = (switch, arms-below kinds x.1.1 (nodes next) two.1);
        leads = λ first front end. tt;
        labels =
            arms-fit fuel (nodes mid)
            (nodes next) x.0.1 kinds x.1.1 (adds-stay (nodes mid) (nodes next) two.0) refl two.1;
      } in (
        adds-on (nodes s) (nodes mid) (nodes next) one.0 two.0,
        subst (λ (z : Numbers). IsWithoutAliases kind.Union z (nodes next)) sp.1 plain,
      )

  -- an alias, in its chain
  alias-layer : (mode : Mode) (chain : Option ℕ) (own : ℕ) (s : KnownState) (order : Order)
      (place : ℕ) (l : Numbers) (next : KnownState) (b : List ℕ) → AreOctets b
      → (encapsulation fault.Cdr (alias_layer inner mode chain own)).format.spells s order place
      (l, next) b
      → Starts (chain_under chain own) (nodes s) → IsLayer (first_of chain own) kind.Alias (nodes s)
      (nodes next) l
  alias-layer mode chain own s order place l next b o sp st =
      let on = chain_under chain own in
      let end = sp.0 in
      let w = sp.1 in
      let all : AreOctets (w.octets.count ++ (w.flag ∷ (w.body ++ w.ignored))) = subst AreOctets
      w.octets.parts o in
      let behind =
      octets-back (w.flag ∷ []) (w.body ++ w.ignored)
      (octets-back w.octets.count (w.flag ∷ (w.body ++ w.ignored)) all) in
      let body = octets-front w.body w.ignored behind in
      let x = w.spelled.0 in
      let mid = w.spelled.2.0 in
      let q = w.spelled.2.1 in
      let parts : AreOctets (q.front ++ q.back) = subst AreOctets q.parts body in
      let same : nodes mid ≡ nodes s = ap (λ (z : KnownState). nodes z) q.spelled.1 in
      let from : Starts on (nodes mid) = subst (λ (ns : List KnownNode). Starts on ns) (sym same) st
      in
      let e0 =
      h (under mode) on mid (order_of w.little) (1 + length q.front) x.1 end q.back
      (octets-back q.front q.back parts) q.then_spelled from in
      let e : IsEdge on (nodes s) x.1 (nodes end) =
      subst (λ (ns : List KnownNode). IsEdge on ns x.1 (nodes end)) same e0 in
      let first : first_of on (length (nodes s))
      ≡ first_of chain own = first-under chain own (length (nodes s)) in
      let leads : (x.1 ≡ length (nodes s)) ⊎ ((nodes end ≡ nodes s) × (x.1 < first_of chain own)) =
      subst (λ (f : ℕ). (x.1 ≡ length (nodes s)) ⊎ ((nodes end ≡ nodes s) × (x.1 < f)))
      first e.leads in
      let layer : IsLayer (first_of chain own) kind.Alias (nodes s) (nodes end)
      (c.Alias x.0.0 x.0.1 x.1) =
      record {
        adds = e.adds;
        kind = refl;
        no_graph = tt;
        within = (e.below, tt);
        leads = leads;
        labels = tt;
      } in
      let named = subst (λ (z : Numbers). IsLayer (first_of chain own) kind.Alias (nodes s)
      (nodes end) z) w.spelled.1 layer in
      subst (λ (z : KnownState). IsLayer (first_of chain own) kind.Alias (nodes s) (nodes z) l)
      (sym sp.2) named

  -- a kind that holds no others
  leaf-holds : (k : CodeKind) (l : Numbers) → kind_of_layer l ≡ k → IsNoGraph l → edges_of l ≡ []
      → ((first : ℕ) (front next : List KnownNode) → LeadsOn first front next l)
      → ((ns : List KnownNode) → LabelsFit ns l)
      → (s : KnownState) (next : KnownState) (m : Numbers) → (l ≡ m) × (next ≡ s)
      → AddsNodes (nodes s) (nodes next) × IsWithoutAliases k m (nodes next)
  leaf-holds k l e g none leads labels s next m sp = (
    subst (λ (z : KnownState). AddsNodes (nodes s) (nodes z)) (sym sp.1) (adds-none (nodes s)),
    constant-plain k l e g none leads labels m (nodes next) sp.0,
  )

  module _ (mode : Mode) (chain : Option ℕ) where
    abbrev Reads : CodeKind → Type 0
    Reads k =
        (ns : List KnownNode) (s : KnownState) (order : Order) (place : ℕ) (l : Numbers)
        (next : KnownState) (b : List ℕ)
        → AreOctets b → (parameters inner mode chain k).format.spells s order place (l, next) b
        → nodes s ≡ ns ++ unread_node k ∷ [] → Starts chain ns
        → IsLayer (first_of chain (length ns)) k (nodes s) (nodes next) l

    plain-reads : (k : CodeKind) → is_alias k ≡ false
        → Holds (IsWithoutAliases k) (parameters inner mode chain k) → Reads k
    plain-reads k refused_target holds ns s order place l next b o sp is starts =
        layer-of (first_of chain (length ns)) k (nodes s) (nodes next) l
        (holds s order place l next b o sp
        (subst (λ (xs : List KnownNode). Starts None xs) (sym is)
        (begins-plain ns k refused_target)))

    alias-reads : Reads kind.Alias
    alias-reads ns s order place l next b o sp is starts =
        let n = length ns in
        let long = length-append ns (unread_node kind.Alias ∷ []) in
        let len = ap (length {A = KnownNode}) is in
        let own : length (nodes s) - 1 ≡ n = omega (arith, len, long) in
        let here : Starts (chain_under chain n) (nodes s) =
        subst (λ (xs : List KnownNode). Starts (chain_under chain n) xs) (sym is)
        (begins-alias chain ns starts) in
        subst (λ (m : ℕ). IsLayer (first_of chain m) kind.Alias (nodes s) (nodes next) l) own
        (alias-layer mode chain (length (nodes s) - 1) s order place l next b o sp
        (subst (λ (m : ℕ). Starts (chain_under chain m) (nodes s)) (sym own) here))

    parameters-read : (k : CodeKind) → Reads k
    parameters-read kind.Null =
        plain-reads kind.Null refl (λ s order place l next b o sp st.
        leaf-holds kind.Null c.Null refl tt refl (λ f x y. tt) (λ x. tt) s next l (sp.0.0, sp.1))
    parameters-read kind.Void =
        plain-reads kind.Void refl (λ s order place l next b o sp st.
        leaf-holds kind.Void c.Void refl tt refl (λ f x y. tt) (λ x. tt) s next l (sp.0.0, sp.1))
    parameters-read kind.Short =
        plain-reads kind.Short refl (λ s order place l next b o sp st.
        leaf-holds kind.Short c.TypeCode::Short refl tt refl (λ f x y. tt)
        (λ x. tt) s next l (sp.0.0, sp.1))
    parameters-read kind.Long =
        plain-reads kind.Long refl (λ s order place l next b o sp st.
        leaf-holds kind.Long c.TypeCode::Long refl tt refl (λ f x y. tt)
        (λ x. tt) s next l (sp.0.0, sp.1))
    parameters-read kind.UShort =
        plain-reads kind.UShort refl (λ s order place l next b o sp st.
        leaf-holds kind.UShort c.TypeCode::UShort refl tt refl (λ f x y. tt)
        (λ x. tt) s next l (sp.0.0, sp.1))
    parameters-read kind.ULong =
        plain-reads kind.ULong refl (λ s order place l next b o sp st.
        leaf-holds kind.ULong c.TypeCode::ULong refl tt refl (λ f x y. tt)
        (λ x. tt) s next l (sp.0.0, sp.1))
    parameters-read kind.Boolean =
        plain-reads kind.Boolean refl (λ s order place l next b o sp st.
        leaf-holds kind.Boolean c.TypeCode::Boolean refl tt refl (λ f x y. tt)
        (λ x. tt) s next l (sp.0.0, sp.1))
    parameters-read kind.Char =
        plain-reads kind.Char refl (λ s order place l next b o sp st.
        leaf-holds kind.Char c.TypeCode::Char refl tt refl (λ f x y. tt)
        (λ x. tt) s next l (sp.0.0, sp.1))
    parameters-read kind.Octet =
        plain-reads kind.Octet refl (λ s order place l next b o sp st.
        leaf-holds kind.Octet c.TypeCode::Octet refl tt refl (λ f x y. tt)
        (λ x. tt) s next l (sp.0.0, sp.1))
    parameters-read kind.AnyCode =
        plain-reads kind.AnyCode refl (λ s order place l next b o sp st.
        leaf-holds kind.AnyCode c.AnyCode refl tt refl (λ f x y. tt)
        (λ x. tt) s next l (sp.0.0, sp.1))
    parameters-read kind.Code =
        plain-reads kind.Code refl (λ s order place l next b o sp st.
        leaf-holds kind.Code c.TypeCode::Code refl tt refl (λ f x y. tt)
        (λ x. tt) s next l (sp.0.0, sp.1))
    parameters-read kind.LongLong =
        plain-reads kind.LongLong refl (λ s order place l next b o sp st.
        leaf-holds kind.LongLong c.TypeCode::LongLong refl tt refl (λ f x y. tt)
        (λ x. tt) s next l (sp.0.0, sp.1))
    parameters-read kind.ULongLong =
        plain-reads kind.ULongLong refl (λ s order place l next b o sp st.
        leaf-holds kind.ULongLong c.TypeCode::ULongLong refl tt refl (λ f x y. tt)
        (λ x. tt) s next l (sp.0.0, sp.1))
    parameters-read kind.Str =
        plain-reads kind.Str refl
        (variant-holds (λ n. c.TypeCode::Str n) bound_in (λ _. refl)
        (lift ulong) Any (IsWithoutAliases kind.Str)
        (λ n ns r. leaf-plain kind.Str (c.TypeCode::Str n) ns refl tt refl (λ f x y. tt) tt)
        (any-holds ulong))
    parameters-read kind.ObjRef =
        plain-reads kind.ObjRef refl
        (encapsulation-holds (variant (λ p. c.TypeCode::ObjRef p.0 p.1) object_in (λ _. refl)
        (lift header)) (IsWithoutAliases kind.ObjRef)
        (variant-holds (λ p. c.TypeCode::ObjRef p.0 p.1) object_in (λ _. refl)
        (lift header) Any (IsWithoutAliases kind.ObjRef)
        (λ p ns r. leaf-plain kind.ObjRef (c.TypeCode::ObjRef p.0 p.1) ns refl tt refl (λ f x y. tt)
        tt) (any-holds header)))
    parameters-read kind.Enum =
        plain-reads kind.Enum refl
        (encapsulation-holds
        (variant (λ p. c.TypeCode::Enum p.0.0 p.0.1 p.1) names_in (λ _. refl)
        (lift enum_parameters)) (IsWithoutAliases kind.Enum)
        (variant-holds (λ p. c.TypeCode::Enum p.0.0 p.0.1 p.1) names_in (λ _. refl)
        (lift enum_parameters) Any (IsWithoutAliases kind.Enum)
        (λ p ns r. leaf-plain kind.Enum (c.TypeCode::Enum p.0.0 p.0.1 p.1) ns refl tt refl
        (λ f x y. tt) tt) (any-holds enum_parameters)))
    parameters-read kind.Struct =
        plain-reads kind.Struct refl (encapsulation-holds (struct_layer inner)
        (IsWithoutAliases kind.Struct) struct-holds)
    parameters-read kind.Except =
        plain-reads kind.Except refl (encapsulation-holds (except_layer inner)
        (IsWithoutAliases kind.Except) except-holds)
    parameters-read kind.Union =
        plain-reads kind.Union refl (encapsulation-holds (union_layer inner)
        (IsWithoutAliases kind.Union) union-holds)
    parameters-read kind.Sequence =
        plain-reads kind.Sequence refl
        (encapsulation-holds (sequence_layer inner) (IsWithoutAliases kind.Sequence)
        sequence-layer-holds)
    parameters-read kind.Array =
        plain-reads kind.Array refl (encapsulation-holds (array_layer inner)
        (IsWithoutAliases kind.Array) array-layer-holds)
    parameters-read kind.Alias = alias-reads

    node-leads : (k : CodeKind) (m : ℕ) (s : KnownState) (order : Order) (place : ℕ) (j : ℕ)
        (next : KnownState) (b : List ℕ) → AreOctets b
        → (behind inner mode chain (Some k)).format.spells m s order place (j, next) b
        → Starts chain (nodes s) → IsEdge chain (nodes s) j (nodes next)
    node-leads k m s order place j next b o sp st =
        let end = sp.1 in
        let l = sp.4.0 in
        let blank = with_blank (unread_node k) m s in
        let ns = nodes s in
        let g = (parameters inner mode chain k).grows blank order place l end b sp.4.2 in
        let more = map (λ (x : KnownSlot). x.node) g.more in
        let node_of_slot : KnownSlot → KnownNode = λ x. x.node in
        let many : length ns ≡ length s.table = length-map s.table node_of_slot in
        let begins : nodes blank
        ≡ ns ++ unread_node k ∷ [] = map-append node_of_slot s.table (slot m (unread_node k) ∷ [])
        in
        let ended : nodes end ≡ ns ++ unread_node k ∷ more =
        ap (map node_of_slot) (g.table ∙ append_assoc s.table (slot m (unread_node k) ∷ []) g.more)
        ∙ map-append node_of_slot s.table (slot m (unread_node k) ∷ g.more) in
        let known_is : node_with_layer k l ≡ sp.0 = sp.4.1 in
        let table = with_node-table s end m (unread_node k) (node_with_layer k l) g in
        let done : nodes next ≡ ns ++ node_with_layer k l ∷ more =
        ap (λ (t : KnownState). nodes t)
        (sp.5 ∙ ap (λ (v : KnownNode). with_node end (length s.table) v) (sym known_is))
        ∙ ap (map node_of_slot) table
        ∙ map-append node_of_slot s.table (slot m (node_with_layer k l) ∷ g.more) in
        let one = parameters-read k ns blank order place l end b o sp.4.2 begins st in
        let two : IsLayer (first_of chain (length ns)) k (ns ++ unread_node k ∷ []) (nodes end) l =
        subst (λ (xs : List KnownNode). IsLayer (first_of chain (length ns)) k xs (nodes end) l)
        begins one in
        let three : IsLayer (first_of chain (length ns)) k (ns ++ unread_node k ∷ [])
        (ns ++ unread_node k ∷ more) l =
        subst (λ (xs : List KnownNode). IsLayer (first_of chain (length ns)) k (ns ++ unread_node k
        ∷ [])
        xs l) ended two in
        let room : length ns < most_nodes = let lt = sp.2 in omega (arith, lt, many) in
        let edge = edge-to-next chain k ns l more st room three in
        let number : length ns ≡ j = many ∙ sym sp.3 in
        subst (λ (i : ℕ). IsEdge chain ns i (nodes next)) number
        (subst (λ (xs : List KnownNode). IsEdge chain ns (length ns) xs) (sym done) edge)

    behind-leads : (k : Option CodeKind) (m : ℕ) (s : KnownState) (order : Order) (place : ℕ)
        (j : ℕ) (next : KnownState) (b : List ℕ) → AreOctets b
        → (behind inner mode chain k).format.spells m s order place (j, next) b
        → Starts chain (nodes s) → IsEdge chain (nodes s) j (nodes next)
    behind-leads (Some k) m s order place j next b o sp st = node-leads k m s order place j next b o
        sp st
    behind-leads None m s order place j next b o sp st = led-leads mode chain s order place j next b
        o sp st

pub edges-lead : (levels : ℕ) (mode : Mode) (chain : Option ℕ) (s : KnownState) (order : Order)
    (place : ℕ) (j : ℕ) (next : KnownState) (b : List ℕ) → AreOctets b
    → (edges levels mode chain).format.spells s order place (j, next) b → Starts chain (nodes s)
    → IsEdge chain (nodes s) j (nodes next)
edges-lead zero mode chain s order place j next b o sp st = absurd sp.1.then_spelled.0
edges-lead (suc levels) mode chain s order place j next b o sp st =
    let q = sp.1 in
    let all : AreOctets (q.front ++ q.back) = subst AreOctets q.parts o in
    behind-leads (edges levels) (edges-lead levels) mode chain sp.0 (ulong_place s place) s order
    (place + length q.front) j next q.back (octets-back q.front q.back all) q.then_spelled st
