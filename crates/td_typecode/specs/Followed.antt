-- That an indirection was followed stays noted.
use Rattle.std.specs.Prelude.{◌≡◌, ℕ, ℤ, zero, suc, ◌-◌, nat_lt, Bool, true, false, cond, if◌then◌else◌, List, ◌∷◌, length}
use Rattle.std.specs.Prelude.{Option, Some, None, Ok, Err, refl}
use Rattle.td_cdr.specs.Place.{At}
use Rattle.td_cdr.specs.Format.{◌>>=◌, Read, as_fault}
use Rattle.td_cdr.specs.Reading.{next_aligned, encapsulation_at}
use Rattle.td_cdr.specs.Refused.{enclosed_read}
use Rattle.td_cdr.specs.Sound.{Sound as Plain, ulong, text}
use Rattle.td_cdr.specs.declared.value_fault.ValueFault.{ValueFault}
use Rattle.td_cdr.specs.declared.value_fault.ValueFault.TheVariants as fault
use Rattle.td_typecode.specs.declared.code.TypeCode.TheOpen as c
use Rattle.td_typecode.specs.declared.code.Value.{Value}
use Rattle.td_typecode.specs.declared.kinds.CodeKind.{CodeKind}
use Rattle.td_typecode.specs.declared.kinds.CodeKind.TheVariants as kind
use Rattle.td_typecode.specs.declared.mode.Mode.{Mode}
use Rattle.td_typecode.specs.declared.mode.Mode.TheVariants.{Inner, Switch}
use Rattle.td_typecode.specs.Formats.{is_nonempty}
use Rattle.td_typecode.specs.Kinds.{deep_kind, under}
use Rattle.td_typecode.specs.Labels.{no_value}
use Rattle.td_typecode.specs.Codes.{header, positive, head}
use Rattle.td_indirection.specs.States.{nodes, with_blank, with_node, inside_state, behind_state}
use Rattle.td_indirection.specs.Stateful.{Sound, tag_place}
use Rattle.td_indirection.specs.Choices.{array, sequence_with}
use Rattle.td_indirection.specs.Indirections.{target, node_or_fault}
use Rattle.td_indirection.specs.NodeStarts.{node}
use Rattle.td_indirection.specs.Ulongs.{ulong-sized}
use Rattle.td_typecode.specs.Known.{ArmNode, Numbers, KnownNode, node_with_layer, KnownState, unread_node, chain_under}
use Rattle.td_typecode.specs.Known.{leaves_chain, may_lead, bare_number}
use Rattle.td_typecode.specs.GraphCodes.{node_labels, enum_parameters, nonempty, most_nodes, too_many_nodes, no_node}
use Rattle.td_typecode.specs.GraphCodes.{not_there, led_to}
use Rattle.td_typecode.specs.GraphCodes.{member_node, arm_node, counted_arms, struct_layer, except_layer, union_layer}
use Rattle.td_typecode.specs.GraphCodes.{sequence_layer, array_layer, alias_layer, parameters, behind_kind, behind}
use Rattle.td_typecode.specs.GraphCodes.{kind_or_indirection, edges}
use Rattle.td_typecode.specs.Extension.{PlainReading, StatefulReading}

abbrev pub IsLinked : KnownState → Type 0
IsLinked s = s.linked ≡ true

abbrev pub LeadsOn : {X : Type 0} → Read ValueFault (X × KnownState) → Type 0
LeadsOn (Ok v) = IsLinked v.0.1
LeadsOn (Err e) = Unit {0}

abbrev pub KeepsLinked : {X : Type 0} → StatefulReading X → Type 0
KeepsLinked t = (s : KnownState) (a : At) → IsLinked s → LeadsOn (t s a)

-- ---- readings that are built from others

abbrev pub lift_on : {X : Type 0} → PlainReading X → StatefulReading X
lift_on {X = X} p = λ s a. p a >>= λ x. Ok ((x.0, s), x.1)

abbrev pub made_on : {X Y : Type 0} → (X → Y) → StatefulReading X → StatefulReading Y
made_on {Y = Y} f t = λ s a. t s a >>= λ x. Ok ((f x.0.0, x.0.1), x.1)

abbrev pub then_on : {X Y : Type 0} → StatefulReading X → (X → StatefulReading Y)
    → StatefulReading (X × Y)
then_on {X = X} {Y = Y} t u = λ s a. t s a >>= λ x. u x.0.0 x.0.1 x.1 >>= λ y.
    Ok (((x.0.0, y.0.0), y.0.1), y.1)

abbrev pub within_on : {X : Type 0} → StatefulReading X → StatefulReading X
within_on {X = X} t = λ s a.
    enclosed_read fault.Cdr (t (inside_state s (a.place - a.origin))) a >>= λ x.
    Ok ((x.0.0, behind_state s x.0.1), x.1)

-- ---- each keeps the note

pub bind-leads : {X Y : Type 0} (r : Read ValueFault (X × KnownState))
    (h : (X × KnownState) × At → Read ValueFault (Y × KnownState))
    → LeadsOn r → ((v : (X × KnownState) × At) → IsLinked v.0.1 → LeadsOn (h v)) → LeadsOn (r >>= h)
bind-leads (Ok v) h e k = k v e
bind-leads (Err d) h e k = tt

plain-leads : {K X : Type 0} (r : Read ValueFault K) (h : K × At → Read ValueFault (X × KnownState))
    → ((k : K × At) → LeadsOn (h k)) → LeadsOn (r >>= h)
plain-leads (Ok k) h j = j k
plain-leads (Err d) h j = tt

-- what goes on behind two readings
inside-leads : {X Y : Type 0} (r : Read ValueFault At)
    (h : At × At → Read ValueFault (X × KnownState))
    (g : (X × KnownState) × At → Read ValueFault (Y × KnownState))
    → ((k : At × At) → LeadsOn (h k >>= g)) → LeadsOn ((r >>= h) >>= g)
inside-leads (Ok k) h g j = j k
inside-leads (Err d) h g j = tt

pub lift-keeps : {X : Type 0} (p : PlainReading X) → KeepsLinked (lift_on p)
lift-keeps p s a e = plain-leads (p a) (λ x. Ok ((x.0, s), x.1)) (λ x. e)

pub made-keeps : {X Y : Type 0} (f : X → Y) (t : StatefulReading X) → KeepsLinked t
    → KeepsLinked (made_on f t)
made-keeps f t j s a e = bind-leads (t s a) (λ x. Ok ((f x.0.0, x.0.1), x.1)) (j s a e) (λ v e. e)

pub then-keeps : {X Y : Type 0} (t : StatefulReading X) (u : X → StatefulReading Y) → KeepsLinked t
    → ((x : X) → KeepsLinked (u x)) → KeepsLinked (then_on t u)
then-keeps t u j k s a e =
    bind-leads (t s a) (λ x. u x.0.0 x.0.1 x.1 >>= λ y. Ok (((x.0.0, y.0.0), y.0.1), y.1)) (j s a e)
    (λ x e. bind-leads (u x.0.0 x.0.1 x.1) (λ y. Ok (((x.0.0, y.0.0), y.0.1), y.1))
    (k x.0.0 x.0.1 x.1 e) (λ y f. f))

within-keeps : {X : Type 0} (t : StatefulReading X) → KeepsLinked t → KeepsLinked (within_on t)
within-keeps {X} t j s a e =
    let inner = inside_state s (a.place - a.origin) in
    let last : (X × KnownState) × At → Read ValueFault (X × KnownState) =
    λ x. Ok ((x.0.0, behind_state s x.0.1), x.1) in
    inside-leads (as_fault fault.Cdr (encapsulation_at a)) (λ i. t inner i.0 >>= λ v. Ok (v.0, i.1))
    last (λ i. bind-leads (t inner i.0 >>= λ v. Ok (v.0, i.1)) last
    (bind-leads (t inner i.0) (λ v. Ok (v.0, i.1)) (j inner i.0 e) (λ v f. f)) (λ v f. f))

pub array-keeps : {X : Type 0} (t : Sound ValueFault KnownNode X) → KeepsLinked t.format.reads
    → (n : ℕ)
    → KeepsLinked (array t n).format.reads
array-keeps t j zero s a e = e
array-keeps t j (suc n) s a e =
    made-keeps (λ v. v.0 ∷ v.1) (then_on t.format.reads (λ _. (array t n).format.reads))
    (then-keeps t.format.reads (λ _. (array t n).format.reads) j (λ _. array-keeps t j n)) s a e

pub sequence-keeps : {X : Type 0} (t : Sound ValueFault KnownNode X) → KeepsLinked t.format.reads
    → KeepsLinked (sequence_with ulong ulong-sized t).format.reads
sequence-keeps t j s a e =
    plain-leads (ulong.format.reads a) (λ n. (array t n.0).format.reads s n.1)
    (λ n. array-keeps t j n.0 s n.1 e)

pub chosen-leads : {X : Type 0} (bad : ValueFault) (v : (X × KnownState) × At) (b : Bool)
    → IsLinked v.0.1 → LeadsOn (if b then Ok v else Err bad)
chosen-leads bad v true f = f
chosen-leads bad v false f = tt

if-leads : {X : Type 0} (r : Read ValueFault (X × KnownState)) (good : X → Bool)
    (bad : X → ValueFault) → LeadsOn r
    → LeadsOn (r >>= λ x. if good x.0.0 then Ok x else Err (bad x.0.0))
if-leads (Ok v) good bad l = chosen-leads (bad v.0.0) v (good v.0.0) l
if-leads (Err d) good bad l = tt

nonempty-keeps : {X : Type 0} (t : Sound ValueFault KnownNode (List X)) → KeepsLinked t.format.reads
    → KeepsLinked (nonempty t).format.reads
nonempty-keeps t j s a e = if-leads (t.format.reads s a) is_nonempty
    (λ xs. fault.BadValue (next_aligned 4 a)) (j s a e)

node-keeps : (k : CodeKind) (t : Sound ValueFault KnownNode KnownNode) → KeepsLinked t.format.reads
    → (tag : At)
    → KeepsLinked ((node most_nodes too_many_nodes (unread_node k) t).format.reads tag)
node-keeps k t j tag s a e = go (nat_lt (length s.table) most_nodes)
  where
    go : (b : Bool) → LeadsOn
        (cond b (t.format.reads (with_blank (unread_node k) (tag_place s tag) s) a
        >>= λ v. Ok ((length s.table, with_node v.0.1 (length s.table) v.0.0), v.1))
        (Err (too_many_nodes tag)))
    go true =
        bind-leads (t.format.reads (with_blank (unread_node k) (tag_place s tag) s) a)
        (λ v. Ok ((length s.table, with_node v.0.1 (length s.table) v.0.0), v.1))
        (j (with_blank (unread_node k) (tag_place s tag) s) a e) (λ v f. f)
    go false = tt

-- ---- an indirection notes it

node_or_fault-leads : (s : KnownState) (bad : ValueFault) (next : At) (o : Option ℕ)
    → LeadsOn (node_or_fault s bad next o)
node_or_fault-leads s bad next (Some j) = refl
node_or_fault-leads s bad next None = tt

pub led_to-leads : (mode : Mode) (chain : Option ℕ) (s : KnownState) (a : At)
    → LeadsOn ((led_to mode chain).format.reads s a)
led_to-leads mode chain s a =
    let long = λ (n : ℕ × At). node_or_fault s (no_node a) n.1 (target s (a.place - a.origin) n.0)
    in
    let first = ulong.format.reads a >>= long in
    if-leads
    (first >>= λ x. if leaves_chain chain (nodes s) x.0.0 then Ok x else Err (not_there s x.0.0 a))
    (may_lead mode (nodes s)) (λ j. not_there s (bare_number (length (nodes s)) (nodes s) j) a)
    (if-leads first (leaves_chain chain (nodes s)) (λ j. not_there s j a)
    (plain-leads (ulong.format.reads a) long
    (λ n. node_or_fault-leads s (no_node a) n.1 (target s (a.place - a.origin) n.0))))

-- ---- TypeCodes

module _ (inner : Mode → Option ℕ → Sound ValueFault KnownNode ℕ)
    (j : (mode : Mode) (chain : Option ℕ) → KeepsLinked (inner mode chain).format.reads) where
  pub member_node-keeps : KeepsLinked (member_node inner).format.reads
  member_node-keeps =
      then-keeps (lift_on text.format.reads) (λ _. (inner Inner None).format.reads)
      (lift-keeps text.format.reads) (λ _. j Inner None)

  pub arm_node-keeps : (label : Plain ValueFault Value)
      → KeepsLinked (arm_node inner label).format.reads
  arm_node-keeps label =
      then-keeps (lift_on label.format.reads) (λ _. (member_node inner).format.reads)
      (lift-keeps label.format.reads) (λ _. member_node-keeps)

  pub arms-keeps : (label : Plain ValueFault Value)
      → KeepsLinked (counted_arms inner label).format.reads
  arms-keeps label s a e =
      plain-leads (head.format.reads a)
      (λ h. (array (arm_node inner label) h.0.1).format.reads s h.1 >>= λ x.
      Ok (((h.0.0, x.0.0), x.0.1), x.1))
      (λ h. bind-leads ((array (arm_node inner label) h.0.1).format.reads s h.1)
      (λ x. Ok (((h.0.0, x.0.0), x.0.1), x.1))
      (array-keeps (arm_node inner label) (arm_node-keeps label) h.0.1 s h.1 e) (λ v f. f))

  -- behind the discriminator's number
  pub arms_behind-keeps : (n : ℕ)
      → KeepsLinked (λ s. (counted_arms inner (node_labels (suc (length (nodes s)))
      (nodes s) n)).format.reads s)
  arms_behind-keeps n s a e = arms-keeps (node_labels (suc (length (nodes s))) (nodes s) n) s a e

  parameters-keeps : (mode : Mode) (chain : Option ℕ) (k : CodeKind)
      → KeepsLinked (parameters inner mode chain k).format.reads
  parameters-keeps mode chain kind.Null s a e = e
  parameters-keeps mode chain kind.Void s a e = e
  parameters-keeps mode chain kind.Short s a e = e
  parameters-keeps mode chain kind.Long s a e = e
  parameters-keeps mode chain kind.UShort s a e = e
  parameters-keeps mode chain kind.ULong s a e = e
  parameters-keeps mode chain kind.Boolean s a e = e
  parameters-keeps mode chain kind.Char s a e = e
  parameters-keeps mode chain kind.Octet s a e = e
  parameters-keeps mode chain kind.AnyCode s a e = e
  parameters-keeps mode chain kind.Code s a e = e
  parameters-keeps mode chain kind.LongLong s a e = e
  parameters-keeps mode chain kind.ULongLong s a e = e
  parameters-keeps mode chain kind.Str s a e =
      made-keeps (λ n. c.TypeCode::Str n) (lift_on ulong.format.reads)
      (lift-keeps ulong.format.reads) s a e
  parameters-keeps mode chain kind.ObjRef s a e =
      let named : (List ℕ × List ℕ) → Numbers = λ p. c.TypeCode::ObjRef p.0 p.1 in
      within-keeps (made_on named (lift_on header.format.reads))
      (made-keeps named (lift_on header.format.reads) (lift-keeps header.format.reads)) s a e
  parameters-keeps mode chain kind.Enum s a e =
      let named : ((List ℕ × List ℕ) × List (List ℕ))
      → Numbers = λ p. c.TypeCode::Enum p.0.0 p.0.1 p.1 in
      within-keeps (made_on named (lift_on enum_parameters.format.reads))
      (made-keeps named (lift_on enum_parameters.format.reads)
      (lift-keeps enum_parameters.format.reads)) s a e
  parameters-keeps mode chain kind.Struct s a e =
      let items = (nonempty (sequence_with ulong ulong-sized (member_node inner))).format.reads in
      within-keeps (struct_layer inner).format.reads
      (made-keeps (λ p. c.TypeCode::Struct p.0.0 p.0.1 p.1)
      (then_on (lift_on header.format.reads) (λ _. items))
      (then-keeps (lift_on header.format.reads) (λ _. items) (lift-keeps header.format.reads)
      (λ _. nonempty-keeps (sequence_with ulong ulong-sized (member_node inner))
      (sequence-keeps (member_node inner) member_node-keeps)))) s a e
  parameters-keeps mode chain kind.Except s a e =
      let items = (sequence_with ulong ulong-sized (member_node inner)).format.reads in
      within-keeps (except_layer inner).format.reads
      (made-keeps (λ p. c.Except p.0.0 p.0.1 p.1)
      (then_on (lift_on header.format.reads) (λ _. items))
      (then-keeps (lift_on header.format.reads) (λ _. items) (lift-keeps header.format.reads)
      (λ _. sequence-keeps (member_node inner) member_node-keeps))) s a e
  parameters-keeps mode chain kind.Union s a e =
      let front = then_on (lift_on header.format.reads) (λ _. (inner Switch None).format.reads) in
      let arms : ((List ℕ × List ℕ) × ℕ) → StatefulReading (ℤ × List ArmNode) =
      λ p s. (counted_arms inner (node_labels (suc (length (nodes s))) (nodes s) p.1)).format.reads
      s in
      within-keeps (union_layer inner).format.reads
      (made-keeps (λ p. c.TypeCode::Union p.0.0.0 p.0.0.1 p.0.1 p.1.0 p.1.1) (then_on front arms)
      (then-keeps front arms
      (then-keeps (lift_on header.format.reads) (λ _. (inner Switch None).format.reads)
      (lift-keeps header.format.reads) (λ _. j Switch None)) (λ p. arms_behind-keeps p.1))) s a e
  parameters-keeps mode chain kind.Sequence s a e =
      within-keeps (sequence_layer inner).format.reads
      (made-keeps (λ p. c.Sequence p.0 p.1)
      (then_on (inner Inner None).format.reads (λ _. lift_on ulong.format.reads))
      (then-keeps (inner Inner None).format.reads (λ _. lift_on ulong.format.reads)
      (j Inner None) (λ _. lift-keeps ulong.format.reads))) s a e
  parameters-keeps mode chain kind.Array s a e =
      within-keeps (array_layer inner).format.reads
      (made-keeps (λ p. c.Array p.0 p.1)
      (then_on (inner Inner None).format.reads (λ _. lift_on positive.format.reads))
      (then-keeps (inner Inner None).format.reads (λ _. lift_on positive.format.reads)
      (j Inner None) (λ _. lift-keeps positive.format.reads))) s a e
  parameters-keeps mode chain kind.Alias s a e =
      let own = length (nodes s) - 1 in
      let on = chain_under chain own in
      within-keeps (alias_layer inner mode chain own).format.reads
      (made-keeps (λ p. c.Alias p.0.0 p.0.1 p.1)
      (then_on (lift_on header.format.reads) (λ _. (inner (under mode) on).format.reads))
      (then-keeps (lift_on header.format.reads) (λ _. (inner (under mode) on).format.reads)
      (lift-keeps header.format.reads) (λ _. j (under mode) on))) s a e

  behind-keeps : (mode : Mode) (chain : Option ℕ) (k : Option CodeKind) (tag : At)
      → KeepsLinked ((behind inner mode chain k).format.reads tag)
  behind-keeps mode chain (Some k) tag s a e =
      node-keeps k (behind_kind inner mode chain k)
      (made-keeps (node_with_layer k) (parameters inner mode chain k).format.reads
      (parameters-keeps mode chain k)) tag s a e
  behind-keeps mode chain None tag s a e = led_to-leads mode chain s a

pub edges-keeps : (levels : ℕ) (mode : Mode) (chain : Option ℕ)
    → KeepsLinked (edges levels mode chain).format.reads
edges-keeps zero mode chain s a e =
    plain-leads ((deep_kind mode).format.reads a) (λ k. Err (no_value k.1)) (λ k. tt)
edges-keeps (suc levels) mode chain s a e =
    plain-leads ((kind_or_indirection mode).format.reads a)
    (λ k. (behind (edges levels) mode chain k.0).format.reads a s k.1)
    (λ k. behind-keeps (edges levels) (edges-keeps levels) mode chain k.0 a s k.1 e)
