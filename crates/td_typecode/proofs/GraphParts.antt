-- What reading a TypeCode with indirections is made of.
use Rattle.std.proofs.Common.{◌≡◌, ℕ, ℤ, zero, suc, ◌+◌, ◌-◌, ◌^◌, ◌<◌, ◌≤◌, min, Bool, true, false, cond, ltb, Result}
use Rattle.std.proofs.Common.{Ok, Err, List, [], ◌∷◌}
use Rattle.std.proofs.Common.{◌++◌, length, refl, sym, ap, subst, ◌∙◌, append_assoc, arith, length-append}
use Rattle.std.specs.Prelude.{Option, Some, None, map, slice_index, if◌then◌else◌}
use Rattle.std.specs.Int.{w32}
use Rattle.std.specs.Int.RustNames.{FitsSigned}
use Rattle.std.proofs.lemmas.Bool.{lt-ltb, le-ltb}
use Rattle.std.proofs.lemmas.List.{append-nil}
use Rattle.td_cdr.specs.declared.value_fault.ValueFault.{ValueFault}
use Rattle.td_cdr.specs.declared.value_fault.ValueFault.TheVariants as fault
use Rattle.td_cdr.specs.Place.{At}
use Rattle.td_cdr.specs.Gap.{gap}
use Rattle.td_cdr.specs.declared.order.Order.TheVariants.{Big, Little}
use Rattle.td_cdr.specs.Reading.{next_aligned, padding, octets_at, encapsulation_at, inside as inside_of}
use Rattle.td_cdr.specs.Lawful.{AreOctets}
use Rattle.td_cdr.specs.Octets.{octets-front}
use Rattle.td_cdr.specs.Joined.{bind_ok, ok_is, octets-found}
use Rattle.td_cdr.specs.Format.{Read, ◌>>=◌, Unless, as_fault}
use Rattle.td_cdr.specs.Sound.{Sound as Plain, ulong}
use Rattle.td_cdr.specs.ValueFaults.{is_memory}
use Rattle.td_cdr.proofs.Unless.{unless-map}
use Rattle.td_typecode.specs.declared.code.TypeCode.TheOpen as c
use Rattle.td_typecode.specs.declared.code.Value.{Value}
use Rattle.td_typecode.specs.declared.kinds.CodeKind.{CodeKind}
use Rattle.td_typecode.specs.declared.kinds.CodeKind.TheVariants as kind
use Rattle.td_typecode.specs.declared.mode.Mode.{Mode}
use Rattle.td_typecode.specs.declared.mode.Mode.TheVariants.{Inner, Switch}
use Rattle.td_typecode.specs.declared.node_layer.Discriminator.{Discriminator}
use Rattle.td_typecode.specs.declared.node_layer.BegunNode.{BegunNode}
use Rattle.td_indirection.specs.Indirections.{target, number_from, node_or_fault}
use Rattle.td_indirection.specs.States.{slot, with_blank, with_node, with_link, inside_state, behind_state, nodes}
use Rattle.td_indirection.specs.States.{places, ulong_place}
use Rattle.td_indirection.specs.Stateful.{Sound, tag_place}
use Rattle.td_indirection.specs.Pairs.{lift, ◌&◌}
use Rattle.td_indirection.specs.Choices.{array, sequence_with}
use Rattle.td_indirection.specs.Encapsulations.{encapsulation}
use Rattle.td_indirection.specs.Ulongs.{ulong-sized}
use Rattle.td_indirection.specs.Tables.{nodes-length, grows-length}
use Rattle.td_typecode.specs.Kinds.{under}
use Rattle.td_typecode.specs.Codes.{header, positive, head}
use Rattle.td_typecode.specs.Known.{MemberNode, ArmNode, Numbers, KnownNode, KnownState, node_with_layer, unread_node}
use Rattle.td_typecode.specs.Known.{chain_under}
use Rattle.td_typecode.specs.Known.{leaves_chain}
use Rattle.td_typecode.specs.Known.{may_lead, bare_number, message_place}
use Rattle.td_typecode.specs.GraphCodes.{most_nodes, kind_or_indirection, behind, edges, parameters, member_node}
use Rattle.td_typecode.specs.GraphCodes.{arm_node}
use Rattle.td_typecode.specs.GraphCodes.{counted_arms, nonempty, struct_layer, except_layer, union_layer}
use Rattle.td_typecode.specs.GraphCodes.{sequence_layer}
use Rattle.td_typecode.specs.GraphCodes.{array_layer, alias_layer, node_labels, led_to, not_there, no_node}
use Rattle.td_typecode.specs.NodeLayers.{GraphAt, node_places}
use Rattle.td_typecode.proofs.OfBegunNodes.{places-of}
use Rattle.td_typecode.specs.NodeReading.{EntersEncapsulation, refused_target, allowed_node, discriminator_in}
use Rattle.td_typecode.specs.NodeReading.{discriminator_label, labels-are}
use Rattle.td_typecode.specs.NodeReading.{enclosed_layer, node_from}
use Rattle.td_typecode.specs.Labels.{no_value}

abbrev pub failed : {F A : Type 0} → F → Result A F
failed e = Err e

-- ---- where readers stand

pub same-origin : {X : Type 0} (g : Plain ValueFault X) (a new : At) (x : X) → a.origin ≤ a.place
    → g.format.reads a ≡ Ok (x, new) → new.origin ≡ a.origin
same-origin g a new x h e = let f = g.lawful.found a x new h e in ap (λ (z : At). z.origin) f.moved

pub lifts : {X : Type 0} (g : Plain ValueFault X) (s next : KnownState) (a new : At) (x : X)
    → g.format.reads a ≡ Ok (x, new) → next ≡ s → (lift g).format.reads s a ≡ Ok ((x, next), new)
lifts {X} g s next a new x f e = rw f (ap (λ (z : KnownState). Ok ((x, z), new)) (sym e))

pub lift-fails : {X : Type 0} (g : Plain ValueFault X) (s : KnownState) (a : At) (e : ValueFault)
    → g.format.reads a ≡ Err e → (lift g).format.reads s a ≡ Err e
lift-fails g s a e f = rw f refl

-- a default index is a long
pub head-fits : (a new : At) (h : ℤ × ℕ) → a.origin ≤ a.place → AreOctets a.rest
    → head.format.reads a ≡ Ok (h, new) → FitsSigned w32 h.0
head-fits a new h inside octets e =
    let f = head.lawful.found a h new inside e in
    let admits = head.lawful.admitted a.order (a.place - a.origin) h f.bytes
    (octets-front f.bytes new.rest (subst AreOctets f.parts octets)) f.spelled in
    admits.1.0.1

-- a kind stands behind its padding, where that isn't past the last place that a u32 can name
pub kind-place : (mode : Mode) (a new : At) (k : Option CodeKind) → a.origin ≤ a.place
    → (kind_or_indirection mode).format.reads a ≡ Ok (k, new) → new.place ≡ next_aligned 4 a + 4
    → next_aligned 4 a ≡ a.place + padding 4 a
kind-place mode a new k h e place =
    let f = (kind_or_indirection mode).lawful.found a k new h e in
    let long : length f.bytes ≡ gap 4 (a.place - a.origin) + 4 = f.spelled.1.long in
    let moved : new.place ≡ a.place + length f.bytes = ap (λ (z : At). z.place) f.moved in
    behind (next_aligned 4 a) a.place (padding 4 a) (length f.bytes) new.place long moved place
  where
    behind : (at place pad n next : ℕ) → n ≡ pad + 4 → next ≡ place + n → next ≡ at + 4 → at ≡ place + pad
    behind at place pad n next e f g = omega (arith, e, f, g)

pub tag-is : (s : KnownState) (a : At) (origin : ℕ) → a.origin ≤ a.place → origin ≡ a.origin
    → next_aligned 4 a ≡ a.place + padding 4 a → s.base + (next_aligned 4 a - origin) ≡ tag_place s a
tag-is s a origin h same place =
    ap (λ (n : ℕ). s.base + (n - origin)) place ∙ shift s.base a.place a.origin origin (padding 4 a) h same
  where
    shift : (base place from origin pad : ℕ) → from ≤ place → origin ≡ from
        → base + ((place + pad) - origin) ≡ base + ((place - from) + pad)
    shift base place from origin pad h same = omega (arith, h, same)

-- ---- indirections

-- a long stands behind its padding, where that isn't past the last place that a u32 can name
pub long-place : (a new : At) (n : ℕ) → a.origin ≤ a.place → ulong.format.reads a ≡ Ok (n, new)
    → new.place ≡ next_aligned 4 a + 4 → next_aligned 4 a ≡ a.place + padding 4 a
long-place a new n h e place =
    let f = ulong.lawful.found a n new h e in
    let long : length f.bytes ≡ gap 4 (a.place - a.origin) + 4 = f.spelled.long in
    let moved : new.place ≡ a.place + length f.bytes = ap (λ (z : At). z.place) f.moved in
    let there : new.place ≡ next_aligned 4 a + 4 = place in
    behind (next_aligned 4 a) a.place (padding 4 a) (length f.bytes) new.place long moved there
  where
    behind : (at place pad n next : ℕ) → n ≡ pad + 4 → next ≡ place + n → next ≡ at + 4 → at ≡ place + pad
    behind at place pad n next e f g = omega (arith, e, f, g)

-- where a place that the state counts stands in the message
pub message-placed : (r place first origin base : ℕ) → r ≡ min (place + first) (2 ^ 32 - 1) → first ≤ origin
    → origin - first ≡ base → r ≡ min (place + (origin - base)) (2 ^ 32 - 1)
message-placed r place first origin base is low from =
    let e : place + first ≡ place + (origin - base) = omega (arith, low, from) in
    is ∙ ap (λ (n : ℕ). min n (2 ^ 32 - 1)) e

-- the node to which a long leads
pub target-is : (bs : List BegunNode) (s : KnownState) (a : At) (n d place : ℕ) (o : Option ℕ)
    → node_places bs ≡ places s → place ≡ s.base + (next_aligned 4 a - a.origin)
    → next_aligned 4 a ≡ a.place + padding 4 a → a.origin ≤ a.place → d ≡ 2 ^ 32 - n
    → o ≡ number_from 0 (map (λ (b : BegunNode). b.place) bs) d place
    → o ≡ target s (a.place - a.origin) n
target-is bs s a n d place o stand at exact h distance is =
    let all : map (λ (b : BegunNode). b.place) bs ≡ places s = places-of bs ∙ stand in
    let there : place ≡ ulong_place s (a.place - a.origin) = at ∙ tag-is s a a.origin h refl exact in
    is ∙ ap (λ (ps : List ℕ). number_from 0 ps d place) all
    ∙ ap (λ (k : ℕ). number_from 0 (places s) k place) distance
    ∙ ap (λ (q : ℕ). number_from 0 (places s) (2 ^ 32 - n) q) there

-- whether an indirection may lead to a node
abbrev stood : Result ℕ ValueFault → Result ℕ ValueFault
stood r = r

module _ (mode : Mode) (chain : Option ℕ) (s : KnownState) (a : At) (j : ℕ) where
  abbrev Stands : Result ℕ ValueFault → Type 0
  Stands r = r ≡ allowed_node mode chain s a j

  abbrev by_kind_of : Bool → Result ℕ ValueFault
  by_kind_of x = if x then Ok j else Err (not_there s (bare_number (length (nodes s)) (nodes s) j) a)

  pub stands_chain : (place : ℕ) → leaves_chain chain (nodes s) j ≡ false
      → place ≡ message_place s a (slice_index (places s) j) → Stands (Err (fault.BadValue place))
  stands_chain place within is = rw (within, is) refl

  pub stands_kind : (b place : ℕ) → leaves_chain chain (nodes s) j ≡ true
      → refused_target mode (nodes s) j ≡ Some b → place ≡ message_place s a (slice_index (places s) b)
      → Stands (Err (fault.BadValue place))
  stands_kind b place free bar is = rw free (by_test (may_lead mode (nodes s) j) bar)
    where
      by_test : (x : Bool)
          → (if x then None else Some (bare_number (length (nodes s)) (nodes s) j)) ≡ Some b
          → stood (Err (fault.BadValue place)) ≡ by_kind_of x
      by_test true e = absurd (let none : ⊥ = cc (e) in none)
      by_test false e =
          let same : bare_number (length (nodes s)) (nodes s) j ≡ b = cc (e) in
          ap (λ (p : ℕ). stood (Err (fault.BadValue p))) is
          ∙ ap (λ (i : ℕ). stood (Err (not_there s i a))) (sym same)

  pub stands_free : leaves_chain chain (nodes s) j ≡ true → refused_target mode (nodes s) j ≡ None → Stands (Ok j)
  stands_free free unbarred = rw free (by_test (may_lead mode (nodes s) j) unbarred)
    where
      by_test : (x : Bool)
          → (if x then None else Some (bare_number (length (nodes s)) (nodes s) j)) ≡ None
          → stood (Ok j) ≡ by_kind_of x
      by_test true e = refl
      by_test false e = absurd (let none : ⊥ = cc (e) in none)

module _ (mode : Mode) (chain : Option ℕ) (s : KnownState) (a : At) where
  abbrev tested : Read ValueFault (ℕ × KnownState) → Read ValueFault (ℕ × KnownState)
  tested r =
      (r >>= λ x. if leaves_chain chain (nodes s) x.0.0 then Ok x else Err (not_there s x.0.0 a))
      >>= λ x. if may_lead mode (nodes s) x.0.0 then Ok x
      else Err (not_there s (bare_number (length (nodes s)) (nodes s) x.0.0) a)

  abbrev followed : Read ValueFault ℕ → Read ValueFault (ℕ × KnownState)
  followed q = tested (q >>= λ n. node_or_fault s (no_node a) n.1 (target s (a.place - a.origin) n.0))

  abbrev led : Read ValueFault (ℕ × KnownState)
  led = (led_to mode chain).format.reads s a

  pub led-cut : (e : ValueFault) → ulong.format.reads a ≡ Err e → led ≡ Err e
  led-cut e f = ap followed f

  module _ (new : At) (n : ℕ) (f : ulong.format.reads a ≡ Ok (n, new)) where
    abbrev reached : ℕ → Read ValueFault (ℕ × KnownState)
    reached j = Ok ((j, with_link s), new)

    abbrev answered : Result ℕ ValueFault → Read ValueFault (ℕ × KnownState)
    answered (Ok j) = reached j
    answered (Err e) = Err e

    led-at : led ≡ tested (node_or_fault s (no_node a) new (target s (a.place - a.origin) n))
    led-at = ap followed f

    pub led-none : target s (a.place - a.origin) n ≡ None → led ≡ Err (fault.Indirection (next_aligned 4 a - 4))
    led-none t = led-at ∙ ap (λ (o : Option ℕ). tested (node_or_fault s (no_node a) new o)) t

    by-kind : (j : ℕ) (y : Bool) (last : ValueFault)
        → cond y (reached j) (Err last) ≡ answered (cond y (Ok j) (Err last))
    by-kind j true last = refl
    by-kind j false last = refl

    by-chain : (j : ℕ) (x : Bool)
        → (cond x (reached j) (Err (not_there s j a))
        >>= λ z. if may_lead mode (nodes s) z.0.0 then Ok z
        else Err (not_there s (bare_number (length (nodes s)) (nodes s) z.0.0) a))
        ≡ answered (cond x (cond (may_lead mode (nodes s) j) (Ok j)
        (Err (not_there s (bare_number (length (nodes s)) (nodes s) j) a))) (Err (not_there s j a)))
    by-chain j true =
        by-kind j (may_lead mode (nodes s) j) (not_there s (bare_number (length (nodes s)) (nodes s) j) a)
    by-chain j false = refl

    led-is : (j : ℕ) → target s (a.place - a.origin) n ≡ Some j → led ≡ answered (allowed_node mode chain s a j)
    led-is j t =
        led-at ∙ ap (λ (o : Option ℕ). tested (node_or_fault s (no_node a) new o)) t
        ∙ by-chain j (leaves_chain chain (nodes s) j)

    pub led-on : (j i : ℕ) → target s (a.place - a.origin) n ≡ Some j → allowed_node mode chain s a j ≡ Ok i
        → led ≡ Ok ((i, with_link s), new)
    led-on j i t is = led-is j t ∙ ap answered is

    pub led-refused_target : (j : ℕ) (e : ValueFault) → target s (a.place - a.origin) n ≡ Some j
        → allowed_node mode chain s a j ≡ Err e → led ≡ Err e
    led-refused_target j e t is = led-is j t ∙ ap answered is

-- ---- encapsulations are entered

inside-origin : (short end : ℕ) (octets : List ℕ) (inner : At) → inside_of short end octets ≡ Ok inner
    → inner.origin ≡ end - length octets
inside-origin short end [] inner e = absurd cc
inside-origin short end (zero ∷ bs) inner e =
    sym (ap (λ (z : At). z.origin)
    (ok_is (record { rest = bs; place = end - length bs; origin = end - suc (length bs); order = Big }) inner e))
inside-origin short end (suc zero ∷ bs) inner e =
    sym (ap (λ (z : At). z.origin)
    (ok_is (record { rest = bs; place = end - length bs; origin = end - suc (length bs); order = Little }) inner e))
inside-origin short end (suc (suc n) ∷ bs) inner e = absurd cc

-- where alignment counts from inside an encapsulation, and behind it
pub entered : (a inner next : At) → a.origin ≤ a.place → encapsulation_at a ≡ Ok (inner, next)
    → (next.origin ≡ a.origin) × (inner.origin ≡ a.place + padding 4 a + 4)
unfolding encapsulation_at
entered a inner next h e =
    let made : At × At = (inner, next) in
    let oct = bind_ok (octets_at a)
    (λ bytes. inside_of (next_aligned 4 a) bytes.1.place bytes.0 >>= λ x. Ok (x, bytes.1)) made e in
    let ins = bind_ok (inside_of (next_aligned 4 a) oct.0.1.place oct.0.0) (λ x. Ok (x, oct.0.1)) made oct.2 in
    let is : (ins.0, oct.0.1) ≡ made = ok_is (ins.0, oct.0.1) made ins.2 in
    let f = octets-found a oct.0.0 oct.0.1 h oct.1 in
    let moved : oct.0.1.place ≡ a.place + length f.bytes = ap (λ (z : At). z.place) f.moved in
    let parts = ap (length {A = ℕ}) f.spelled.parts in
    let two = length-append f.spelled.count oct.0.0 in
    let long = f.spelled.counted.long in
    let from = inside-origin (next_aligned 4 a) oct.0.1.place oct.0.0 ins.0 ins.1 in (
      sym (ap (λ (p : At × At). p.1.origin) is) ∙ ap (λ (z : At). z.origin) f.moved,
      sym (ap (λ (p : At × At). p.0.origin) is) ∙ from ∙ omega (arith, moved, parts, two, long),
    )

inside-base : (base place origin pad there next : ℕ) → origin ≤ place → next ≡ origin
    → there ≡ place + pad + 4 → base + (there - next) ≡ base + ((place - origin) + pad) + 4
inside-base base place origin pad there next h e f = omega (arith, h, e, f)

pub enters-on : (old moved new inner : GraphAt) (there next : At) → old.at.origin ≤ old.at.place
    → encapsulation_at old.at ≡ Ok (there, next) → moved ≡ record { at = next; state = old.state }
    → inner ≡ record {
      at = there;
      state = record {
        base = moved.state.base + (there.origin - moved.at.origin);
        table = moved.state.table;
        linked = moved.state.linked;
      };
    }
    → new.at ≡ moved.at → new.state.base ≡ moved.state.base → EntersEncapsulation old new (Ok inner)
enters-on old moved new inner there next h e moved_is inner_is stays base =
    let f = entered old.at there next h e in
    let inner_at : inner.at ≡ there = ap (λ (g : GraphAt). g.at) inner_is in
    let new_at : new.at ≡ next = stays ∙ ap (λ (g : GraphAt). g.at) moved_is in
    let from = inside-base old.state.base old.at.place old.at.origin (padding 4 old.at) there.origin next.origin h f.0
    f.1 in (
      rw (inner_at, new_at) e,
      ap (λ (g : GraphAt). g.state) inner_is
          ∙ ap
          (λ (g : GraphAt).
          record {
            base = g.state.base + (there.origin - g.at.origin);
            table = g.state.table;
            linked = g.state.linked;
          })
          moved_is
          ∙ ap (λ (n : ℕ). record { base = n; table = old.state.table; linked = old.state.linked }) from,
      base ∙ ap (λ (g : GraphAt). g.state.base) moved_is,
    )

-- ---- an edge

abbrev pub edge_on : ℕ → Mode → Option ℕ → KnownState → At → Read ValueFault (ℕ × KnownState)
edge_on levels mode chain s a = (kind_or_indirection mode).format.reads a
    >>= λ k. (behind (edges levels) mode chain k.0).format.reads a s k.1

pub edges-at : (levels : ℕ) (mode : Mode) (chain : Option ℕ) (s : KnownState) (a : At) → (levels ≡ 0 → ⊥)
    → (edges levels mode chain).format.reads s a ≡ edge_on (levels - 1) mode chain s a
edges-at zero mode chain s a some = absurd (some refl)
edges-at (suc levels) mode chain s a some =
    let less : suc levels - 1 ≡ levels = omega arith in
    rw less refl

module _ (inner : Mode → Option ℕ → Sound ValueFault KnownNode ℕ) (mode : Mode) (chain : Option ℕ) (k : CodeKind) where
  abbrev here : At → KnownState → At → Read ValueFault (ℕ × KnownState)
  here tag s a = (behind inner mode chain (Some k)).format.reads tag s a

  -- a node, by where its kind stands in the message
  pub node-is : (tag : At) (s : KnownState) (a : At) (place : ℕ) → next_aligned 4 tag ≡ place
      → s.base + (place - a.origin) ≡ tag_place s tag
      → here tag s a ≡ node_from inner mode chain k place s a
  node-is tag s a place is at =
      go ((parameters inner mode chain k).format.reads (with_blank (unread_node k) (tag_place s tag) s) a) refl
    where
      go : (r : Read ValueFault (Numbers × KnownState))
          → (parameters inner mode chain k).format.reads (with_blank (unread_node k) (tag_place s tag) s) a ≡ r
          → here tag s a ≡ node_from inner mode chain k place s a
      go (Ok v) f = rw (at, f, is) refl
      go (Err e) f = rw (at, f, is) refl

  pub node-on : (place : ℕ) (s begun_state end : KnownState) (a new next : At) (l : Numbers)
      → length s.table < most_nodes
      → begun_state ≡ with_blank (unread_node k) (s.base + (place - a.origin)) s → new ≡ a
      → (parameters inner mode chain k).format.reads begun_state new ≡ Ok ((l, end), next)
      → node_from inner mode chain k place s a ≡ Ok ((length s.table, with_node end (length s.table) (node_with_layer k l)), next)
  node-on place s begun_state end a new next l room is same f =
      let yet : ltb (length s.table) most_nodes ≡ true = lt-ltb (length s.table) most_nodes room in
      let there : (parameters inner mode chain k).format.reads (with_blank (unread_node k) (s.base + (place - a.origin)) s) a
      ≡ Ok ((l, end), next) = rw (is, same) at f in
      rw (yet, there) refl

  pub node-fails : (place : ℕ) (s begun_state : KnownState) (a new : At) (e : ValueFault)
      → length s.table < most_nodes → begun_state ≡ with_blank (unread_node k) (s.base + (place - a.origin)) s → new ≡ a
      → Unless (is_memory e) ((parameters inner mode chain k).format.reads begun_state new ≡ Err e)
      → Unless (is_memory e) (node_from inner mode chain k place s a ≡ Err e)
  node-fails place s begun_state a new e room is same = unless-map (is_memory e) _ _ (λ f.
      let yet : ltb (length s.table) most_nodes ≡ true = lt-ltb (length s.table) most_nodes room in
      let there : (parameters inner mode chain k).format.reads (with_blank (unread_node k) (s.base + (place - a.origin)) s) a
      ≡ Err e = rw (is, same) at f in
      rw (yet, there) refl)

  pub node-crowded : (place : ℕ) (s : KnownState) (a : At) (e : ValueFault)
      → Unless (is_memory e) ((most_nodes ≤ length s.table) × (e ≡ fault.Depth place))
      → Unless (is_memory e) (node_from inner mode chain k place s a ≡ Err e)
  node-crowded place s a e = unless-map (is_memory e) _ _ (λ h.
      let none : ltb (length s.table) most_nodes ≡ false = le-ltb (length s.table) most_nodes h.0 in
      rw none (ap (λ (x : ValueFault). Err x) (sym h.1)))

  -- a node that was begun is still there
  pub node-there : (s begun_state end : KnownState) (a next : At) (place : ℕ) (l : Numbers) → a.origin ≤ a.place
      → begun_state ≡ with_blank (unread_node k) place s
      → (parameters inner mode chain k).format.reads begun_state a ≡ Ok ((l, end), next)
      → length s.table < length end.table
  node-there s begun_state end a next place l h is f =
      let t = parameters inner mode chain k in
      let found = (t.joins begun_state).found a (l, end) next h f in
      let g = t.grows begun_state a.order (a.place - a.origin) l end found.bytes found.spelled in
      let long = grows-length begun_state end g in
      let more = length-append s.table (slot place (unread_node k) ∷ []) in
      let one : length begun_state.table ≡ length (s.table ++ slot place (unread_node k) ∷ []) =
      ap (λ (z : KnownState). length z.table) is in
      omega (arith, long, more, one)

-- an edge, by what stands in the place of a kind
module _ (levels : ℕ) (mode : Mode) (chain : Option ℕ) (s : KnownState) (a : At) (some : levels ≡ 0 → ⊥) where
  abbrev edge_there : Read ValueFault (ℕ × KnownState)
  edge_there = (edges levels mode chain).format.reads s a

  pub edge-fails : (e : ValueFault) → Unless (is_memory e) ((kind_or_indirection mode).format.reads a ≡ Err e)
      → Unless (is_memory e) (edge_there ≡ Err e)
  edge-fails e = unless-map (is_memory e) _ _ (λ f. edges-at levels mode chain s a some ∙ by_kind f)
    where
      by_kind : (kind_or_indirection mode).format.reads a ≡ Err e
          → edge_on (levels - 1) mode chain s a ≡ Err e
      by_kind f = rw f refl

  edge-read : (k : Option CodeKind) (b : At) → (kind_or_indirection mode).format.reads a ≡ Ok (k, b)
      → edge_there ≡ (behind (edges (levels - 1)) mode chain k).format.reads a s b
  edge-read k b f = edges-at levels mode chain s a some ∙ by_kind f
    where
      by_kind : (kind_or_indirection mode).format.reads a ≡ Ok (k, b)
          → edge_on (levels - 1) mode chain s a ≡ (behind (edges (levels - 1)) mode chain k).format.reads a s b
      by_kind f = rw f refl

  pub edge-node : (k : CodeKind) (b : At) (place : ℕ) → a.origin ≤ a.place
      → (kind_or_indirection mode).format.reads a ≡ Ok (Some k, b) → b.place ≡ next_aligned 4 a + 4
      → next_aligned 4 a ≡ place → edge_there ≡ node_from (edges (levels - 1)) mode chain k place s b
  edge-node k b place inside f behind_kind is =
      let exact = kind-place mode a b (Some k) inside f behind_kind in
      let origin = same-origin (kind_or_indirection mode) a b (Some k) inside f in
      let there = tag-is s a b.origin inside origin exact in
      let at : s.base + (place - b.origin) ≡ tag_place s a = rw is at there in
      edge-read (Some k) b f ∙ node-is (edges (levels - 1)) mode chain k a s b place is at

  pub edge-led : (b : At) → (kind_or_indirection mode).format.reads a ≡ Ok (None, b)
      → edge_there ≡ (led_to mode chain).format.reads s b
  edge-led b f = edge-read None b f

-- ---- one part after another

pub both-on : {X Y : Type 0} (t : Sound ValueFault KnownNode X) (u : Sound ValueFault KnownNode Y) (s mid next : KnownState)
    (a b new : At) (x : X) (y : Y) → t.format.reads s a ≡ Ok ((x, mid), b) → u.format.reads mid b ≡ Ok ((y, next), new)
    → (t & u).format.reads s a ≡ Ok (((x, y), next), new)
both-on t u s mid next a b new x y f g = rw (f, g) refl

pub second-fails : {X Y : Type 0} (t : Sound ValueFault KnownNode X) (u : Sound ValueFault KnownNode Y) (s mid : KnownState)
    (a b new : At) (x : X) (e : ValueFault) → t.format.reads s a ≡ Ok ((x, mid), b)
    → Unless (is_memory e) (u.format.reads mid b ≡ Err e) → Unless (is_memory e) ((t & u).format.reads s a ≡ Err e)
second-fails t u s mid a b new x e f = unless-map (is_memory e) _ _ (λ g. rw (f, g) refl)

-- ---- loops

abbrev pub with_front_on : {X : Type 0} → List X → Read ValueFault (List X × KnownState)
    → Read ValueFault (List X × KnownState)
with_front_on front r = r >>= λ x. Ok ((front ++ x.0.0, x.0.1), x.1)

with-none : {X : Type 0} (r : Read ValueFault (List X × KnownState)) → with_front_on [] r ≡ r
with-none (Ok x) = refl
with-none (Err e) = refl

pub begins-on : {X : Type 0} (t : Sound ValueFault KnownNode X) (front : List X) (count n : ℕ) (s : KnownState) (a : At)
    → front ≡ [] → n ≡ count
    → with_front_on front ((array t n).format.reads s a) ≡ (array t count).format.reads s a
begins-on t front count n s a none all = rw (none, all) (with-none ((array t count).format.reads s a))

abbrev paired : {X : Type 0} → X → Read ValueFault (List X × KnownState) → Read ValueFault ((X × List X) × KnownState)
paired m r = r >>= λ o. Ok (((m, o.0.0), o.0.1), o.1)

regroup : {X : Type 0} (front : List X) (m : X) (r : Read ValueFault (List X × KnownState))
    → with_front_on front (paired m r >>= λ o. Ok ((o.0.0.0 ∷ o.0.0.1, o.0.1), o.1))
    ≡ with_front_on (front ++ m ∷ []) r
regroup {X} front m (Ok x) = ap (λ (ms : List X). Ok ((ms, x.0.1), x.1)) (simp append_assoc)
regroup front m (Err e) = refl

module _ {X : Type 0} (t : Sound ValueFault KnownNode X) where
  abbrev rest : List X → ℕ → KnownState → At → Read ValueFault (List X × KnownState)
  rest front n s a = with_front_on front ((array t n).format.reads s a)

  pub goes-on : (front : List X) (count i : ℕ) (s mid : KnownState) (a b : At) (m : X)
      (total : Read ValueFault (List X × KnownState))
      → i < count → t.format.reads s a ≡ Ok ((m, mid), b) → rest front (count - i) s a ≡ total
      → rest (front ++ m ∷ []) (count - (i + 1)) mid b ≡ total
  goes-on front count i s mid a b m total lt h so_far =
      let k : count - i ≡ suc (count - (i + 1)) = omega arith in
      let one : rest front (count - i) s a ≡ rest (front ++ m ∷ []) (count - (i + 1)) mid b =
      rw (k, h) (regroup front m ((array t (count - (i + 1))).format.reads mid b)) in
      sym one ∙ so_far

  stops : (front : List X) (count i : ℕ) (s : KnownState) (a : At) (e : ValueFault)
      (total : Read ValueFault (List X × KnownState))
      → i < count → t.format.reads s a ≡ Err e → rest front (count - i) s a ≡ total → total ≡ Err e
  stops front count i s a e total lt h so_far =
      let k : count - i ≡ suc (count - (i + 1)) = omega arith in
      let one : rest front (count - i) s a ≡ Err e = rw (k, h) refl in
      sym so_far ∙ one

  pub ends-on : (front : List X) (count i : ℕ) (s : KnownState) (a : At) (e : ValueFault)
      (total : Read ValueFault (List X × KnownState))
      → i < count → Unless (is_memory e) (t.format.reads s a ≡ Err e) → rest front (count - i) s a ≡ total
      → Unless (is_memory e) (total ≡ Err e)
  ends-on front count i s a e total lt h so_far =
      unless-map (is_memory e) _ _ (λ g. stops front count i s a e total lt g so_far) h

  pub done-on : (front : List X) (count i : ℕ) (s : KnownState) (a : At)
      (total : Read ValueFault (List X × KnownState))
      → count ≤ i → rest front (count - i) s a ≡ total → total ≡ Ok ((front, s), a)
  done-on front count i s a total le so_far =
      let k : count - i ≡ 0 = omega arith in
      let one : rest front (count - i) s a ≡ Ok ((front, s), a) =
      rw k (ap (λ (ms : List X). Ok ((ms, s), a)) (append-nil front)) in
      sym so_far ∙ one

  -- behind a number
  pub sequence-on : (s : KnownState) (a b : At) (n : ℕ) → ulong.format.reads a ≡ Ok (n, b)
      → (sequence_with ulong ulong-sized t).format.reads s a ≡ (array t n).format.reads s b
  sequence-on s a b n f = rw f refl

  pub sequence-cut : (s : KnownState) (a : At) (e : ValueFault) → ulong.format.reads a ≡ Err e
      → (sequence_with ulong ulong-sized t).format.reads s a ≡ Err e
  sequence-cut s a e f = rw f refl

  pub sequence-fails : (s : KnownState) (a : At) (e : ValueFault)
      → Unless (is_memory e) (ulong.format.reads a ≡ Err e)
      → Unless (is_memory e) ((sequence_with ulong ulong-sized t).format.reads s a ≡ Err e)
  sequence-fails s a e = unless-map (is_memory e) _ _ (λ f. sequence-cut s a e f)

pub none-there : {X : Type 0} (t : Sound ValueFault KnownNode (List X)) (s next : KnownState) (a new : At) (xs : List X)
    → t.format.reads s a ≡ Ok ((xs, next), new) → xs ≡ []
    → (nonempty t).format.reads s a ≡ Err (fault.BadValue (next_aligned 4 a))
none-there t s next a new xs f none = rw (f, none) refl

pub some-there : {X : Type 0} (t : Sound ValueFault KnownNode (List X)) (s next : KnownState) (a new : At) (xs : List X)
    → t.format.reads s a ≡ Ok ((xs, next), new) → (xs ≡ [] → ⊥)
    → (nonempty t).format.reads s a ≡ Ok ((xs, next), new)
some-there t s next a new [] f some = absurd (some refl)
some-there t s next a new (x ∷ xs) f some = rw f refl

-- ---- layers

module _ (inner : Mode → Option ℕ → Sound ValueFault KnownNode ℕ) where
  abbrev Header : Type 0
  Header = List ℕ × List ℕ

  pub struct-on : (s mid next : KnownState) (a b new : At) (h : Header) (ms : List MemberNode)
      → (lift header).format.reads s a ≡ Ok ((h, mid), b)
      → (nonempty (sequence_with ulong ulong-sized (member_node inner))).format.reads mid b ≡ Ok ((ms, next), new)
      → (struct_layer inner).format.reads s a ≡ Ok ((c.TypeCode::Struct h.0 h.1 ms, next), new)
  struct-on s mid next a b new h ms f g = rw (f, g) refl

  pub except-on : (s mid next : KnownState) (a b new : At) (h : Header) (ms : List MemberNode)
      → (lift header).format.reads s a ≡ Ok ((h, mid), b)
      → (sequence_with ulong ulong-sized (member_node inner)).format.reads mid b ≡ Ok ((ms, next), new)
      → (except_layer inner).format.reads s a ≡ Ok ((c.Except h.0 h.1 ms, next), new)
  except-on s mid next a b new h ms f g = rw (f, g) refl

  pub sequence-layer-on : (s mid next : KnownState) (a b new : At) (item bound : ℕ)
      → (inner Inner None).format.reads s a ≡ Ok ((item, mid), b)
      → (lift ulong).format.reads mid b ≡ Ok ((bound, next), new)
      → (sequence_layer inner).format.reads s a ≡ Ok ((c.Sequence item bound, next), new)
  sequence-layer-on s mid next a b new item bound f g = rw (f, g) refl

  pub array-layer-on : (s mid next : KnownState) (a b new : At) (item len : ℕ)
      → (inner Inner None).format.reads s a ≡ Ok ((item, mid), b)
      → (lift positive).format.reads mid b ≡ Ok ((len, next), new)
      → (array_layer inner).format.reads s a ≡ Ok ((c.Array item len, next), new)
  array-layer-on s mid next a b new item len f g = rw (f, g) refl

  pub alias-on : (mode : Mode) (chain : Option ℕ) (own : ℕ) (on : Option ℕ) (s mid next : KnownState) (a b new : At)
      (h : Header) (item : ℕ) → chain_under chain own ≡ on
      → (lift header).format.reads s a ≡ Ok ((h, mid), b)
      → (inner (under mode) on).format.reads mid b ≡ Ok ((item, next), new)
      → (alias_layer inner mode chain own).format.reads s a ≡ Ok ((c.Alias h.0 h.1 item, next), new)
  alias-on mode chain own on s mid next a b new h item same f g = rw (f, same, g) refl

  pub alias-fails : (mode : Mode) (chain : Option ℕ) (own : ℕ) (on : Option ℕ) (s mid : KnownState) (a b : At)
      (h : Header) (e : ValueFault) → chain_under chain own ≡ on
      → (lift header).format.reads s a ≡ Ok ((h, mid), b)
      → Unless (is_memory e) ((inner (under mode) on).format.reads mid b ≡ Err e)
      → Unless (is_memory e) ((alias_layer inner mode chain own).format.reads s a ≡ Err e)
  alias-fails mode chain own on s mid a b h e same f = unless-map (is_memory e) _ _ (λ g. rw (f, same, g) refl)

  -- the labels of a discriminator that was read
  abbrev labels_there : KnownState → ℕ → Plain ValueFault Value
  labels_there m j = node_labels (suc (length (nodes m))) (nodes m) j

  labels-content : (m : KnownState) (j count : ℕ) (d : Discriminator) → count ≡ length m.table + 1
      → d ≡ discriminator_in count (nodes m) j → labels_there m j ≡ discriminator_label d
  labels-content m j count d long is =
      let many = nodes-length m in
      let fuel : suc (length (nodes m)) ≡ count = omega (arith, long, many) in
      ap (λ (n : ℕ). node_labels n (nodes m) j) fuel ∙ labels-are count (nodes m) j ∙ ap discriminator_label (sym is)

  pub union-on : (s mid next : KnownState) (a b new : At) (h : Header) (switch count : ℕ) (d : Discriminator)
      (choices : ℤ × List ArmNode) → count ≡ length mid.table + 1 → d ≡ discriminator_in count (nodes mid) switch
      → (lift header & inner Switch None).format.reads s a ≡ Ok (((h, switch), mid), b)
      → (counted_arms inner (discriminator_label d)).format.reads mid b ≡ Ok ((choices, next), new)
      → (union_layer inner).format.reads s a
      ≡ Ok ((c.TypeCode::Union h.0 h.1 switch choices.0 choices.1, next), new)
  union-on s mid next a b new h switch count d choices long is f g =
      let there : (counted_arms inner (labels_there mid switch)).format.reads mid b ≡ Ok ((choices, next), new) =
      subst (λ (label : Plain ValueFault Value). (counted_arms inner label).format.reads mid b
      ≡ Ok ((choices, next), new))
      (sym (labels-content mid switch count d long is)) g in
      rw (f, there) refl

  pub union-fails : (s mid : KnownState) (a b : At) (h : Header) (switch count : ℕ) (d : Discriminator) (e : ValueFault)
      → count ≡ length mid.table + 1 → d ≡ discriminator_in count (nodes mid) switch
      → (lift header & inner Switch None).format.reads s a ≡ Ok (((h, switch), mid), b)
      → Unless (is_memory e) ((counted_arms inner (discriminator_label d)).format.reads mid b ≡ Err e)
      → Unless (is_memory e) ((union_layer inner).format.reads s a ≡ Err e)
  union-fails s mid a b h switch count d e long is f = unless-map (is_memory e) _ _ (λ g.
      let there : (counted_arms inner (labels_there mid switch)).format.reads mid b ≡ Err e =
      subst (λ (label : Plain ValueFault Value). (counted_arms inner label).format.reads mid b ≡ Err e)
      (sym (labels-content mid switch count d long is)) g in
      rw (f, there) refl)

  pub arms-on : (label : Plain ValueFault Value) (s mid next : KnownState) (a b new : At) (h : ℤ × ℕ)
      (bs : List ArmNode)
      → head.format.reads a ≡ Ok (h, b) → mid ≡ s
      → (array (arm_node inner label) h.1).format.reads mid b ≡ Ok ((bs, next), new)
      → (counted_arms inner label).format.reads s a ≡ Ok (((h.0, bs), next), new)
  arms-on label s mid next a b new h bs f same g =
      let here : (array (arm_node inner label) h.1).format.reads s b ≡ Ok ((bs, next), new) =
      subst (λ (z : KnownState). (array (arm_node inner label) h.1).format.reads z b ≡ Ok ((bs, next), new)) same g in
      rw (f, here) refl

  pub arms-fail : (label : Plain ValueFault Value) (s mid : KnownState) (a b : At) (h : ℤ × ℕ) (e : ValueFault)
      → head.format.reads a ≡ Ok (h, b) → mid ≡ s
      → Unless (is_memory e) ((array (arm_node inner label) h.1).format.reads mid b ≡ Err e)
      → Unless (is_memory e) ((counted_arms inner label).format.reads s a ≡ Err e)
  arms-fail label s mid a b h e f same = unless-map (is_memory e) _ _ (λ g.
      let here : (array (arm_node inner label) h.1).format.reads s b ≡ Err e =
      subst (λ (z : KnownState). (array (arm_node inner label) h.1).format.reads z b ≡ Err e) same g in
      rw (f, here) refl)

  pub arms-cut : (label : Plain ValueFault Value) (s : KnownState) (a : At) (e : ValueFault)
      → Unless (is_memory e) (head.format.reads a ≡ Err e)
      → Unless (is_memory e) ((counted_arms inner label).format.reads s a ≡ Err e)
  arms-cut label s a e = unless-map (is_memory e) _ _ (λ f. rw f refl)

-- ---- encapsulations

module _ (inner : Mode → Option ℕ → Sound ValueFault KnownNode ℕ) (mode : Mode) (chain : Option ℕ) (k : CodeKind) where
  abbrev layer_in_state : KnownState → Sound ValueFault KnownNode Numbers
  layer_in_state z = enclosed_layer inner mode chain (length z.table - 1) k

  pub within-on : (s inside end outside : KnownState) (a there next last : At) (l : Numbers)
      → encapsulation_at a ≡ Ok (there, next) → inside ≡ inside_state s (a.place - a.origin)
      → (layer_in_state inside).format.reads inside there ≡ Ok ((l, end), last) → outside.base ≡ s.base
      → (encapsulation fault.Cdr (layer_in_state s)).format.reads s a ≡ Ok ((l, behind_state outside end), next)
  within-on s inside end outside a there next last l e is f base =
      let here : (layer_in_state s).format.reads (inside_state s (a.place - a.origin)) there ≡ Ok ((l, end), last) =
      subst (λ (z : KnownState). (layer_in_state z).format.reads z there ≡ Ok ((l, end), last)) is f in
      let behind : behind_state s end ≡ behind_state outside end =
      ap (λ (n : ℕ). record { base = n; table = end.table; linked = end.linked }) (sym base) in
      rw (e, here) (ap (λ (z : KnownState). Ok ((l, z), next)) behind)

  pub within-fails : (s inside : KnownState) (a there next : At) (f : ValueFault)
      → encapsulation_at a ≡ Ok (there, next) → inside ≡ inside_state s (a.place - a.origin)
      → Unless (is_memory f) ((layer_in_state inside).format.reads inside there ≡ Err f)
      → Unless (is_memory f) ((encapsulation fault.Cdr (layer_in_state s)).format.reads s a ≡ Err f)
  within-fails s inside a there next f e is = unless-map (is_memory f) _ _ (λ g.
      let here : (layer_in_state s).format.reads (inside_state s (a.place - a.origin)) there ≡ Err f =
      subst (λ (z : KnownState). (layer_in_state z).format.reads z there ≡ Err f) is g in
      rw (e, here) refl)

  pub enclosed-none : (own : ℕ)
      → (k ≡ kind.ObjRef → ⊥) → (k ≡ kind.Struct → ⊥) → (k ≡ kind.Union → ⊥)
      → (k ≡ kind.Enum → ⊥) → (k ≡ kind.Sequence → ⊥) → (k ≡ kind.Array → ⊥)
      → (k ≡ kind.Alias → ⊥) → (k ≡ kind.Except → ⊥)
      → (s : KnownState) (a : At) → (enclosed_layer inner mode chain own k).format.reads s a ≡ Err (no_value a)
  enclosed-none own n0 n1 n2 n3 n4 n5 n6 n7 s a = none-by k n0 n1 n2 n3 n4 n5 n6 n7
    where
      none-by : (k : CodeKind)
          → (k ≡ kind.ObjRef → ⊥) → (k ≡ kind.Struct → ⊥) → (k ≡ kind.Union → ⊥)
          → (k ≡ kind.Enum → ⊥) → (k ≡ kind.Sequence → ⊥) → (k ≡ kind.Array → ⊥)
          → (k ≡ kind.Alias → ⊥) → (k ≡ kind.Except → ⊥)
          → (enclosed_layer inner mode chain own k).format.reads s a ≡ Err (no_value a)
      none-by kind.ObjRef n0 n1 n2 n3 n4 n5 n6 n7 = absurd (n0 refl)
      none-by kind.Struct n0 n1 n2 n3 n4 n5 n6 n7 = absurd (n1 refl)
      none-by kind.Union n0 n1 n2 n3 n4 n5 n6 n7 = absurd (n2 refl)
      none-by kind.Enum n0 n1 n2 n3 n4 n5 n6 n7 = absurd (n3 refl)
      none-by kind.Sequence n0 n1 n2 n3 n4 n5 n6 n7 = absurd (n4 refl)
      none-by kind.Array n0 n1 n2 n3 n4 n5 n6 n7 = absurd (n5 refl)
      none-by kind.Alias n0 n1 n2 n3 n4 n5 n6 n7 = absurd (n6 refl)
      none-by kind.Except n0 n1 n2 n3 n4 n5 n6 n7 = absurd (n7 refl)
      none-by k n0 n1 n2 n3 n4 n5 n6 n7 = refl

unless-so : (b : Bool) (P : Type 0) → P → Unless b P
unless-so true P p = tt
unless-so false P p = p

pub none-within : (t : Sound ValueFault KnownNode Numbers) (s : KnownState) (a : At) (f : ValueFault)
    → as_fault fault.Cdr (encapsulation_at a) ≡ Err f
    → Unless (is_memory f) ((encapsulation fault.Cdr t).format.reads s a ≡ Err f)
none-within t s a f e = unless-so (is_memory f) _ (here e)
  where
    here : as_fault fault.Cdr (encapsulation_at a) ≡ Err f
        → (encapsulation fault.Cdr t).format.reads s a ≡ Err f
    here e = rw e refl

module _ (inner : Mode → Option ℕ → Sound ValueFault KnownNode ℕ) (mode : Mode) (chain : Option ℕ) where
  abbrev Enclosed : CodeKind → KnownState → At → Type 0
  Enclosed k s a =
      (parameters inner mode chain k).format.reads s a
      ≡ (encapsulation fault.Cdr (enclosed_layer inner mode chain (length s.table - 1) k)).format.reads s a

  alias-enclosed : (s : KnownState) (a : At) → Enclosed kind.Alias s a
  alias-enclosed s a =
      ap (λ (n : ℕ). (encapsulation fault.Cdr (alias_layer inner mode chain (n - 1))).format.reads s a) (nodes-length s)

  pub enclosed-on : (k : CodeKind)
      → (k ≡ kind.Null → ⊥) → (k ≡ kind.Void → ⊥) → (k ≡ kind.Short → ⊥)
      → (k ≡ kind.Long → ⊥) → (k ≡ kind.UShort → ⊥) → (k ≡ kind.ULong → ⊥)
      → (k ≡ kind.Boolean → ⊥) → (k ≡ kind.Char → ⊥) → (k ≡ kind.Octet → ⊥)
      → (k ≡ kind.AnyCode → ⊥) → (k ≡ kind.Code → ⊥) → (k ≡ kind.LongLong → ⊥)
      → (k ≡ kind.ULongLong → ⊥) → (k ≡ kind.Str → ⊥)
      → (s : KnownState) (a : At) → Enclosed k s a
  enclosed-on kind.Null n0 n1 n2 n3 n4 n5 n6 n7 n8 n9 n10 n11 n12 n13 s a = absurd (n0 refl)
  enclosed-on kind.Void n0 n1 n2 n3 n4 n5 n6 n7 n8 n9 n10 n11 n12 n13 s a = absurd (n1 refl)
  enclosed-on kind.Short n0 n1 n2 n3 n4 n5 n6 n7 n8 n9 n10 n11 n12 n13 s a = absurd (n2 refl)
  enclosed-on kind.Long n0 n1 n2 n3 n4 n5 n6 n7 n8 n9 n10 n11 n12 n13 s a = absurd (n3 refl)
  enclosed-on kind.UShort n0 n1 n2 n3 n4 n5 n6 n7 n8 n9 n10 n11 n12 n13 s a = absurd (n4 refl)
  enclosed-on kind.ULong n0 n1 n2 n3 n4 n5 n6 n7 n8 n9 n10 n11 n12 n13 s a = absurd (n5 refl)
  enclosed-on kind.Boolean n0 n1 n2 n3 n4 n5 n6 n7 n8 n9 n10 n11 n12 n13 s a = absurd (n6 refl)
  enclosed-on kind.Char n0 n1 n2 n3 n4 n5 n6 n7 n8 n9 n10 n11 n12 n13 s a = absurd (n7 refl)
  enclosed-on kind.Octet n0 n1 n2 n3 n4 n5 n6 n7 n8 n9 n10 n11 n12 n13 s a = absurd (n8 refl)
  enclosed-on kind.AnyCode n0 n1 n2 n3 n4 n5 n6 n7 n8 n9 n10 n11 n12 n13 s a = absurd (n9 refl)
  enclosed-on kind.Code n0 n1 n2 n3 n4 n5 n6 n7 n8 n9 n10 n11 n12 n13 s a = absurd (n10 refl)
  enclosed-on kind.ObjRef n0 n1 n2 n3 n4 n5 n6 n7 n8 n9 n10 n11 n12 n13 s a = refl
  enclosed-on kind.Struct n0 n1 n2 n3 n4 n5 n6 n7 n8 n9 n10 n11 n12 n13 s a = refl
  enclosed-on kind.Union n0 n1 n2 n3 n4 n5 n6 n7 n8 n9 n10 n11 n12 n13 s a = refl
  enclosed-on kind.Enum n0 n1 n2 n3 n4 n5 n6 n7 n8 n9 n10 n11 n12 n13 s a = refl
  enclosed-on kind.Str n0 n1 n2 n3 n4 n5 n6 n7 n8 n9 n10 n11 n12 n13 s a = absurd (n13 refl)
  enclosed-on kind.Sequence n0 n1 n2 n3 n4 n5 n6 n7 n8 n9 n10 n11 n12 n13 s a = refl
  enclosed-on kind.Array n0 n1 n2 n3 n4 n5 n6 n7 n8 n9 n10 n11 n12 n13 s a = refl
  enclosed-on kind.Alias n0 n1 n2 n3 n4 n5 n6 n7 n8 n9 n10 n11 n12 n13 s a = alias-enclosed s a
  enclosed-on kind.Except n0 n1 n2 n3 n4 n5 n6 n7 n8 n9 n10 n11 n12 n13 s a = refl
  enclosed-on kind.LongLong n0 n1 n2 n3 n4 n5 n6 n7 n8 n9 n10 n11 n12 n13 s a = absurd (n11 refl)
  enclosed-on kind.ULongLong n0 n1 n2 n3 n4 n5 n6 n7 n8 n9 n10 n11 n12 n13 s a = absurd (n12 refl)
