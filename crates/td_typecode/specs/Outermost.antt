-- The format of TypeCodes as they stand in a body or as the type of an any (CORBA's chapter on the General Inter-ORB
-- Protocol, "TypeCode", on indirections): without indirections, or as a graph where there are some.
use Rattle.std.proofs.Common.{◌≡◌, ℕ, ◌-◌, ◌^◌, ◌<◌, ◌≤◌, true, false, List, ◌++◌, length, Ok, Err}
use Rattle.std.proofs.Common.{refl, sym, ap, subst, ◌∙◌, arith, inl, inr, ◌⊎◌, None}
use Rattle.tc_graph.specs.declared.node.Node.{Node}
use Rattle.td_cdr.specs.declared.order.Order.{Order}
use Rattle.td_cdr.specs.declared.value_fault.ValueFault.{ValueFault}
use Rattle.td_cdr.specs.declared.value_fault.ValueFault.TheVariants as fault
use Rattle.td_cdr.specs.Place.{At}
use Rattle.td_cdr.specs.Reading.{after}
use Rattle.td_cdr.specs.Spelling.{FoundSpelling}
use Rattle.td_cdr.specs.Format.{Format, Piece, Read}
use Rattle.td_cdr.specs.Lawful.{AreOctets, Lawful}
use Rattle.td_cdr.specs.Faults.{Refuses}
use Rattle.td_cdr.specs.Joined.{ok_is}
use Rattle.td_cdr.specs.Sound.{Sound}
use Rattle.td_indirection.specs.States.{empty, nodes}
use Rattle.td_indirection.specs.Stateful.{IsWritten}
use Rattle.td_typecode.specs.declared.code.TypeCode.{TypeCode, out-TypeCode}
use Rattle.td_typecode.specs.declared.code.TypeCode.TheVariants as code
use Rattle.td_typecode.specs.declared.code.TypeCode.TheOpen as c
use Rattle.td_typecode.specs.declared.mode.Mode.TheVariants.{Outer}
use Rattle.td_typecode.specs.Labels.{Layer}
use Rattle.td_typecode.specs.Layers.{code-linked}
use Rattle.td_typecode.specs.WritingCodes.{code_piece}
use Rattle.td_typecode.specs.Codes.{codes, code_formats, no-linked}
use Rattle.td_typecode.specs.Known.{KnownNode, KnownState}
use Rattle.td_typecode.specs.GraphCodes.{edges}
use Rattle.td_typecode.specs.Extension.{ReadsLike, GrowsBy}
use Rattle.td_typecode.specs.ExtendedCodes.{codes-extended}
use Rattle.td_typecode.specs.GraphKnown.{known_of}
use Rattle.td_typecode.specs.WholeGraphs.{graph_of, all-read, root-read, known-again}

-- ---- what is written

-- a graph, its nodes in their order; an edge to a node that was begun is an indirection
abbrev pub graph_piece : ℕ → List Node → Piece
graph_piece levels g = (edges levels Outer None).format.writes (known_of g) empty 0

abbrev pub outer_layer : ℕ → Piece → Layer → Piece
outer_layer levels plain (c.Linked g) = graph_piece levels g
outer_layer levels plain l = plain

abbrev pub outer_piece : ℕ → TypeCode → Piece
outer_piece levels t = outer_layer levels (code_piece t) (out-TypeCode t)

-- ---- what is read and spelled

abbrev pub linked_of : KnownState → TypeCode
linked_of s = code.Linked (graph_of (nodes s))

-- the graph of what is read with indirections
abbrev pub linked_read : Read ValueFault (ℕ × KnownState) → Read ValueFault TypeCode
linked_read (Ok v) = Ok (linked_of v.0.1, v.1)
linked_read (Err e) = Err e

-- what is read as a graph counts where the plain reading meets an indirection
abbrev pub plain_or : Read ValueFault TypeCode → Read ValueFault (ℕ × KnownState)
    → Read ValueFault TypeCode
plain_or (Ok t) r = Ok t
plain_or (Err (fault.Indirection p)) r = linked_read r
plain_or (Err e) r = Err e

-- as a graph with an indirection
pub record SpellsGraph (levels : ℕ) (order : Order) (place : ℕ) (t : TypeCode)
    (b : List ℕ) : Type 0 where
  pub root : ℕ
  pub state : KnownState
  pub spelled : (edges levels Outer None).format.spells empty order place (root, state) b
  pub linked : state.linked ≡ true
  pub is : linked_of state ≡ t

-- a graph that has a spelling, at some place
pub record IsSpelled (levels : ℕ) (t : TypeCode) : Type 0 where
  pub order : Order
  pub place : ℕ
  pub bytes : List ℕ
  pub octets : AreOctets bytes
  pub spells : SpellsGraph levels order place t bytes

abbrev pub IsIndirectionFault : ValueFault → Type 0
IsIndirectionFault (fault.Indirection p) = Unit {0}
IsIndirectionFault e = ⊥

-- what is at fault without indirections is so, but for an indirection: then what is at fault as a graph
pub data OuterFault (levels : ℕ) (a : At) (f : ValueFault) : Type 0 where
  plainly : (codes levels Outer).faults a f → (IsIndirectionFault f → ⊥) → OuterFault levels a f
  as_graph : (p : ℕ) → (codes levels Outer).faults a (fault.Indirection p)
      → (edges levels Outer None).format.faults empty a f → OuterFault levels a f

abbrev pub outer_format : ℕ → Format ValueFault TypeCode
outer_format levels = record {
  reads = λ a. plain_or ((codes levels Outer).format.reads a)
      ((edges levels Outer None).format.reads empty a);
  spells = λ order place t b. (codes levels Outer).format.spells order place t b
      ⊎ SpellsGraph levels order place t b;
  admits = λ t. (codes levels Outer).format.admits t ⊎ IsSpelled levels t;
  writes = outer_piece levels;
}

-- ---- the laws

module _ (levels : ℕ) where
  abbrev plain : Sound ValueFault TypeCode
  plain = codes levels Outer

  abbrev read_graph : At → Read ValueFault (ℕ × KnownState)
  read_graph a = (edges levels Outer None).format.reads empty a

  abbrev Spells : Order → ℕ → TypeCode → List ℕ → Type 0
  Spells = (outer_format levels).spells

  abbrev Extends : Read ValueFault TypeCode → Read ValueFault (ℕ × KnownState) → Type 0
  Extends = ReadsLike (GrowsBy levels empty)

  found-by : (a : At) (v : TypeCode) (next : At) → a.origin ≤ a.place
      → (q : Read ValueFault TypeCode) (r : Read ValueFault (ℕ × KnownState)) → plain.format.reads a
      ≡ q → read_graph a ≡ r → Extends q r → plain_or q r ≡ Ok (v, next)
      → FoundSpelling Spells a v next
  found-by a v next h (Ok t) r e f s is =
      let one = plain.lawful.found a t.0 t.1 h e in
      subst (λ (p : TypeCode × At). FoundSpelling Spells a p.0 p.1)
      (ok_is {F = ValueFault} (t.0, t.1) (v, next) is)
      (record {
        bytes = one.bytes;
        spelled = inl one.spelled;
        parts = one.parts;
        moved = one.moved;
      })
  found-by a v next h (Err (fault.Indirection p)) (Ok w) e f s is =
      let one = ((edges levels Outer None).joins empty).found a w.0 w.1 h f in
      subst (λ (p : TypeCode × At). FoundSpelling Spells a p.0 p.1)
      (ok_is {F = ValueFault} (linked_of w.0.1, w.1) (v, next) is)
      (record {
        bytes = one.bytes;
        spelled = inr
            (record {
              root = w.0.0;
              state = w.0.1;
              spelled = one.spelled;
              linked = s.1;
              is = refl;
            });
        parts = one.parts;
        moved = one.moved;
      })
  found-by a v next h (Err (fault.Indirection p)) (Err d) e f s is = absurd cc
  found-by a v next h (Err (fault.Cdr p)) r e f s is = absurd cc
  found-by a v next h (Err (fault.BadKind p)) r e f s is = absurd cc
  found-by a v next h (Err (fault.BadValue p)) r e f s is = absurd cc
  found-by a v next h (Err (fault.Unsupported p)) r e f s is = absurd cc
  found-by a v next h (Err (fault.Depth p)) r e f s is = absurd cc
  found-by a v next h (Err fault.Memory) r e f s is = absurd cc

  -- what has an indirection isn't read without
  linked-reads : (q : Read ValueFault TypeCode) (root : ℕ) (state : KnownState) (next : At)
      → Extends q (Ok ((root, state), next)) → state.linked ≡ true
      → plain_or q (Ok ((root, state), next)) ≡ Ok (linked_of state, next)
  linked-reads (Ok t) root state next s e =
      absurd (let none : true ≡ false = sym e ∙ ap (λ (z : KnownState).
      z.linked) s.0.1 in cc (none))
  linked-reads (Err (fault.Indirection p)) root state next s e = refl
  linked-reads (Err (fault.Cdr p)) root state next s e = absurd s.0
  linked-reads (Err (fault.BadKind p)) root state next s e = absurd s.0
  linked-reads (Err (fault.BadValue p)) root state next s e = absurd s.0
  linked-reads (Err (fault.Unsupported p)) root state next s e = absurd s.0
  linked-reads (Err (fault.Depth p)) root state next s e = absurd s.0
  linked-reads (Err fault.Memory) root state next s e = absurd s.0

  only-by : (a : At) (v : TypeCode) (b rest : List ℕ) → a.origin ≤ a.place
      → Spells a.order (a.place - a.origin) v b → a.rest ≡ b ++ rest
      → (outer_format levels).reads a ≡ Ok (v, after (length b) a)
  only-by a v b rest h (inl s) e =
      ap (λ (q : Read ValueFault TypeCode). plain_or q (read_graph a))
      (plain.lawful.only a v b rest h s e)
  only-by a v b rest h (inr g) e =
      let next = after (length b) a in
      let one : read_graph a ≡ Ok ((g.root, g.state), next) =
      ((edges levels Outer None).joins empty).only a (g.root, g.state) b rest h g.spelled e in
      let extends =
      subst (λ (r : Read ValueFault (ℕ × KnownState)). Extends (plain.format.reads a) r) one
      (codes-extended levels Outer None empty a) in
      ap (plain_or (plain.format.reads a)) one
      ∙ linked-reads (plain.format.reads a) g.root g.state next extends g.linked
      ∙ ap (λ (t : TypeCode). Ok (t, next)) g.is

  -- what is written for what has a spelling as a graph
  graph-written : (order : Order) (place : ℕ) (v : TypeCode) → IsSpelled levels v
      → length (outer_piece levels v order place) < 2 ^ 32
      → SpellsGraph levels order place v (outer_piece levels v order place)
  graph-written order place v s short =
      let g = s.spells in
      let ns = nodes g.state in
      let read = all-read levels Outer s.order s.place g.root g.state s.bytes s.octets g.spelled in
      let root = root-read levels Outer s.order s.place g.root g.state s.bytes s.octets g.spelled in
      let same : outer_piece levels v order place
      ≡ (edges levels Outer None).format.writes ns empty g.root order place =
      ap (λ (l : Layer). outer_layer levels (code_piece v) l order place)
      (sym (ap out-TypeCode g.is) ∙ code-linked (graph_of ns))
      ∙ ap (λ (ks : List KnownNode). (edges levels Outer None).format.writes ks empty 0 order place)
      (known-again ns read)
      ∙ ap (λ (j : ℕ). (edges levels Outer None).format.writes ns empty j order place) (sym root) in
      let size = ap (length {A = ℕ}) same in
      let w : IsWritten (edges levels Outer None).format ns place g.state g.root empty order place =
      (edges levels Outer None).transfers ns place empty empty s.order order s.place place g.root
      g.state s.bytes s.octets g.spelled (record { each = λ i k l. refl })
      (record { nodes = refl; linked = refl }) (record {
        rising = λ i j less l. absurd (omega (arith, l));
        above = λ i l. absurd (omega (arith, l));
        below = λ i l. absurd (omega (arith, l));
        reached = omega arith;
      })
      (omega (arith, short, size)) in
      let state = (edges levels Outer None).format.leaves ns empty g.root order place in
      subst (λ (b : List ℕ). SpellsGraph levels order place v b) (sym same)
      (record {
        root = g.root;
        state = state;
        spelled = w.spelled;
        linked = sym w.alike.linked ∙ g.linked;
        is = ap (λ (ks : List KnownNode). code.Linked (graph_of ks)) (sym w.alike.nodes) ∙ g.is;
      })

  pub layer-plain : (p : Piece) (l : Layer) → ((graph : List Node) → l ≡ c.Linked graph → ⊥)
      → outer_layer levels p l ≡ p
  layer-plain p (c.Linked graph) h = absurd (h graph refl)
  layer-plain p l h = refl

  -- what is written for a TypeCode without indirections
  plain-written : (order : Order) (place : ℕ) (v : TypeCode) → plain.format.admits v
      → length (outer_piece levels v order place) < 2 ^ 32
      → plain.format.spells order place v (outer_piece levels v order place)
  plain-written order place v ok short =
      let same : outer_piece levels v ≡ plain.format.writes v =
      layer-plain (code_piece v) (out-TypeCode v) (λ graph e. no-linked levels Outer v graph e ok)
      ∙ ap (λ (w : TypeCode → Piece). w v) (sym (code_formats levels Outer).writes) in
      subst
      (λ (q : Piece). length (q order place) < 2 ^ 32
      → plain.format.spells order place v (q order place)) (sym same)
      (plain.lawful.written order place v ok) short

  pub outer-lawful : Lawful (outer_format levels)
  outer-lawful = record {
    found = λ a v next h e.
        found-by a v next h (plain.format.reads a)
        (read_graph a) refl refl (codes-extended levels Outer None empty a) e;
    only = only-by;
    admitted = λ order place v b o s. elim s [
      | inl p ↦ inl (plain.lawful.admitted order place v b o p)
      | inr g ↦ inr (record { order = order; place = place; bytes = b; octets = o; spells = g })
    ];
    written = λ order place v ok short. elim ok [
      | inl p ↦ inl (plain-written order place v p short)
      | inr s ↦ inr (graph-written order place v s short)
    ];
  }

  content-plainly : (a : At) (d f : ValueFault) → d ≡ f → (IsIndirectionFault d → ⊥)
      → plain.faults a d
      → OuterFault levels a f
  content-plainly a d f e other content = subst (λ (x : ValueFault). OuterFault levels a x) e
      (OuterFault.plainly content other)

  content-by : (a : At) (f : ValueFault) → a.origin ≤ a.place → (q : Read ValueFault TypeCode)
      (r : Read ValueFault (ℕ × KnownState)) → plain.format.reads a ≡ q → read_graph a ≡ r
      → plain_or q r ≡ Err f → OuterFault levels a f
  content-by a f h (Ok t) r e g is = absurd (let none : ⊥ = cc (is) in none)
  content-by a f h (Err (fault.Indirection p)) (Ok v) e g is = absurd (let none : ⊥ = cc (is)
      in none)
  content-by a f h (Err (fault.Indirection p)) (Err d) e g is =
      let same : d ≡ f = cc (is) in
      OuterFault.as_graph p (plain.refuses.content a (fault.Indirection p) h e)
      (subst (λ (x : ValueFault). (edges levels Outer None).format.faults empty a x) same
      (((edges levels Outer None).refuses empty).content a d h g))
  content-by a f h (Err (fault.Cdr p)) r e g is =
      let same : ◌≡◌ {A = ValueFault} (fault.Cdr p) f = cc (is) in
      content-plainly a (fault.Cdr p) f same (λ (i : ⊥). i)
      (plain.refuses.content a (fault.Cdr p) h e)
  content-by a f h (Err (fault.BadKind p)) r e g is =
      let same : ◌≡◌ {A = ValueFault} (fault.BadKind p) f = cc (is) in
      content-plainly a (fault.BadKind p) f same (λ (i : ⊥). i)
      (plain.refuses.content a (fault.BadKind p) h e)
  content-by a f h (Err (fault.BadValue p)) r e g is =
      let same : ◌≡◌ {A = ValueFault} (fault.BadValue p) f = cc (is) in
      content-plainly a (fault.BadValue p) f same (λ (i : ⊥). i)
      (plain.refuses.content a (fault.BadValue p) h e)
  content-by a f h (Err (fault.Unsupported p)) r e g is =
      let same : ◌≡◌ {A = ValueFault} (fault.Unsupported p) f = cc (is) in
      content-plainly a (fault.Unsupported p) f same (λ (i : ⊥). i)
      (plain.refuses.content a (fault.Unsupported p) h e)
  content-by a f h (Err (fault.Depth p)) r e g is =
      let same : ◌≡◌ {A = ValueFault} (fault.Depth p) f = cc (is) in
      content-plainly a (fault.Depth p) f same (λ (i : ⊥). i)
      (plain.refuses.content a (fault.Depth p) h e)
  content-by a f h (Err fault.Memory) r e g is =
      let same : ◌≡◌ {A = ValueFault} fault.Memory f = cc (is) in
      content-plainly a fault.Memory f same (λ (i : ⊥). i)
      (plain.refuses.content a fault.Memory h e)

  refuses-plainly : (f : ValueFault) (r : Read ValueFault (ℕ × KnownState))
      → (IsIndirectionFault f → ⊥) → plain_or (Err f) r ≡ Err f
  refuses-plainly (fault.Indirection p) r other = absurd (other tt)
  refuses-plainly f r other = refl

  refused-by : (a : At) (f : ValueFault) → a.origin ≤ a.place → OuterFault levels a f
      → (outer_format levels).reads a ≡ Err f
  refused-by a f h (OuterFault.plainly p other) =
      ap (λ (q : Read ValueFault TypeCode). plain_or q (read_graph a)) (plain.refuses.only a f h p)
      ∙ refuses-plainly f (read_graph a) other
  refused-by a f h (OuterFault.as_graph p one two) =
      ap (λ (q : Read ValueFault TypeCode). plain_or q (read_graph a))
      (plain.refuses.only a (fault.Indirection p) h one)
      ∙ ap (plain_or (Err (fault.Indirection p)))
      (((edges levels Outer None).refuses empty).only a f h two)

  pub outer-refuses : Refuses (OuterFault levels) (outer_format levels).reads
  outer-refuses = record {
    content = λ a f h e. content-by a f h (plain.format.reads a) (read_graph a) refl refl e;
    only = refused-by;
  }

-- an outermost TypeCode that may hold so many levels, itself one of them
abbrev pub outer : ℕ → Sound ValueFault TypeCode
outer levels = record {
  format = outer_format levels;
  lawful = outer-lawful levels;
  faults = OuterFault levels;
  refuses = outer-refuses levels;
}

pub outer-written : (levels : ℕ) → (outer levels).format.writes ≡ outer_piece levels
outer-written levels = refl

-- in a body or as the type of an any
unfoldable pub type_code : Sound ValueFault TypeCode
type_code = outer 16
