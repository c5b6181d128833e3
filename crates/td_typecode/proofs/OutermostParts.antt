-- Outermost TypeCodes, part by part.
use Rattle.std.proofs.Common.{◌≡◌, ℕ, ◌-◌, ◌≤◌, List, [], ◌++◌, length, None, Result, Ok, Err, refl, sym, ap, subst}
use Rattle.std.proofs.Common.{◌∙◌}
use Rattle.tc_graph.specs.declared.node.Node.{Node}
use Rattle.td_cdr.specs.declared.value_fault.ValueFault.{ValueFault}
use Rattle.td_cdr.specs.declared.value_fault.ValueFault.TheVariants as fault
use Rattle.td_cdr.specs.Place.{At}
use Rattle.td_cdr.specs.Writing.{Draft}
use Rattle.td_cdr.specs.Format.{Read, Gives, Unless, Puts}
use Rattle.td_cdr.specs.Lawful.{AreOctets}
use Rattle.td_cdr.specs.Octets.{octets-front}
use Rattle.td_cdr.specs.ValueFaults.{is_memory}
use Rattle.td_typecode.specs.declared.code.TypeCode.{TypeCode, out-TypeCode}
use Rattle.td_typecode.specs.declared.code.TypeCode.TheVariants as code
use Rattle.td_typecode.specs.declared.code.TypeCode.TheOpen as c
use Rattle.td_typecode.specs.declared.mode.Mode.TheVariants.{Outer}
use Rattle.td_indirection.specs.States.{empty, nodes}
use Rattle.td_typecode.specs.Labels.{Layer}
use Rattle.td_typecode.specs.Layers.{code-linked}
use Rattle.td_typecode.specs.WritingCodes.{code_piece}
use Rattle.td_typecode.specs.Known.{KnownState}
use Rattle.td_typecode.specs.GraphCodes.{edges}
use Rattle.td_typecode.specs.GraphKnown.{known_of}
use Rattle.td_typecode.specs.NodeWriting.{edge_placed, PutsPlaced}
use Rattle.td_typecode.specs.Outermost.{plain_or, graph_piece, outer_layer, outer_piece, layer-plain}
use Rattle.td_typecode.specs.WholeGraphs.{AreRead, all-read}
use Rattle.td_typecode.proofs.OfPlainKind.{rolled}
use Rattle.td_typecode.proofs.PlacedPieces.{edges-placed}

-- ---- what was read

pub graph-read : (levels : ℕ) (a new : At) (root : ℕ) (state : KnownState) → a.origin ≤ a.place
    → AreOctets a.rest
    → (edges levels Outer None).format.reads empty a ≡ Ok ((root, state), new) → AreRead (nodes state)
graph-read levels a new root state h octets e =
    let f = ((edges levels Outer None).joins empty).found a (root, state) new h e in
    all-read levels Outer a.order (a.place - a.origin) root state f.bytes
    (octets-front f.bytes new.rest (subst AreOctets f.parts octets)) f.spelled

-- ---- an outermost TypeCode

-- where the plain reading fails, but when out of memory
pub failed-plainly : (f : ValueFault) (q : Read ValueFault TypeCode)
    (r : Read ValueFault (ℕ × KnownState)) (new : At) (result : Result TypeCode ValueFault)
    → Unless (is_memory f) (q ≡ Err f) → Gives is_memory new result (plain_or (Err f) r)
    → Gives is_memory new result (plain_or q r)
failed-plainly (fault.Indirection p) q r new result is g = rw is g
failed-plainly (fault.Cdr p) q r new result is g = rw is g
failed-plainly (fault.BadKind p) q r new result is g = rw is g
failed-plainly (fault.BadValue p) q r new result is g = rw is g
failed-plainly (fault.Unsupported p) q r new result is g = rw is g
failed-plainly (fault.Depth p) q r new result is g = rw is g
failed-plainly fault.Memory q r new (Ok t) is g = absurd (let none : ⊥ = cc (g) in none)
failed-plainly fault.Memory q r new (Err fault.Memory) is g = tt
failed-plainly fault.Memory q r new (Err (fault.Indirection p)) is g = absurd (let none : ⊥ = cc (g) in none)
failed-plainly fault.Memory q r new (Err (fault.Cdr p)) is g = absurd (let none : ⊥ = cc (g) in none)
failed-plainly fault.Memory q r new (Err (fault.BadKind p)) is g = absurd (let none : ⊥ = cc (g) in none)
failed-plainly fault.Memory q r new (Err (fault.BadValue p)) is g = absurd (let none : ⊥ = cc (g) in none)
failed-plainly fault.Memory q r new (Err (fault.Unsupported p)) is g = absurd (let none : ⊥ = cc (g) in none)
failed-plainly fault.Memory q r new (Err (fault.Depth p)) is g = absurd (let none : ⊥ = cc (g) in none)

-- a fault that is no indirection
pub other-fault : (f : ValueFault) (r : Read ValueFault (ℕ × KnownState)) (new : At)
    → ((p : ℕ) → f ≡ fault.Indirection p → ⊥)
    → Gives {Y = TypeCode} is_memory new (Err f) (plain_or (Err f) r)
other-fault (fault.Indirection p) r new other = absurd (other p refl)
other-fault (fault.Cdr p) r new other = refl
other-fault (fault.BadKind p) r new other = refl
other-fault (fault.BadValue p) r new other = refl
other-fault (fault.Unsupported p) r new other = refl
other-fault (fault.Depth p) r new other = refl
other-fault fault.Memory r new other = tt

-- ---- what is written

pub outer-linked : (levels : ℕ) (t : TypeCode) (g : List Node) → t ≡ code.Linked g
    → outer_piece levels t ≡ graph_piece levels g
outer-linked levels t g is =
    ap (λ (l : Layer). outer_layer levels (code_piece t) l) (ap out-TypeCode is ∙ code-linked g)

pub outer-plain : (levels : ℕ) (t : TypeCode) → ((g : List Node) → t ≡ code.Linked g → ⊥)
    → outer_piece levels t ≡ code_piece t
outer-plain levels t other =
    layer-plain levels (code_piece t) (out-TypeCode t)
    (λ g e. other g (rolled t (c.Linked g) e ∙ code.rolls-Linked g))

-- a graph that was written as pieces that know where kinds stand
pub puts-graph : {E : Type 0} (levels : ℕ) (g : List Node) (new : List ℕ) (from to : Draft)
    (result : Result (Unit {0}) E)
    → PutsPlaced (edge_placed levels (known_of g) 0) 0 [] new from to result
    → Puts (graph_piece levels g) from to result
puts-graph levels g new from to (Ok u) s = record {
  done = s.done.0
      ∙ ap (λ (b : List ℕ). from.bytes ++ b)
      (sym ((edges-placed levels g Outer None 0).writes empty from.order (length from.bytes)));
  order = s.order;
  kept = tt;
}
puts-graph levels g new from to (Err e) s = record { done = tt; order = s.order; kept = s.kept }
