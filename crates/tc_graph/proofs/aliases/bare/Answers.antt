use Rattle.std.proofs.Common.{suc, ◌≡◌, ◌<◌, ◌+◌, ◌-◌, length, slice_index, true, false, sym, ap, ◌∙◌, arith}
use Rattle.std.proofs.lemmas.Bool.{ne_eqb, eq-eqb}
use Rattle.tc_graph.specs.declared.node.Node.{Node}
use Rattle.tc_graph.specs.Nodes.{node_at, is_alias, edge}
use Rattle.tc_graph.proofs.BareSteps.{at-node, bare-ends, bare-goes, bare-none}
use Rattle.tc_graph.proofs.aliases.bare.Goals as goal

pub returns-then-node-ne-ALIAS-clause-value : goal.returns-then-node-ne-ALIAS-clause-value
returns-then-node-ne-ALIAS-clause-value c =
    let g = c.args.nodes.now in
    let i = c.loop-step.place in
    let e : node_at g i ≡ c.index-nodes-place.result = at-node g i _ c.loop-step.invariant.within c.index-nodes-place.is in
    let no : is_alias (node_at g i) ≡ false = ap is_alias e ∙ ne_eqb _ _ c.if-node-ne-ALIAS.true in
    sym (bare-ends (length g - c.loop-step._step) g i no) ∙ c.loop-step.invariant.same

pub loop-step-preserved : goal.loop-step-preserved
loop-step-preserved c =
    let g = c.args.nodes.now in
    let i = c.loop-step.place in
    let p = c.index-nodes-place.result in
    let e : node_at g i ≡ p = at-node g i _ c.loop-step.invariant.within c.index-nodes-place.is in
    let yes : is_alias (node_at g i) ≡ true = ap is_alias e ∙ eq-eqb _ _ c.if-node-ne-ALIAS.false in
    let some : 0 < length (node_at g i).edges = omega (arith, c.requires.closed.aliases i c.loop-step.invariant.within yes) in
    let here : edge (node_at g i) 0 ≡ slice_index c.as_slice.result.now 0 =
    ap (λ (x : Node). edge x 0) e ∙ ap (λ (xs : _). slice_index xs 0) (sym c.as_slice.ensures) in
    record {
      within = rw (← here) (c.requires.closed.within i 0 c.loop-step.invariant.within some);
      same =
          let n : length g - c.loop-step._step ≡ suc (length g - (c.loop-step._step + 1)) = omega arith in
          rw (← here) (sym (bare-goes (length g - (c.loop-step._step + 1)) g i yes) ∙ (rw n at c.loop-step.invariant.same));
    }

pub returns-clause-value : goal.returns-clause-value
returns-clause-value c =
    let g = c.args.nodes.now in
    let n : length g - c.loop-step._step ≡ 0 = omega arith in
    sym (bare-none g c.loop-step.place) ∙ (rw n at c.loop-step.invariant.same)
