use Rattle.std.proofs.Common.{ℕ, suc, ◌≡◌, ◌<◌, ◌≤◌, ◌+◌, true, false, IsTrue, List, length, slice_index, sym, ap, ◌∙◌, refl, ⊎_elim, arith}
use Rattle.std.proofs.lemmas.Bool.{ne_eqb, eq-eqb, cases_lt}
use Rattle.tc_graph.specs.declared.node.Node.{Node}
use Rattle.tc_graph.specs.Nodes.{node_at, is_alias, edge}
use Rattle.tc_graph.specs.Aliases.{AliasChain}
use Rattle.tc_graph.proofs.BareSteps.{at-node}
use Rattle.tc_graph.proofs.Chains.{chain-none, chain-more, chain-follow, ends-apart, never-back}
use Rattle.tc_graph.proofs.loops.is_in_loop.Goals as goal

no_answer : IsTrue false → ⊥
no_answer h = cc

pub loop-step-init : goal.loop-step-init
loop-step-init c = record {
  within = c.requires.within;
  chain = chain-none c.args.nodes.now c.args.start;
  none = λ k l. absurd (omega (arith, l));
}

pub returns-then-node-ne-ALIAS : goal.returns-then-node-ne-ALIAS
returns-then-node-ne-ALIAS c =
    let g = c.args.nodes.now in
    let i = c.loop-step.place in
    let e : node_at g i ≡ c.index-nodes-place.result = at-node g i _ c.loop-step.invariant.within c.index-nodes-place.is in
    let no_alias : is_alias (node_at g i) ≡ false = ap is_alias e ∙ ne_eqb _ _ c.if-node-ne-ALIAS.true in (
      λ h. absurd (no_answer h),
      λ back. absurd
          (ends-apart c.loop-step._step g c.args.start i c.loop-step.invariant.chain c.loop-step.invariant.none no_alias back),
    )

pub returns-then-place-start : goal.returns-then-place-start
returns-then-place-start c =
    let g = c.args.nodes.now in
    let i = c.loop-step.place in
    let e : node_at g i ≡ c.index-nodes-place.result = at-node g i _ c.loop-step.invariant.within c.index-nodes-place.is in
    let yes : is_alias (node_at g i) ≡ true = ap is_alias e ∙ eq-eqb _ _ c.if-node-ne-ALIAS.false in
    let here : edge (node_at g i) 0 ≡ c.args.start =
    ap (λ (x : Node). edge x 0) e ∙ ap (λ (xs : List ℕ). slice_index xs 0) (sym c.as_slice.ensures) ∙ c.if-place-start.true in
    let chain : AliasChain (c.loop-step._step + 1) g c.args.start (edge (node_at g i) 0) =
    chain-more c.loop-step._step g c.args.start i c.loop-step.invariant.chain yes in
    let n : c.loop-step._step + 1 ≡ suc c.loop-step._step = omega arith in
    (λ _. (c.loop-step._step, rw (n, here) at chain), λ _. refl)

pub loop-step-preserved : goal.loop-step-preserved
loop-step-preserved c =
    let g = c.args.nodes.now in
    let i = c.loop-step.place in
    let e : node_at g i ≡ c.index-nodes-place.result = at-node g i _ c.loop-step.invariant.within c.index-nodes-place.is in
    let yes : is_alias (node_at g i) ≡ true = ap is_alias e ∙ eq-eqb _ _ c.if-node-ne-ALIAS.false in
    let some : 0 < length (node_at g i).edges = omega (arith, c.requires.closed.aliases i c.loop-step.invariant.within yes) in
    let here : edge (node_at g i) 0 ≡ slice_index c.as_slice.result.now 0 =
    ap (λ (x : Node). edge x 0) e ∙ ap (λ (xs : List ℕ). slice_index xs 0) (sym c.as_slice.ensures) in
    let chain : AliasChain (c.loop-step._step + 1) g c.args.start (edge (node_at g i) 0) =
    chain-more c.loop-step._step g c.args.start i c.loop-step.invariant.chain yes in
    record {
      within = rw (← here) (c.requires.closed.within i 0 c.loop-step.invariant.within some);
      chain = rw (← here) chain;
      none = λ k l back. ⊎_elim
          (λ (lt : k < c.loop-step._step). c.loop-step.invariant.none k lt back)
          (λ (ge : c.loop-step._step ≤ k).
          let n : suc k ≡ c.loop-step._step + 1 = omega (arith, l, ge) in
          let back_again = rw n at back in
          c.if-place-start.false
          (sym here ∙ sym (chain-follow (c.loop-step._step + 1) g c.args.start _ chain)
          ∙ chain-follow (c.loop-step._step + 1) g c.args.start c.args.start back_again))
          (cases_lt k c.loop-step._step);
    }

pub returns : goal.returns
returns c =
    let g = c.args.nodes.now in (
      λ h. absurd (no_answer h),
      λ back. absurd
          (never-back g c.args.start c.requires.closed c.requires.within
          (λ k l. c.loop-step.invariant.none k (omega (arith, l))) back),
    )
