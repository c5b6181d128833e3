use Rattle.std.proofs.Common.{◌≡◌, ◌<◌, ◌≤◌, ◌*◌, true, false, IsTrue, List, length, sym, ap, ◌∙◌, refl, arith, subst}
use Rattle.std.proofs.lemmas.List.{get_or_default}
use Rattle.tc_graph.specs.declared.node.Node.{Node}
use Rattle.tc_graph.specs.declared.pairs.Pair.{Pair}
use Rattle.tc_graph.specs.Nodes.{node_at}
use Rattle.tc_graph.specs.Aliases.{bare}
use Rattle.tc_graph.specs.Sameness.{Matches, Alike, Same}
use Rattle.tc_graph.specs.Pairs.{PairTable, pair_at, AddsOnly}
use Rattle.tc_graph.proofs.BareSteps.{at-node}
use Rattle.tc_graph.proofs.Exploring.{explored-first, explored-step, explored-all, explored-apart}
use Rattle.tc_graph.proofs.same.same_nodes.Goals as goal

pub loop-at-init : goal.loop-at-init
loop-at-init c =
    let g = c.args.left.now in
    let h = c.args.right.now in
    let empty = c.in_ok-pairs.ensures.value in
    let ls = c.in_ok-lefts.lefts.items in
    let rs = c.in_ok-rights.rights.items in
    let first : c.index.result.now ≡ bare g 0 =
    c.index.ensures ∙ get_or_default ls 0 _ 0 (omega (arith, c.in_ok-lefts.ensures.len, c.requires.left_some))
    ∙ c.in_ok-lefts.ensures.each 0 c.requires.left_some in
    let second : c.index-2.result.now ≡ bare h 0 =
    c.index-2.ensures ∙ get_or_default rs 0 _ 0 (omega (arith, c.in_ok-rights.ensures.len, c.requires.right_some))
    ∙ c.in_ok-rights.ensures.each 0 c.requires.right_some in
    let pair : Pair = record { left = c.index.result.now; right = c.index-2.result.now } in
    record {
      rows = c.in_ok-insert.ensures.rows ∙ ap (λ (t : PairTable). t.rows) empty;
      columns = c.in_ok-insert.ensures.columns ∙ ap (λ (t : PairTable). t.columns) empty;
      found =
          explored-first g h c.insert.new.self.pairs pair first second c.in_ok-insert.ensures.here
          (subst (λ (ps : List Pair). AddsOnly pair ps c.insert.new.self.pairs) (ap (λ (t : PairTable). t.pairs) empty)
          c.in_ok-insert.ensures.only);
    }

pub returns-then-not-nodes_match : goal.returns-then-not-nodes_match
returns-then-not-nodes_match c =
    let g = c.args.left.now in
    let h = c.args.right.now in
    let ps = c.loop-at.pairs.pairs in
    let at = c.loop-at.at in
    let f = c.loop-at.invariant.found in
    let below : at < length ps = omega (arith, c.loop-at-test.true, c.len.ensures.value) in
    let pair = c.get-pair.result in
    let here : pair ≡ pair_at ps at = c.get-pair.ensures.value in
    let in_left : pair.left < length g = omega (arith, c.get-pair.ensures.left, c.loop-at.invariant.rows) in
    let in_right : pair.right < length h = omega (arith, c.get-pair.ensures.right, c.loop-at.invariant.columns) in
    let left : node_at g pair.left ≡ c.index-left-pair.result = at-node g pair.left _ in_left c.index-left-pair.is in
    let right : node_at h pair.right ≡ c.index-right-pair.result = at-node h pair.right _ in_right c.index-right-pair.is in
    let apart : Matches c.index-left-pair.result c.index-right-pair.result → ⊥ =
    λ m. let a : c.nodes_match.result ≡ true = c.nodes_match.ensures.1 m in cc (a, c.if-not-nodes_match.true) in
    let deep : at < length g * length h =
    let most : c.len.result ≤ length g * length h = rw (c.loop-at.invariant.rows, c.loop-at.invariant.columns) at c.len.ensures.most in
    omega (arith, c.loop-at-test.true, most) in
    let none : Alike (length g * length h) g 0 h 0 → ⊥ =
    explored-apart g h ps at (length g * length h) f below deep (λ m. apart (rw (← left, ← right, here) m)) in
    let no_value : IsTrue false → ⊥ = λ e. cc in
    record {
      value = (λ e. absurd (no_value e), λ same. absurd (none (same (length g * length h))));
      depth = (λ e. absurd (no_value e), λ a. absurd (none a));
      err = tt;
    }

pub add_ends-requires-clause-left_in : goal.add_ends-requires-clause-left_in
add_ends-requires-clause-left_in c =
    let g = c.args.left.now in
    let pair = c.get-pair.result in
    let in_left : pair.left < length g = omega (arith, c.get-pair.ensures.left, c.loop-at.invariant.rows) in
    let left : node_at g pair.left ≡ c.index-left-pair.result = at-node g pair.left _ in_left c.index-left-pair.is in
    let es : c.as_slice.result.now ≡ (node_at g pair.left).edges = c.as_slice.ensures ∙ ap (λ (x : Node). x.edges) (sym left) in
    rw (es, c.as_slice-in-loop-at-2.ensures.value, c.in_ok-lefts.ensures.len)
    (λ k l. c.requires.left.within pair.left k in_left l)

pub add_ends-requires-clause-right_in : goal.add_ends-requires-clause-right_in
add_ends-requires-clause-right_in c =
    let h = c.args.right.now in
    let pair = c.get-pair.result in
    let in_right : pair.right < length h = omega (arith, c.get-pair.ensures.right, c.loop-at.invariant.columns) in
    let right : node_at h pair.right ≡ c.index-right-pair.result = at-node h pair.right _ in_right c.index-right-pair.is in
    let es : c.as_slice-in-loop-at.result.now ≡ (node_at h pair.right).edges = c.as_slice-in-loop-at.ensures ∙ ap (λ (x : Node). x.edges) (sym right) in
    rw (es, c.as_slice-in-loop-at-3.ensures.value, c.in_ok-rights.ensures.len)
    (λ k l. c.requires.right.within pair.right k in_right l)

pub loop-at-preserved : goal.loop-at-preserved
loop-at-preserved c =
    let g = c.args.left.now in
    let h = c.args.right.now in
    let ps = c.loop-at.pairs.pairs in
    let at = c.loop-at.at in
    let f = c.loop-at.invariant.found in
    let below : at < length ps = omega (arith, c.loop-at-test.true, c.len.ensures.value) in
    let pair = c.get-pair.result in
    let here : pair ≡ pair_at ps at = c.get-pair.ensures.value in
    let in_left : pair.left < length g = omega (arith, c.get-pair.ensures.left, c.loop-at.invariant.rows) in
    let in_right : pair.right < length h = omega (arith, c.get-pair.ensures.right, c.loop-at.invariant.columns) in
    let left : node_at g pair.left ≡ c.index-left-pair.result = at-node g pair.left _ in_left c.index-left-pair.is in
    let right : node_at h pair.right ≡ c.index-right-pair.result = at-node h pair.right _ in_right c.index-right-pair.is in
    let m : Matches c.index-left-pair.result c.index-right-pair.result =
    c.nodes_match.ensures.0 (let a : c.nodes_match.result ≡ true = cc (c.if-not-nodes_match.false) in a) in
    record {
      rows = c.in_ok-add_ends.ensures.rows ∙ c.loop-at.invariant.rows;
      columns = c.in_ok-add_ends.ensures.columns ∙ c.loop-at.invariant.columns;
      found =
          explored-step g h ps c.add_ends.new.pairs.pairs at pair c.index-left-pair.result c.index-right-pair.result
          c.as_slice-in-loop-at-2.result.now c.as_slice-in-loop-at-3.result.now c.as_slice.result.now
          c.as_slice-in-loop-at.result.now f below here left right m c.as_slice.ensures c.as_slice-in-loop-at.ensures
          (rw c.as_slice-in-loop-at-2.ensures.value c.in_ok-lefts.ensures.each)
          (rw c.as_slice-in-loop-at-3.ensures.value c.in_ok-rights.ensures.each)
          (λ k l. rw (← left) (c.requires.left.within pair.left k in_left (rw left l)))
          (λ k l. rw (← right) (c.requires.right.within pair.right k in_right (rw right l)))
          c.in_ok-add_ends.ensures.adds;
    }

pub returns : goal.returns
returns c =
    let all : Same c.args.left.now c.args.right.now =
    explored-all c.args.left.now c.args.right.now c.loop-at.pairs.pairs c.loop-at.at c.loop-at.invariant.found (omega arith) in
    record {
      value = (λ _. all, λ _. refl);
      depth = (λ _. all (length c.args.left.now * length c.args.right.now), λ _. refl);
      err = tt;
    }
