use Rattle.std.proofs.Common.{◌<◌, ◌≤◌, length, sym, ◌∙◌, arith}
use Rattle.tc_edges.proofs.Noting.{before-none, grown, all-noted}
use Rattle.tc_edges.proofs.spellings.note_all.Goals as goal

pub loop-place-init : goal.loop-place-init
loop-place-init c = record {
  size = c.requires.size;
  each = λ j lt. c.requires.blank.each j ∙ sym (before-none c.args.graph.now j);
}

pub loop-place-preserved : goal.loop-place-preserved
loop-place-preserved c = record {
  size = c.note_edges.ensures.size ∙ c.loop-place.invariant.size;
  each = λ j lt.
      let inside : j < length c.loop-place.table = omega (arith, lt, c.loop-place.invariant.size) in
      rw c.edges_of.ensures.value at (c.note_edges.ensures.each j inside)
      ∙ grown c.args.graph.now c.loop-place.place j _ (c.loop-place.invariant.each j lt);
}

pub returns : goal.returns
returns c =
    let all : length c.args.graph.now ≤ c.loop-place.place = omega (arith, c.loop-place-test.false, c.len-count.ensures.value) in
    all-noted c.args.graph.now c.loop-place.place c.loop-place.table all c.loop-place.invariant.size
    c.loop-place.invariant.each
