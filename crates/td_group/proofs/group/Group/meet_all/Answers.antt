use Rattle.std.proofs.Common.{arith, rules, ◌∙◌}
use Rattle.std.proofs.lemmas.List.{nil_from_length}
use Rattle.td_group.specs.Grouping.{IsOpeningOf}
use Rattle.td_group.proofs.Passing.{meets_all, content_inside, content_met, content_ready}
use Rattle.td_group.proofs.RowLaws.{zip_length}
use Rattle.td_group.proofs.group.Group.meet_all.Goals as goal

-- Of the loop: invariant.0 the opening passes, invariant.1 what is out, invariant.2 what they lead to.

pub loop-pass-init : goal.loop-pass-init
loop-pass-init c = (c.requires.opening, c.requires.out, λ qs f. f)

pub index-requires : goal.index-requires
index-requires c =
    let s = c.loop-pass in
    omega (
      arith,
      content_inside c.args.self.now.cells.items s.passes.items s.content.items c.pop.new.self.items
          c.in-Some.pass c.in-Some.ensures.items s.invariant.0 s.invariant.1,
      c.args.self.now.cells.ok.0,
      c.pop.new.self.ok.0,
      c.len-k.ensures,
    )

pub index_mut-requires : goal.index_mut-requires
index_mut-requires c =
    let s = c.loop-pass in
    omega (
      arith,
      content_inside c.args.self.now.cells.items s.passes.items s.content.items c.pop.new.self.items
          c.in-Some.pass c.in-Some.ensures.items s.invariant.0 s.invariant.1,
      zip_length IsOpeningOf
          c.args.self.now.cells.items s.passes.items s.invariant.0,
      s.passes.ok.0,
      c.pop.new.self.ok.0,
      c.len-k.ensures,
    )

pub meet-requires-clause-own : goal.meet-requires-clause-own
meet-requires-clause-own c =
    let s = c.loop-pass in
    let h = content_ready c.args.self.now.cells.items s.passes.items s.content.items c.pop.new.self.items c.in-Some.pass
    c.in-Some.ensures.items s.invariant.0 s.invariant.1 c.len-k.result c.index.result.now c.index_mut.result.now
    (omega (arith, c.pop.new.self.ok.0, c.len-k.ensures)) c.index.ensures c.index_mut.ensures.value in
    (h.0.belongs, h.1.of_cell ∙ h.0.belongs)

pub meet-requires-clause-opening : goal.meet-requires-clause-opening
meet-requires-clause-opening c =
    let s = c.loop-pass in
    let h = content_ready c.args.self.now.cells.items s.passes.items s.content.items c.pop.new.self.items c.in-Some.pass
    c.in-Some.ensures.items s.invariant.0 s.invariant.1 c.len-k.result c.index.result.now c.index_mut.result.now
    (omega (arith, c.pop.new.self.ok.0, c.len-k.ensures)) c.index.ensures c.index_mut.ensures.value in
    h.0.opening

pub meet-requires-clause-split_off : goal.meet-requires-clause-split_off
meet-requires-clause-split_off c =
    let s = c.loop-pass in
    let h = content_ready c.args.self.now.cells.items s.passes.items s.content.items c.pop.new.self.items c.in-Some.pass
    c.in-Some.ensures.items s.invariant.0 s.invariant.1 c.len-k.result c.index.result.now c.index_mut.result.now
    (omega (arith, c.pop.new.self.ok.0, c.len-k.ensures)) c.index.ensures c.index_mut.ensures.value in
    h.1.split

pub loop-pass-preserved : goal.loop-pass-preserved
loop-pass-preserved c =
    let s = c.loop-pass in
    content_met c.args.self.now.cells.items s.passes.items s.content.items c.pop.new.self.items c.in-Some.pass
    c.in-Some.ensures.items s.invariant.0 s.invariant.1 c.len-k.result c.index.result.now c.index_mut.result.now
    (omega (arith, c.pop.new.self.ok.0, c.len-k.ensures)) c.index.ensures c.index_mut.ensures.value
    c.args.passes.now.items c.args.content.items c.meet.new.pass s.invariant.2 (record {
      same_cell = c.meet.ensures.own;
      opening = c.meet.ensures.opening;
      met = c.meet.ensures.met;
      learned = c.meet.ensures.learned;
    })

pub returns-clause-met : goal.returns-clause-met
returns-clause-met c =
    meets_all _ _ _ _ (nil_from_length c.loop-pass.content.items (search rules)) c.loop-pass.invariant.2
