use Rattle.std.proofs.Common.{arith, sym, ◌∙◌}
use Rattle.td_group.specs.Grouping.{IsOpeningOf}
use Rattle.td_group.proofs.Closed.{met_all, met_on, unmet_so}
use Rattle.td_group.proofs.RowLaws.{zip_at, zip_length}
use Rattle.td_group.proofs.group.Group.is_whole.Goals as goal

pub index-requires : goal.index-requires
index-requires c =
    let n = zip_length IsOpeningOf c.args.self.now.cells.items c.args.passes.now.items c.requires in
    omega (arith, n, c.args.self.now.cells.ok.0, c.args.passes.now.ok.0)

pub whole-requires-clause-own : goal.whole-requires-clause-own
whole-requires-clause-own c =
    let cs = c.args.self.now.cells.items in
    let ps = c.args.passes.now.items in
    let n = zip_length IsOpeningOf cs ps c.requires in
    (zip_at IsOpeningOf cs ps c.loop-k.k c.index.result.now c.index-in-loop-k.result.now c.requires (omega (
      arith,
      n,
      c.args.passes.now.ok.0,
    )) c.index.ensures c.index-in-loop-k.ensures).belongs

pub whole-requires-clause-opening : goal.whole-requires-clause-opening
whole-requires-clause-opening c =
    let cs = c.args.self.now.cells.items in
    let ps = c.args.passes.now.items in
    let n = zip_length IsOpeningOf cs ps c.requires in
    (zip_at IsOpeningOf cs ps c.loop-k.k c.index.result.now c.index-in-loop-k.result.now c.requires (omega (
      arith,
      n,
      c.args.passes.now.ok.0,
    )) c.index.ensures c.index-in-loop-k.ensures).opening

pub loop-k-preserved : goal.loop-k-preserved
loop-k-preserved c =
    met_on c.args.passes.now.items c.loop-k.k c.index-in-loop-k.result.now (omega (arith, c.args.passes.now.ok.0))
    c.index-in-loop-k.ensures (sym c.whole.ensures ∙ c.if-not-whole.false) c.loop-k.invariant

pub returns-then-not-whole : goal.returns-then-not-whole
returns-then-not-whole c =
    unmet_so c.args.passes.now.items c.loop-k.k c.index-in-loop-k.result.now (omega (arith, c.args.passes.now.ok.0))
    c.index-in-loop-k.ensures (sym c.whole.ensures ∙ c.if-not-whole.true) c.loop-k.invariant

pub returns : goal.returns
returns c =
    met_all c.args.passes.now.items c.loop-k.k (omega (arith, c.args.passes.now.ok.0)) c.loop-k.invariant
