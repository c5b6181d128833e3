use Rattle.std.proofs.Common.{arith, rules}
use Rattle.std.proofs.lemmas.List.{nil_from_length}
use Rattle.td_group.specs.Grouping.{IsReady}
use Rattle.td_group.proofs.Closed.{closed_all, closes_first, closes_on, ready_on}
use Rattle.td_group.proofs.RowLaws.{zip_length}
use Rattle.td_group.proofs.group.close_all.Goals as goal

pub loop-cell-init : goal.loop-cell-init
loop-cell-init c = (
  c.requires.ready,
  omega (arith, c.requires.room.0, c.requires.room.1),
  closes_first c.args.cells.items c.args.passes.items c.args.kept.items (nil_from_length c.args.kept.items (omega (
    arith,
    c.requires.room.0,
    c.args.kept.ok.0,
  ))),
)

pub take_last-pass-requires : goal.take_last-pass-requires
take_last-pass-requires c =
    let s = c.loop-cell in
    omega (
      arith,
      zip_length IsReady s.cells.items s.passes.items s.invariant.0,
      s.cells.ok.0,
      s.passes.ok.0,
      c.in-Some.ensures.cases,
    )

pub close_one-requires : goal.close_one-requires
close_one-requires c =
    (ready_on _ _ _ _ c.in-Some.cell c.take_last-pass.result c.in-Some.ensures.items c.take_last-pass.ensures.items
    c.loop-cell.invariant.0).1

pub push_reserved-requires : goal.push_reserved-requires
push_reserved-requires c = omega (arith, c.loop-cell.invariant.1, c.in-Some.ensures.cases)

pub loop-cell-preserved : goal.loop-cell-preserved
loop-cell-preserved c =
    let i = c.loop-cell.invariant in
    let one = c.in-Some.ensures.items in
    let two = c.take_last-pass.ensures.items in (
      (ready_on _ _ _ _ c.in-Some.cell c.take_last-pass.result one two i.0).0,
      omega (arith, i.1, c.in-Some.ensures.cases, c.push_reserved.ensures.len, c.push_reserved.ensures.capacity),
      closes_on _ _ _ _ _ _ _ _ c.in-Some.cell c.take_last-pass.result c.close_one.result one two
          c.push_reserved.ensures.items i.2 c.close_one.ensures,
    )

pub returns : goal.returns
returns c =
    let s = c.loop-cell in
    let i = s.invariant in
    closed_all c.args.cells.items s.cells.items c.args.passes.items s.passes.items s.kept.items
    c.reverse.new.self.items (nil_from_length c.loop-cell.cells.items (search rules)) c.reverse.ensures.items i.0 i.2
