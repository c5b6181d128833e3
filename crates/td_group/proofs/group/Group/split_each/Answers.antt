use Rattle.std.proofs.Common.{slice_set, sym, subst, arith}
use Rattle.std.proofs.lemmas.List.{nil_from_length}
use Rattle.td_group.specs.Grouping.{IsOpeningOf, SplitsOff}
use Rattle.td_group.specs.Rows.{DropsFront}
use Rattle.td_group.proofs.Passing.{on_err, split_on, split_stops}
use Rattle.td_group.proofs.RowLaws.{front_length, front_none, front_rows, zip_at, zip_length}
use Rattle.td_group.proofs.group.Group.split_each.Goals as goal

pub index_mut-requires : goal.index_mut-requires
index_mut-requires c =
    let n = zip_length IsOpeningOf c.args.self.now.cells.items c.loop-k.passes.items c.loop-k.invariant.0 in
    omega (arith, c.args.self.now.cells.ok.0, c.loop-k.passes.ok.0)

pub split-requires-clause-own : goal.split-requires-clause-own
split-requires-clause-own c =
    (zip_at IsOpeningOf c.args.self.now.cells.items c.loop-k.passes.items c.loop-k.k c.index.result.now
    c.index_mut.result.now c.loop-k.invariant.0 (omega (arith, c.args.self.now.cells.ok.0)) c.index.ensures
    c.index_mut.ensures.value).belongs

pub split-requires-clause-opening : goal.split-requires-clause-opening
split-requires-clause-opening c =
    (zip_at IsOpeningOf c.args.self.now.cells.items c.loop-k.passes.items c.loop-k.k c.index.result.now
    c.index_mut.result.now c.loop-k.invariant.0 (omega (arith, c.args.self.now.cells.ok.0)) c.index.ensures
    c.index_mut.ensures.value).opening

pub loop-k-init : goal.loop-k-init
loop-k-init c = (
  c.requires.opening,
  front_none SplitsOff _ _ (nil_from_length c.args.out.now.items (omega (
    arith,
    c.requires.room.0,
    c.args.out.now.ok.0,
  ))),
  c.requires.room.0,
  c.requires.room.1,
)

pub push_reserved-requires : goal.push_reserved-requires
push_reserved-requires c = omega (arith, c.loop-k.invariant.2, c.loop-k.invariant.3)

pub loop-k-preserved : goal.loop-k-preserved
loop-k-preserved c =
    let i = c.loop-k.invariant in
    let h = split_on c.args.self.now.cells.items c.args.passes.now.items c.loop-k.passes.items c.loop-k.out.items
    c.loop-k.k c.index.result.now c.index_mut.result.now c.in_ok-pass.pass c.split.new.pass i.0 i.1 (omega (
      arith,
      c.loop-k.out.ok.0,
      i.2,
    )) (omega (arith, c.args.self.now.cells.ok.0)) c.index.ensures c.index_mut.ensures.value
    (record {
      same_cell = c.in_ok-pass.ensures.own.0;
      of_cell = c.in_ok-pass.ensures.own.1;
      opening = c.in_ok-pass.ensures.opening;
      out = c.in_ok-pass.ensures.split_off;
    }) in (
      h.1,
      subst (λ ts. DropsFront SplitsOff ts c.args.passes.now.items (slice_set c.loop-k.passes.items c.loop-k.k
          c.split.new.pass)) (sym c.push_reserved.ensures.items) h.0,
      omega (arith, i.2, c.push_reserved.ensures.len),
      omega (arith, i.3, c.push_reserved.ensures.capacity),
    )

pub returns-in_err-pass-clause-opening : goal.returns-in_err-pass-clause-opening
returns-in_err-pass-clause-opening c =
    let i = c.loop-k.invariant in
    (split_stops c.args.self.now.cells.items c.args.passes.now.items c.loop-k.passes.items c.loop-k.out.items c.loop-k.k
    c.index.result.now c.index_mut.result.now c.split.new.pass i.0 i.1 (omega (arith, c.loop-k.out.ok.0, i.2))
    (omega (arith, c.args.self.now.cells.ok.0)) c.index.ensures c.index_mut.ensures.value
    (record { same_cell = c.in_err-pass.ensures.err.0; knows = c.in_err-pass.ensures.err.1 })).1

pub returns-in_err-pass-clause-err : goal.returns-in_err-pass-clause-err
returns-in_err-pass-clause-err c =
    let i = c.loop-k.invariant in
    let stops = split_stops c.args.self.now.cells.items c.args.passes.now.items c.loop-k.passes.items
    c.loop-k.out.items c.loop-k.k c.index.result.now c.index_mut.result.now c.split.new.pass i.0 i.1 (omega (
      arith,
      c.loop-k.out.ok.0,
      i.2,
    )) (omega (arith, c.args.self.now.cells.ok.0)) c.index.ensures c.index_mut.ensures.value
    (record { same_cell = c.in_err-pass.ensures.err.0; knows = c.in_err-pass.ensures.err.1 }) in
    on_err c.from_residual.result stops.0

pub returns-clause-split : goal.returns-clause-split
returns-clause-split c =
    let i = c.loop-k.invariant in
    let n = zip_length IsOpeningOf c.args.self.now.cells.items c.loop-k.passes.items i.0 in
    let m = front_length SplitsOff c.loop-k.out.items c.args.passes.now.items c.loop-k.passes.items i.1 in
    front_rows SplitsOff c.loop-k.out.items c.args.passes.now.items c.loop-k.passes.items (omega (
      arith,
      i.2,
      c.loop-k.out.ok.0,
      c.args.self.now.cells.ok.0,
    )) i.1
