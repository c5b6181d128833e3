use Rattle.std.proofs.Common.{arith, sym, ◌∙◌}
use Rattle.td_group.proofs.MadeMarks.{marks_at}
use Rattle.td_group.proofs.Taken.{belongs_at, cell_inside, kept_cells, kept_names, kept_numbers, pass_follows}
use Rattle.td_group.proofs.Taken.{one_turn, stay_sound, turn_seen}
use Rattle.td_group.proofs.pass.GroupPass.turn.Goals as goal

pub index-requires : goal.index-requires
index-requires g c =
    let s = c.args.self.now in
    omega (arith, s.cells.now.ok.0, cell_inside s.passes.items s.cells.now.items c.args.trader s.belongs c.requires)

pub turn-requires : goal.turn-requires
turn-requires g c =
    let s = c.args.self.now in
    belongs_at s.passes.items s.cells.now.items c.args.trader s.belongs c.requires c.index_mut.result.now
    c.index.result.now c.index_mut.ensures.value c.index.ensures

pub invariant_of-self : goal.invariant_of-self
invariant_of-self g c =
    let s = c.args.self.now in
    let p = c.index_mut.result.now in
    let q = c.turn.new.pass in
    let is = c.index_mut.ensures.value in
    let follows = pass_follows p q c.args.a c.turn.result c.turn.ensures.turned in record {
      belongs = kept_cells s.passes.items c.args.trader p q is c.turn.ensures.own ∙ s.belongs;
      named = kept_names s.passes.items c.args.trader p q is follows ∙ s.named;
      distinct = s.distinct;
      sound = stay_sound s.passes.items c.args.trader p q is c.requires follows s.sound;
    }

pub returns-clause-same : goal.returns-clause-same
returns-clause-same g c =
    let s = c.args.self.now in
    let p = c.index_mut.result.now in
    let q = c.turn.new.pass in
    let is = c.index_mut.ensures.value in (
      sym (kept_cells s.passes.items c.args.trader p q is c.turn.ensures.own),
      sym (kept_numbers s.passes.items c.args.trader p q is c.turn.ensures.same.number),
    )

pub returns-clause-turned : goal.returns-clause-turned
returns-clause-turned g c =
    let s = c.args.self.now in
    turn_seen s.passes.items c.args.trader c.index_mut.result.now c.turn.new.pass c.index_mut.ensures.value c.args.a
    c.turn.result c.turn.ensures.turned c.requires

pub returns-clause-once : goal.returns-clause-once
returns-clause-once g c =
    let s = c.args.self.now in
    one_turn s.passes.items c.args.trader c.index_mut.result.now c.turn.new.pass c.index_mut.ensures.value
    c.turn.ensures.once c.requires

pub returns-clause-marks : goal.returns-clause-marks
returns-clause-marks g c =
    let s = c.args.self.now in
    marks_at s.passes.items c.args.trader c.index_mut.result.now c.turn.new.pass c.index_mut.ensures.value c.args.a
    c.turn.result c.turn.ensures.turned c.requires
