use Rattle.std.proofs.Common.{◌∙◌}
use Rattle.td_shared_names.proofs.Passing.{meet_keeps_out, opening_met}
use Rattle.td_shared_names.specs.Sharing.{MeetsPass}
use Rattle.td_shared_names.proofs.shared.SharedNames.meet.Goals as goal

pub meet-requires-clause-own : goal.meet-requires-clause-own
meet-requires-clause-own c = (c.requires.opening.belongs, c.requires.out.of_cell ∙ c.requires.opening.belongs)

pub returns-clause-opening : goal.returns-clause-opening
returns-clause-opening c =
    let m : MeetsPass c.args.pass.now c.args.ended c.meet.new.pass = record {
      same_cell = c.meet.ensures.own;
      opening = c.meet.ensures.opening;
      met = c.meet.ensures.met;
      learned = c.meet.ensures.learned;
    } in
    opening_met c.args.self.now.cell c.args.pass.now c.args.ended c.meet.new.pass c.requires.opening m

pub returns-clause-stays : goal.returns-clause-stays
returns-clause-stays c =
    let m : MeetsPass c.args.pass.now c.args.ended c.meet.new.pass = record {
      same_cell = c.meet.ensures.own;
      opening = c.meet.ensures.opening;
      met = c.meet.ensures.met;
      learned = c.meet.ensures.learned;
    } in
    meet_keeps_out c.args.pass.now c.args.ended c.meet.new.pass m
