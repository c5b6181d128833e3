use Rattle.std.proofs.Common.{sym, ◌∙◌}
use Rattle.td_shared_names.proofs.Passing.{split_home}
use Rattle.td_shared_names.proofs.Passing.{split_sound}
use Rattle.td_shared_names.specs.Sharing.{SplitsOff}
use Rattle.td_shared_names.proofs.shared.SharedNames.pass.Goals as goal

pub new-requires-clause-belongs : goal.new-requires-clause-belongs
new-requires-clause-belongs g c = c.in-Ok.ensures.own.1 ∙ c.requires.belongs

pub new-requires-clause-here : goal.new-requires-clause-here
new-requires-clause-here g c =
    let s : SplitsOff c.args.pass.now c.in-Ok.split c.split.new.pass = record {
      same_cell = c.in-Ok.ensures.own.0;
      of_cell = c.in-Ok.ensures.own.1;
      opening = c.in-Ok.ensures.opening;
      out = c.in-Ok.ensures.split_off;
    } in
    split_home c.args.self.now.cell _ _ _ c.requires s ∙ sym c.args.self.now.here

pub new-requires-clause-sound : goal.new-requires-clause-sound
new-requires-clause-sound g c =
    let s : SplitsOff c.args.pass.now c.in-Ok.split c.split.new.pass = record {
      same_cell = c.in-Ok.ensures.own.0;
      of_cell = c.in-Ok.ensures.own.1;
      opening = c.in-Ok.ensures.opening;
      out = c.in-Ok.ensures.split_off;
    } in
    split_sound c.args.self.now.cell _ _ _ c.requires s c.args.self.now.sound
