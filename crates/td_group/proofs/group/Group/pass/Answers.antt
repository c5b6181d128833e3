use Rattle.std.proofs.Common.{◌∙◌}
use Rattle.td_group.proofs.Passing.{all_out, before_keeps_out, of_cells, of_sound, of_names, split_keeps_out}
use Rattle.td_group.proofs.group.Group.pass.Goals as goal

pub new-requires-clause-belongs : goal.new-requires-clause-belongs
new-requires-clause-belongs g c = of_cells _ _ _ _ c.requires c.in-Ok.ensures.split

pub new-requires-clause-named : goal.new-requires-clause-named
new-requires-clause-named g c = of_names _ _ _ _ c.requires c.in-Ok.ensures.split ∙ c.args.self.now.named

pub new-requires-clause-sound : goal.new-requires-clause-sound
new-requires-clause-sound g c = of_sound _ _ _ _ c.requires c.in-Ok.ensures.split c.args.self.now.sound

pub returns-in-Ok-clause-out : goal.returns-in-Ok-clause-out
returns-in-Ok-clause-out g c = rw c.new.ensures.passes (all_out _ _ _ c.in-Ok.ensures.split)

pub returns-in-Ok-clause-split : goal.returns-in-Ok-clause-split
returns-in-Ok-clause-split g c = rw c.new.ensures.passes c.in-Ok.ensures.split

pub returns-in-Ok-clause-stays : goal.returns-in-Ok-clause-stays
returns-in-Ok-clause-stays g c = split_keeps_out _ _ _ c.in-Ok.ensures.split

pub returns-in-Err-clause-stays : goal.returns-in-Err-clause-stays
returns-in-Err-clause-stays g c = before_keeps_out _ _ c.in-Err.ensures.err
