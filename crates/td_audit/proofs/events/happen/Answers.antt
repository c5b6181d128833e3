use Rattle.td_audit.proofs.Happening.{stays-sound}
use Rattle.td_audit.proofs.events.happen.Goals as goal

pub returns-in-Ok-clause-sound : goal.returns-in-Ok-clause-sound
returns-in-Ok-clause-sound c =
    stays-sound c.args.net.now c.on.new.self c.args.event c.requires.sound c.in-Ok.ensures
