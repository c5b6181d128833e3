use Rattle.std.proofs.Common.{refl}
use Rattle.td_command.specs.Runs.{first_scene}
use Rattle.td_command_laws.proofs.laws.histories_grow_by_own_changes.Goals as goal

pub returns : goal.returns
returns c = λ o seeded end before after s k.
    c.alone_histories_grow_by_own_changes.ensures o.home (first_scene o seeded) s.later s.serves.turns o.traders s.traders
    s.serves.run refl s.alone k
