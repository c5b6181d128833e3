use Rattle.td_naming.proofs.Remembering.{unchanged}
use Rattle.td_naming.specs.Alone.{solo_view}
use Rattle.td_naming.proofs.naming.NamingNames.live.Goals as goal

pub returns-clause-live : goal.returns-clause-live
returns-clause-live c = record { meanwhile = unchanged (solo_view c.args.self.now); content = c.live.ensures }
