use Rattle.td_cell.specs.Passes.{knowledge}
use Rattle.td_group.proofs.Passing.{still_out}
use Rattle.td_sessions.proofs.Taking.{joins_all}
use Rattle.td_shared_sessions.proofs.Desks.{desk_joins}
use Rattle.td_shared_sessions.proofs.service.SharedServiceServiceVisitorSharedPassPassesLeftSessionEndJ.end.Goals as goal

pub take_in-requires-clause-out : goal.take_in-requires-clause-out
take_in-requires-clause-out g c = still_out _ _ _ c.requires.came.2.0 c.requires.came.1.0

pub returns-in-Ok-clause-joins : goal.returns-in-Ok-clause-joins
returns-in-Ok-clause-joins g c = (
  joins_all _ _ _ c.take_in.ensures.met,
  desk_joins (knowledge c.args.self.now.desk_pass) (knowledge c.args.left.pass) (knowledge c.meet.new.pass)
      c.meet.ensures.learned,
)
