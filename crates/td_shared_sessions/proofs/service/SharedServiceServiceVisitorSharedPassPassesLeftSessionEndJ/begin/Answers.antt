use Rattle.td_cell.specs.Passes.{knowledge}
use Rattle.td_sessions.proofs.Taking.{splits_first, splits_keep}
use Rattle.td_shared_sessions.proofs.Desks.{desk_first, desk_keeps, out_of, world_is}
use Rattle.td_shared_sessions.proofs.service.SharedServiceServiceVisitorSharedPassPassesLeftSessionEndJ.begin.Goals as goal

pub returns-in-Ok-split-clause-seen : goal.returns-in-Ok-split-clause-seen
returns-in-Ok-split-clause-seen g c =
    world_is _ _ _ _ (splits_keep _ _ _ c.in-Ok.ensures.split)
    (desk_keeps (knowledge c.args.self.now.desk_pass) (knowledge c.split.new.pass) c.in-Ok-split.ensures.opening)

pub returns-in-Ok-split-clause-sees : goal.returns-in-Ok-split-clause-sees
returns-in-Ok-split-clause-sees g c =
    world_is _ _ _ _ (splits_first _ _ _ c.in-Ok.ensures.split)
    (desk_first (knowledge c.args.self.now.desk_pass) (knowledge c.in-Ok-split.pass) c.in-Ok-split.ensures.split_off)

pub returns-in-Ok-split-clause-waits : goal.returns-in-Ok-split-clause-waits
returns-in-Ok-split-clause-waits g c = (
  c.in-Ok.ensures.out,
  out_of c.args.self.now.desk_pass c.in-Ok-split.pass c.split.new.pass c.in-Ok-split.ensures.own.0
      c.in-Ok-split.ensures.own.1 c.in-Ok-split.ensures.opening c.in-Ok-split.ensures.split_off,
)
