use Rattle.std.proofs.Common.{subst, sym}
use Rattle.td_group.specs.Grouping.{IsTakenOut}
use Rattle.td_group.proofs.Closed.{taken_out}
use Rattle.td_group.proofs.group.close_one.Goals as goal

pub returns : goal.returns
returns c =
    subst (IsTakenOut c.args.cell c.args.pass) (sym c.shared_trader.view_is)
    (taken_out c.args.cell c.args.pass c.in-Ok.shared_trader c.requires.met c.in-Ok.ensures.later.0 c.in-Ok.ensures.later.1
    c.in-Ok.ensures.places)
