use Rattle.td_cell.specs.Passes.{knowledge}
use Rattle.td_desk.proofs.Ordering.{drawable, may_be_used, stays_in_order}
use Rattle.td_desk.specs.declared.act.Act.TheVariants as act
use Rattle.td_desk.specs.declared.act.Reply.TheVariants as reply
use Rattle.td_desk.proofs.shared.SharedDesk.draw.Goals as goal

pub returns-clause-order : goal.returns-clause-order
returns-clause-order g c =
    stays_in_order (knowledge c.args.pass.now) (knowledge c.turn.new.pass) c.args.pass.now.knows act.Draw
    (reply.Drawn c.in-Drawn.drawn) tt c.in-Drawn.ensures.turned

pub returns-clause-usable : goal.returns-clause-usable
returns-clause-usable g c =
    may_be_used (knowledge c.args.pass.now) (knowledge c.turn.new.pass) c.args.pass.now.knows c.in-Drawn.drawn
    c.in-Drawn.ensures.turned

pub returns-clause-within : goal.returns-clause-within
returns-clause-within g c =
    drawable (knowledge c.args.pass.now) (knowledge c.turn.new.pass) c.in-Drawn.drawn c.in-Drawn.ensures.turned
