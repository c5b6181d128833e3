use Rattle.td_cell.specs.Passes.{knowledge}
use Rattle.td_desk.proofs.Ordering.{stays_in_order}
use Rattle.td_desk.specs.declared.act.Act.TheVariants as act
use Rattle.td_desk.specs.declared.act.Reply.TheVariants as reply
use Rattle.td_desk.proofs.shared.SharedDesk.add.Goals as goal

pub returns-clause-order : goal.returns-clause-order
returns-clause-order g c =
    stays_in_order (knowledge c.args.pass.now) (knowledge c.turn.new.pass) c.args.pass.now.knows (act.Add c.args.entry)
    (reply.Added c.in-Added.back) c.requires.drawn c.in-Added.ensures.turned
