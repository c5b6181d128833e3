use Rattle.std.proofs.Common.{sym}
use Rattle.td_name_session.proofs.Invoking.{batch_iterates, gone_iterates}
use Rattle.td_name_session.proofs.iterators.batch.Goals as goal
use Rattle.td_name_session.specs.Invoking.{batch_call}

pub returns-in-Some : goal.returns-in-Some
returns-in-Some c =
    batch_iterates c.args.number c.args.w.now c.args.desk.now c.give.result c.give.new.w c.args.label.now
    c.args.how_many c.in-Some.left.now c.give.new.left c.requires.label (sym c.in-Some.ensures.value) c.give.ensures

pub returns-in-None : goal.returns-in-None
returns-in-None c =
    gone_iterates c.args.number c.args.w.now c.args.desk.now c.plain.result c.args.w.now c.args.label.now
    (batch_call c.args.how_many) c.system.result c.requires.label (sym c.in-None.ensures.value) c.system.ensures
    c.plain.ensures.body c.plain.ensures.accepted
