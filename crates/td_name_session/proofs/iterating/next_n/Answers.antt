use Rattle.td_name_session.proofs.Invoking.{puts_some}
use Rattle.td_name_session.proofs.iterating.next_n.Goals as goal

pub returns-clause-ok : goal.returns-clause-ok
returns-clause-ok c =
    puts_some c.args.n c.args.left.now c.next_n.new.self c.args.w.now c.next_n.new.w c.in_ok-_more._more
    c.in_ok-_more.ensures.batch c.next_n.ensures.order c.in_ok-_more.ensures.some
