use Rattle.std.specs.Option.{option_copied}
use Rattle.td_name_session.proofs.Invoking.{puts_one}
use Rattle.td_name_session.proofs.iterating.next_one.Goals as goal

pub returns-clause-ok : goal.returns-clause-ok
returns-clause-ok c =
    puts_one (option_copied c.first.result) c.args.left.now c.pass.new.left c.args.w.now c.put_next_one.new.w
    (rw c.left.ensures at c.first.ensures.value) c.in_ok-put_next_one.ensures.done c.put_next_one.ensures.order
    c.pass.ensures
