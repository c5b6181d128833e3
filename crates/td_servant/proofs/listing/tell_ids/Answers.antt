use Rattle.td_servant.proofs.FirstBatch.{tell_first}
use Rattle.td_servant.proofs.listing.tell_ids.Goals as goal

pub returns-in-Ok-clause-puts : goal.returns-in-Ok-clause-puts
returns-in-Ok-clause-puts c =
    tell_first c.args.home.now c.args.name.now c.in-Ok.label.trader c.args.n c.next_number.result c.args.ids
    c.in-Some.left c.in-Ok.label.reference c.args.w.now c.put_first.new.w c.args.desk.now c.put_first.new.desk
    c.put_first.result c.in-Ok.ensures.trader c.in-Some.ensures c.in-Ok.ensures.reference c.next_number.ensures
    c.put_first.ensures.puts
