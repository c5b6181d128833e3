use Rattle.td_servant.proofs.FirstBatch.{cut_ids}
use Rattle.td_servant.proofs.listing.tell_found.Goals as goal

pub returns-in-Ok-clause-cuts : goal.returns-in-Ok-clause-cuts
returns-in-Ok-clause-cuts c =
    cut_ids c.args.home.now c.args.name.now c.args.n c.args.found c.args.w.now c.tell_ids.new.w c.args.desk.now
    c.tell_ids.new.desk c.in-Ok.ids c.tell_ids.result c.in-Ok.ensures c.tell_ids.ensures.written
    c.tell_ids.ensures.puts
