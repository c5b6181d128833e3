use Rattle.td_servant.proofs.FirstBatch.{batched}
use Rattle.td_servant.proofs.listing.put_first.Goals as goal

pub returns-in-Ok-clause-puts : goal.returns-in-Ok-clause-puts
returns-in-Ok-clause-puts c = λ home own.
    batched home c.args.label.trader c.args.n c.args.left c.first_batch.new.self c.args.label.reference c.args.w.now
    c.first_batch.new.w c.args.desk.now c.keep.new.desk c.in-Ok.more own c.in-Ok.ensures.batch c.keep.ensures
