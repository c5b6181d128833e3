use Rattle.td_stream.proofs.Ends.{writes_of}
use Rattle.td_stream.proofs.outbox.Outbox.write_error.Goals as goal

pub returns-clause-written : goal.returns-clause-written
returns-clause-written g c = writes_of _ _ _ _ c.args.error.now c.write_all.result c.write_all.ensures.writes
