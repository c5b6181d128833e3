use Rattle.std.proofs.Common.{subst}
use Rattle.td_remote_query.specs.Draining.{HasWritable, TellsWritable}
use Rattle.td_remote_query.proofs.draining.join_answer.Goals as goal

pub join_batch-requires-clause-writable : goal.join_batch-requires-clause-writable
join_batch-requires-clause-writable c =
    subst HasWritable c.in-Batch.is (subst TellsWritable c.in-Done.is c.requires.writable)
