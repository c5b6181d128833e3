use Rattle.td_call.proofs.Judging.{at_limit, readable, reads_bad, reads_message}
use Rattle.td_call.proofs.front.front_evaluation.Goals as goal

pub returns-in-Err-clause-reads : goal.returns-in-Err-clause-reads
returns-in-Err-clause-reads c = reads_bad _ _ c.args.framer.now _ c.requires c.in-Err.ensures.found

pub returns-in-Ok-None-clause-reads : goal.returns-in-Ok-None-clause-reads
returns-in-Ok-None-clause-reads c =
    at_limit c.args.framer.now _ c.requires (rw c.in-Ok-None.field-0-is at c.in-Ok-None.ensures.found)

pub read_evaluation_in-requires : goal.read_evaluation_in-requires
read_evaluation_in-requires c = readable c.args.framer.now _ c.requires
    (rw c.in-Ok-Some.field-0-is at c.in-Ok-Some.ensures.found)

pub returns-in-Ok-Some-clause-reads : goal.returns-in-Ok-Some-clause-reads
returns-in-Ok-Some-clause-reads c =
    reads_message _ _ c.args.framer.now _ c.read_evaluation_in.result c.requires
    (rw c.in-Ok-Some.field-0-is at c.in-Ok-Some.ensures.found) c.read_evaluation_in.ensures.reads
