use Rattle.td_call.proofs.Judging.{at_limit, first_of_raw}
use Rattle.td_call.proofs.fetching.is_whole.Goals as goal

pub returns-in-Err-clause-found : goal.returns-in-Err-clause-found
returns-in-Err-clause-found c = at_limit c.args.framer.now _ c.requires c.in-Err.ensures.found

pub returns-in-Ok-None-clause-found : goal.returns-in-Ok-None-clause-found
returns-in-Ok-None-clause-found c =
    at_limit c.args.framer.now _ c.requires (rw c.in-Ok-None.field-0-is at c.in-Ok-None.ensures.found)

pub returns-in-Ok-Some-clause-found : goal.returns-in-Ok-Some-clause-found
returns-in-Ok-Some-clause-found c =
    (_, first_of_raw c.args.framer.now _ c.requires (rw c.in-Ok-Some.field-0-is at c.in-Ok-Some.ensures.found))
