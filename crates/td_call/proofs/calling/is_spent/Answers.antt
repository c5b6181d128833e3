use Rattle.td_call.proofs.Emptiness.{bad_held, none_held, whole_held}
use Rattle.td_call.proofs.calling.is_spent.Goals as goal

pub returns-in-Err-clause-spent : goal.returns-in-Err-clause-spent
returns-in-Err-clause-spent c = bad_held c.args.framer.now _ c.in-Err.ensures.found

pub returns-in-Ok-None-clause-spent : goal.returns-in-Ok-None-clause-spent
returns-in-Ok-None-clause-spent c =
    none_held c.args.framer.now c.ended_inside.result c.is_none-none_began.result
    (rw c.in-Ok-None.field-0-is at c.in-Ok-None.ensures.found) c.ended_inside.ensures c.is_none-none_began.ensures

pub returns-in-Ok-Some-clause-spent : goal.returns-in-Ok-Some-clause-spent
returns-in-Ok-Some-clause-spent c =
    whole_held c.args.framer.now _ (rw c.in-Ok-Some.field-0-is at c.in-Ok-Some.ensures.found)
