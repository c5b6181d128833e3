use Rattle.td_check.proofs.Counted.{as_many_listed}
use Rattle.td_check.proofs.counting.count_types.Goals as goal

pub returns-in-Ok-Names : goal.returns-in-Ok-Names
returns-in-Ok-Names c =
    as_many_listed c.args.store.now.types c.in-Ok-Names.field-0 c.in-Ok-Names.names c.len.result c.len.ensures
    c.in-Ok-Names.field-0-is c.in-Ok-Names.ensures.answer
