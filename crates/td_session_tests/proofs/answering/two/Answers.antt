use Rattle.td_session_tests.proofs.ReadValues.{boxed_admitted}
use Rattle.td_session_tests.proofs.answering.two.Goals as goal

pub returns-in-Ok : goal.returns-in-Ok
returns-in-Ok c = boxed_admitted c.new.result c.in-Ok.any c.in-Ok.ensures.admitted c.new.ensures
