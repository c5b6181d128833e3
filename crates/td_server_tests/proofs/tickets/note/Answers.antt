use Rattle.std.proofs.Common.{rules}
use Rattle.td_server_tests.specs.Tickets.{not_in}
use Rattle.td_server_tests.proofs.tickets.note.Goals as goal

pub returns-in-Ok-clause-apart : goal.returns-in-Ok-clause-apart
returns-in-Ok-clause-apart c = λ place. not_in _ _ place (search rules)
