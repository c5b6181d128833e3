-- An entry of a trader's history: an accepted change with its reply.
use Rattle.td_ops.specs.declared.call.Change.{Change}
use Rattle.td_ops.specs.declared.outcome.Reply.{Reply}
use Rattle.td_register.specs.declared.history.Accepted.{Accepted}

abbrev pub entry : Change → Reply → Accepted
entry c reply = record { change = c; reply = reply }
