use Rattle.td_log.proofs.Worked.{events, logs, messages, values}
use Rattle.td_log.proofs.laws.worked_lines.Goals as goal

pub returns : goal.returns
returns c = record { events = events; values = values; messages = messages; logs = logs }
