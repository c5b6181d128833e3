use Rattle.td_log_laws.proofs.Shortness.{made-short}
use Rattle.td_log_laws.proofs.Weighing.{made-fits, made-small}
use Rattle.td_log_laws.proofs.laws.made_logs_are_short.Goals as goal

pub returns-clause-lines : goal.returns-clause-lines
returns-clause-lines c = made-short

pub returns-clause-bytes : goal.returns-clause-bytes
returns-clause-bytes c = made-small

pub returns-clause-fits : goal.returns-clause-fits
returns-clause-fits c = made-fits
