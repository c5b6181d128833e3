use Rattle.td_log_laws.proofs.Made.{made-pass, made-right}
use Rattle.td_log_laws.proofs.laws.made_logs_pass.Goals as goal

pub returns-clause-passes : goal.returns-clause-passes
returns-clause-passes c = made-pass

pub returns-clause-right : goal.returns-clause-right
returns-clause-right c = made-right c.verdicts_are_one.ensures
