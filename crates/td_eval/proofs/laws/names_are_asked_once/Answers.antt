use Rattle.td_eval.proofs.Once.{each_once, just_those}
use Rattle.td_eval.proofs.laws.names_are_asked_once.Goals as goal

pub returns-clause-once : goal.returns-clause-once
returns-clause-once c = each_once

pub returns-clause-mentioned : goal.returns-clause-mentioned
returns-clause-mentioned c = just_those
