use Rattle.td_changes.proofs.Extending.{legal-empty, extended}
use Rattle.td_changes.proofs.laws.histories_are_legal.Goals as goal

pub returns-clause-empty : goal.returns-clause-empty
returns-clause-empty c = legal-empty

pub returns-clause-extended : goal.returns-clause-extended
returns-clause-extended c = extended
