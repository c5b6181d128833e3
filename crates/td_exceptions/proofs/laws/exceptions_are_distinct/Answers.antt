use Rattle.std.proofs.Common.{refl}
use Rattle.td_exceptions.proofs.Apart.{id-tells, written-apart}
use Rattle.td_exceptions.proofs.NoNul.{user_id-clean}
use Rattle.td_exceptions.proofs.laws.exceptions_are_distinct.Goals as goal

pub returns-clause-id : goal.returns-clause-id
returns-clause-id c = λ e. refl

pub returns-clause-text : goal.returns-clause-text
returns-clause-text c = user_id-clean

pub returns-clause-members : goal.returns-clause-members
returns-clause-members c = id-tells

pub returns-clause-apart : goal.returns-clause-apart
returns-clause-apart c = written-apart
