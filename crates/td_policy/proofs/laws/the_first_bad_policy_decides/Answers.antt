use Rattle.td_policy.proofs.Decided.{first_decides, next_decides}
use Rattle.td_policy.proofs.laws.the_first_bad_policy_decides.Goals as goal

pub returns-clause-first : goal.returns-clause-first
returns-clause-first c = first_decides

pub returns-clause-next : goal.returns-clause-next
returns-clause-next c = next_decides
