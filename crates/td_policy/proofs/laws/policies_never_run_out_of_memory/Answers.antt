use Rattle.td_policy.proofs.Answered.{stated-answered}
use Rattle.td_policy.proofs.laws.policies_never_run_out_of_memory.Goals as goal

pub returns : goal.returns
returns c = stated-answered
