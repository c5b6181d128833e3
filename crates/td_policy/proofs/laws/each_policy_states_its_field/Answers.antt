use Rattle.td_policy.proofs.Fields.{alone_states, apart, there}
use Rattle.td_policy.proofs.laws.each_policy_states_its_field.Goals as goal

pub returns : goal.returns
returns c = record { alone = alone_states; there = there; apart = apart }
