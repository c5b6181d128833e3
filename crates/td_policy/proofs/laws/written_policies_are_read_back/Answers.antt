use Rattle.td_policy.proofs.ReadBack.{truth_back, number_back, rule_back, texts_back, octets_back}
use Rattle.td_policy.proofs.laws.written_policies_are_read_back.Goals as goal

pub returns-clause-truth : goal.returns-clause-truth
returns-clause-truth c = truth_back

pub returns-clause-number : goal.returns-clause-number
returns-clause-number c = number_back

pub returns-clause-rule : goal.returns-clause-rule
returns-clause-rule c = rule_back

pub returns-clause-texts : goal.returns-clause-texts
returns-clause-texts c = texts_back

pub returns-clause-octets : goal.returns-clause-octets
returns-clause-octets c = octets_back
