use Rattle.td_names.proofs.Leading.{keys-agree, reference-back, references-agree}
use Rattle.td_names.proofs.laws.references_name_their_contexts.Goals as goal

pub returns-clause-keys : goal.returns-clause-keys
returns-clause-keys c = keys-agree

pub returns-clause-agrees : goal.returns-clause-agrees
returns-clause-agrees c = references-agree

pub returns-clause-back : goal.returns-clause-back
returns-clause-back c = reference-back
