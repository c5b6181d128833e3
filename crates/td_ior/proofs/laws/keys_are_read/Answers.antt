use Rattle.td_ior.proofs.Keys.{keys-agree, written-found, one-key}
use Rattle.td_ior.proofs.laws.keys_are_read.Goals as goal

pub returns-clause-agrees : goal.returns-clause-agrees
returns-clause-agrees c = keys-agree

pub returns-clause-one_key : goal.returns-clause-one_key
returns-clause-one_key c = one-key

pub returns-clause-back : goal.returns-clause-back
returns-clause-back c = written-found
