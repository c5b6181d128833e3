use Rattle.td_ior.proofs.Texts.{texts-agree, printed-found, made-admitted}
use Rattle.td_ior.proofs.laws.texts_are_read.Goals as goal

pub returns-clause-agrees : goal.returns-clause-agrees
returns-clause-agrees c = texts-agree

pub returns-clause-back : goal.returns-clause-back
returns-clause-back c = printed-found

pub returns-clause-made : goal.returns-clause-made
returns-clause-made c = made-admitted
