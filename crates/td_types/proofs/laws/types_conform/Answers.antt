use Rattle.td_types.proofs.Chained.{chain_of, of_chain}
use Rattle.td_types.proofs.Outcomes.{conforms-itself, conforms-on}
use Rattle.td_types.proofs.laws.types_conform.Goals as goal

pub returns-clause-test : goal.returns-clause-test
returns-clause-test c =
    λ r a b valid. (chain_of r.types a b valid.founded, of_chain r.types a b valid.founded)

pub returns-clause-reflexive : goal.returns-clause-reflexive
returns-clause-reflexive c = conforms-itself

pub returns-clause-transitive : goal.returns-clause-transitive
returns-clause-transitive c = λ r a b d valid h k. conforms-on r.types a b d valid.founded h k
