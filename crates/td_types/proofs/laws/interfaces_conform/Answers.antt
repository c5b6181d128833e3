use Rattle.td_types.proofs.Chains.{conforms-from_relation, relation-from_conforms, joined}
use Rattle.td_types.proofs.laws.interfaces_conform.Goals as goal

pub returns-clause-test : goal.returns-clause-test
returns-clause-test c =
    λ declared sub base. (relation-from_conforms declared sub base, conforms-from_relation declared sub base)

pub returns-clause-transitive : goal.returns-clause-transitive
returns-clause-transitive c = joined
