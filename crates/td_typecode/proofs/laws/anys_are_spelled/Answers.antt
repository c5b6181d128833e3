use Rattle.td_typecode.specs.Values.{anys}
use Rattle.td_typecode.proofs.laws.anys_are_spelled.Goals as goal

pub returns-clause-lawful : goal.returns-clause-lawful
returns-clause-lawful c = λ levels. (anys levels).lawful

pub returns-clause-refuses : goal.returns-clause-refuses
returns-clause-refuses c = λ levels. (anys levels).refuses
