use Rattle.td_typecode.specs.Outermost.{outer}
use Rattle.td_typecode.proofs.laws.outermost_codes_are_spelled.Goals as goal

pub returns-clause-lawful : goal.returns-clause-lawful
returns-clause-lawful c = λ levels. (outer levels).lawful

pub returns-clause-refuses : goal.returns-clause-refuses
returns-clause-refuses c = λ levels. (outer levels).refuses
