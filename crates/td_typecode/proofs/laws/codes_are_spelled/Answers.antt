use Rattle.td_typecode.specs.Codes.{codes, code_formats}
use Rattle.td_typecode.proofs.laws.codes_are_spelled.Goals as goal

pub returns-clause-lawful : goal.returns-clause-lawful
returns-clause-lawful c = λ levels mode. (codes levels mode).lawful

pub returns-clause-refuses : goal.returns-clause-refuses
returns-clause-refuses c = λ levels mode. (codes levels mode).refuses

pub returns-clause-written : goal.returns-clause-written
returns-clause-written c = λ levels mode. (code_formats levels mode).writes
