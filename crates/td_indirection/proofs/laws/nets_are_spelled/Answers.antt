use Rattle.td_indirection.specs.Nets.{edge}
use Rattle.td_indirection.proofs.laws.nets_are_spelled.Goals as goal

pub returns-clause-read : goal.returns-clause-read
returns-clause-read c = λ levels. (edge levels).joins

pub returns-clause-refused : goal.returns-clause-refused
returns-clause-refused c = λ levels. (edge levels).refuses

pub returns-clause-written : goal.returns-clause-written
returns-clause-written c = λ levels. (edge levels).transfers
