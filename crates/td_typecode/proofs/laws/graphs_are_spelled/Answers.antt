use Rattle.td_typecode.specs.GraphCodes.{edges}
use Rattle.td_typecode.proofs.GraphsWhole.{graphs-whole}
use Rattle.td_typecode.proofs.laws.graphs_are_spelled.Goals as goal

pub returns-clause-read : goal.returns-clause-read
returns-clause-read c = λ levels mode chain. (edges levels mode chain).joins

pub returns-clause-refused : goal.returns-clause-refused
returns-clause-refused c = λ levels mode chain. (edges levels mode chain).refuses

pub returns-clause-written : goal.returns-clause-written
returns-clause-written c = λ levels mode chain. (edges levels mode chain).transfers

pub returns-clause-whole : goal.returns-clause-whole
returns-clause-whole c = graphs-whole
