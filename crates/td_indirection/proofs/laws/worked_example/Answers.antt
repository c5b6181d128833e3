use Rattle.std.proofs.Common.{refl}
use Rattle.td_cdr.specs.Reading.{cell_at, number_at, octets_at, encapsulation_at}
use Rattle.td_indirection.proofs.laws.worked_example.Goals as goal

pub returns-clause-read : goal.returns-clause-read
unfolding cell_at number_at octets_at encapsulation_at
returns-clause-read c = refl

pub returns-clause-written : goal.returns-clause-written
returns-clause-written c = refl
