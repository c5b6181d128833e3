use Rattle.std.proofs.Common.{refl}
use Rattle.td_cdr.specs.Reading.{cell_at, number_at, octets_at, string_at, encapsulation_at}
use Rattle.td_typecode.proofs.OutermostRows.{worked-outermost}
use Rattle.td_typecode.proofs.laws.worked_graphs.Goals as goal

pub returns-clause-graph : goal.returns-clause-graph
unfolding cell_at number_at octets_at string_at encapsulation_at
returns-clause-graph c = record {
  read = refl;
  written = refl;
  shown = refl;
  astray = refl;
}

pub returns-clause-outermost : goal.returns-clause-outermost
returns-clause-outermost c = worked-outermost
