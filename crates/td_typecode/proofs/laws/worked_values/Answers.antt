use Rattle.std.proofs.Common.{refl}
use Rattle.td_cdr.specs.Reading.{cell_at, number_at, signed_at}
use Rattle.td_typecode.specs.declared.code.Value.{out-Value}
use Rattle.tc_edges.specs.Edges.{spelled_before}
use Rattle.td_typecode.specs.NodeValues.{value_at_node}
use Rattle.td_typecode.specs.Values.{left}
use Rattle.td_typecode.proofs.laws.worked_values.Goals as goal

pub returns : goal.returns
unfolding left value_at_node spelled_before cell_at number_at signed_at out-Value denote.Hole.Carrier.out denote.Hole.Carrier.shown denote.Hole.Carrier.hidden Rattle.td_typecode.specs.declared.code.TypeCode.TheBlock.shown-the_row-Value-6
returns c = record {
  read = refl;
  written = refl;
  deepest = refl;
  too_deep = refl;
  last_level = refl;
  passed = refl;
  twice = refl;
  twice_too_deep = refl;
}
