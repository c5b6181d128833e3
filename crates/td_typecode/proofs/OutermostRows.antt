-- The worked examples of outermost TypeCodes.
use Rattle.std.proofs.Common.{refl}
use Rattle.tc_graph.specs.Aliases.{bare_within}
use Rattle.td_cdr.specs.Reading.{cell_at, number_at, signed_at, octets_at, string_at, encapsulation_at}
use Rattle.td_typecode.specs.Codes.{code_formats}
use Rattle.td_typecode.specs.Labels.{spelled_labels}
use Rattle.td_typecode.specs.OutermostExamples.{WorkedOutermost}

pub worked-outermost : WorkedOutermost
unfolding cell_at number_at signed_at octets_at string_at encapsulation_at code_formats spelled_labels bare_within
worked-outermost = record {
  itself = refl;
  written = refl;
  astray = refl;
  shared_read = refl;
  shared_written = refl;
  by_turns_read = refl;
  alias_of_itself_read = refl;
  to_another = refl;
  at_an_odd_place_read = refl;
}
