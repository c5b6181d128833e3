use Rattle.std.proofs.Common.{refl}
use Rattle.td_changes.specs.Applying.{comes_to}
use Rattle.td_file.specs.Files.{opening_of}
use Rattle.td_file.specs.Openings.{new_store}
use Rattle.td_lines.proofs.OnLiterals.{links_on_literals, types_on_literals}
use Rattle.td_types.specs.Calls.{add_type as add}
use Rattle.td_types.specs.Conforming.{ancestors}
use Rattle.td_types.specs.Interfaces.{interface_conforms, leads_within}
use Rattle.td_types.specs.Properties.{full_properties}
use Rattle.td_file.proofs.laws.worked_openings.Goals as goal

pub returns-clause-twice : goal.returns-clause-twice
unfolding opening_of types_on_literals new_store comes_to add ancestors full_properties interface_conforms
    leads_within
returns-clause-twice c = refl

pub returns-clause-first : goal.returns-clause-first
unfolding opening_of types_on_literals new_store comes_to add ancestors full_properties interface_conforms
    leads_within
returns-clause-first c = refl

pub returns-clause-set : goal.returns-clause-set
unfolding opening_of links_on_literals new_store comes_to
returns-clause-set c = refl
