use Rattle.td_types.proofs.Start.{no_entries, no_types_in}
use Rattle.td_types.proofs.types.Types.new.Goals as goal

pub invariant_of-result : goal.invariant_of-result
invariant_of-result c = no_entries _ _ c.new-2.ensures

pub returns-clause-valid : goal.returns-clause-valid
returns-clause-valid c = no_types_in _ _ c.new-2.ensures
