use Rattle.td_types.proofs.Tables.{Reached}
use Rattle.td_types.proofs.interfaces.all_reached.Given as goal

abbrev pub invariant-loop-entry : goal.invariant-loop-entry
invariant-loop-entry l = Reached l.declared l.reached l.entry-index
