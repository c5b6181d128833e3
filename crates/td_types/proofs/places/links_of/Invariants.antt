use Rattle.td_types.proofs.Placing.{Linked}
use Rattle.td_types.proofs.places.links_of.Given as goal

abbrev pub invariant-loop-entry : goal.invariant-loop-entry
invariant-loop-entry l = Linked l.declared l.links.items l.entry-index
