use Rattle.td_types.proofs.Placing.{Placed}
use Rattle.td_types.proofs.places.places_of.Given as goal

abbrev pub invariant-loop-place : goal.invariant-loop-place
invariant-loop-place l = Placed l.declared l.ids l.places l.place
