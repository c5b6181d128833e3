use Rattle.std.proofs.Common.{◌≡◌, drop}
use Rattle.td_store.specs.Candidates.{has_dynamic}
use Rattle.td_visit.proofs.searching.has_dynamic.Given as goal

abbrev pub invariant-loop-property : goal.invariant-loop-property
invariant-loop-property l = has_dynamic (drop l.property-index l.properties) ≡ has_dynamic l.properties
