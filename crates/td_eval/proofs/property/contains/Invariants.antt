use Rattle.std.proofs.Common.{◌≡◌, ◌||◌, drop, option_map}
use Rattle.std.specs.List.{list_any}
use Rattle.td_eval.specs.Comparing.{equals}
use Rattle.td_eval.specs.Kinds.{all_under}
use Rattle.td_eval.specs.Operands.{view}
use Rattle.td_eval.proofs.property.contains.Given as goal

abbrev pub invariant-loop-value : goal.invariant-loop-value
invariant-loop-value l =
    option_map (λ xs. l.found || list_any (equals (view l.item)) xs) (all_under l.kind (drop l.value-index l.items))
    ≡ option_map (list_any (equals (view l.item))) (all_under l.kind l.items)
