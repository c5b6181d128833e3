use Rattle.std.proofs.Common.{◌≡◌, map, take}
use Rattle.td_typecode.specs.declared.code.Value.TheVariants as value
use Rattle.td_policy.proofs.writing.text_values.Given as goal

abbrev pub invariant-loop-item : goal.invariant-loop-item
invariant-loop-item l = l.values ≡ map (λ x. value.Str x) (take l.item-index l.items)
