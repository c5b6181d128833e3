use Rattle.std.proofs.Common.{◌≡◌, ◌≤◌, length, drop}
use Rattle.td_eval.specs.Expansion.{expansion}
use Rattle.td_eval.proofs.Parts.{rest_of}
use Rattle.td_eval.proofs.expansion.expand_recipe.Given as goal

abbrev pub invariant-loop-part : goal.invariant-loop-part
invariant-loop-part l =
    (rest_of l.constraint l.map l.out.items (drop l.part-index l.parts) ≡ expansion l.constraint l.map l.parts)
    × (length l.out.items ≤ 65536)
