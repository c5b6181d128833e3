use Rattle.std.proofs.Common.{◌≡◌, drop, None}
use Rattle.td_ior.specs.Texts.{cut_last}
use Rattle.td_ior.proofs.text.cut_last.Given as goal

-- no comma from here on
abbrev pub invariant-loop-end : goal.invariant-loop-end
invariant-loop-end l = cut_last (drop l.end l.word) ≡ None
