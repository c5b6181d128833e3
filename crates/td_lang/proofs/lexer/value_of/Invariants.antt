use Rattle.std.proofs.Common.{◌<◌, ◌^◌, ◌≡◌, drop}
use Rattle.td_lang.specs.Lexing.{value_of}
use Rattle.td_lang.proofs.lexer.value_of.Given as goal

abbrev pub invariant-loop-b : goal.invariant-loop-b
invariant-loop-b l = (l.value < 2 ^ 63) × (value_of 0 l.digits ≡ value_of l.value (drop l.b-index l.digits))
