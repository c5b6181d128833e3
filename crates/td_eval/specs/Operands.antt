-- Simple values as they are held while an expression is evaluated.
use Rattle.td_eval.specs.declared.simple.Simple.{Simple}
use Rattle.td_eval.specs.declared.simple.Simple.TheVariants as simple
use Rattle.td_eval.specs.declared.simple.Operand.{Operand}
use Rattle.td_eval.specs.declared.simple.Operand.TheVariants.{Number, Text, Truth}

-- the value that an operand is
abbrev pub view : Operand → Simple
view (Number n d) = simple.Number n d
view (Text t) = simple.Text t.now
view (Truth p) = simple.Truth p
