use Rattle.td_typecode.specs.Layers.{value-code}
use Rattle.td_typecode.specs.Outermost.{outer_piece}
use Rattle.td_typecode.proofs.WrittenParts.{puts-whole}
use Rattle.td_typecode.proofs.writing_values.put_code_in.Goals as goal

pub returns-in-Code : goal.returns-in-Code
returns-in-Code c =
    rw (c.in-Code.is, value-code c.in-Code.code)
    (puts-whole (outer_piece c.args.levels c.in-Code.code) c.args.w.now c.write_outer.new.w c.write_outer.result
    (rw c.get.ensures at c.write_outer.ensures))
