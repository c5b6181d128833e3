use Rattle.td_cdr.specs.Sound.{text}
use Rattle.td_typecode.specs.Layers.{value-str}
use Rattle.td_typecode.proofs.WrittenParts.{puts-added}
use Rattle.td_typecode.proofs.writing_values.put_text_in.Goals as goal

pub returns-in-Str : goal.returns-in-Str
returns-in-Str c =
    rw (c.in-Str.is, value-str c.in-Str.text)
    (puts-added (text.format.writes c.in-Str.text) c.args.w.now c.string.new.self c.string.result
    (rw c.as_slice.ensures at c.string.ensures))
