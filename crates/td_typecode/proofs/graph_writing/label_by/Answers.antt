use Rattle.td_typecode.proofs.PlacedWriting.{label-none}
use Rattle.td_typecode.proofs.graph_writing.label_by.Goals as goal

pub returns-in_default : goal.returns-in_default
returns-in_default c =
    let n = c.in_default in
    label-none c.args.switch c.args.number n.not-Short n.not-UShort n.not-Long n.not-ULong n.not-Enum n.not-LongLong
    n.not-ULongLong n.not-Boolean n.not-Char
