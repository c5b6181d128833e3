use Rattle.td_typecode.proofs.ReadParts.{enum-read}
use Rattle.td_typecode.proofs.reading.enum_of.Goals as goal

pub returns : goal.returns
returns c =
    enum-read c.args.r.now c.header_of.new.r c.boxed_names_of.new.r c.in_ok-header.header c.in_ok-labels.labels
    c.in_ok-header.ensures c.in_ok-labels.ensures
