use Rattle.td_typecode.proofs.ReadParts.{object-read}
use Rattle.td_typecode.proofs.reading.object_of.Goals as goal

pub returns : goal.returns
returns c = object-read c.args.r.now c.header_of.new.r c.in_ok-header.header c.in_ok-header.ensures
