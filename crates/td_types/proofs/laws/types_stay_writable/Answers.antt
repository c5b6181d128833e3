use Rattle.td_types.proofs.Additions.{adding-written}
use Rattle.td_types.proofs.Admitted.{new-written, properties-written, described-written, fully_described-written}
use Rattle.td_types.proofs.Admitted.{list-written, masking-written, unmasking-written, removing-written}
use Rattle.td_types.proofs.laws.types_stay_writable.Goals as goal

pub returns : goal.returns
returns c = record {
  new = new-written;
  add = adding-written;
  remove = removing-written;
  mask = masking-written;
  unmask = unmasking-written;
  describe = described-written;
  fully_describe = fully_described-written;
  list = list-written;
  properties = properties-written;
}
