use Rattle.td_types.proofs.Answered.{adding-answered, removing-answered, masking-answered, unmasking-answered}
use Rattle.td_types.proofs.Answered.{describing-answered, fully_describing-answered, listing-answered}
use Rattle.td_types.proofs.laws.calls_never_run_out_of_memory.Goals as goal

pub returns : goal.returns
returns c = record {
  add = adding-answered;
  remove = removing-answered;
  mask = masking-answered;
  unmask = unmasking-answered;
  describe = describing-answered;
  fully_describe = fully_describing-answered;
  list = listing-answered;
}
