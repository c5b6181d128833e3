use Rattle.td_query_walk.proofs.Full.{cut-anyway}
use Rattle.td_query_walk.proofs.gathering.asking_on_would_be_cut.Goals as goal

pub returns : goal.returns
returns c = cut-anyway
