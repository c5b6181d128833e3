use Rattle.td_store.proofs.Limits.{all-conform}
use Rattle.td_store.proofs.laws.candidates_conform.Goals as goal

pub returns : goal.returns
returns c = all-conform
