use Rattle.td_store.proofs.Limits.{all-searched}
use Rattle.td_store.proofs.laws.plain_offers_are_searched.Goals as goal

pub returns : goal.returns
returns c = all-searched
