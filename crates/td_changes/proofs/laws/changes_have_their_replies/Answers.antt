use Rattle.td_changes.proofs.Answering.{answered}
use Rattle.td_changes.proofs.laws.changes_have_their_replies.Goals as goal

pub returns : goal.returns
returns c = answered
