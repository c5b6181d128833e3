use Rattle.td_giop.proofs.Cuts.{front_message, message_front, raw_front, raw_good}
use Rattle.td_giop.proofs.laws.front_is_message.Goals as goal

pub returns-clause-front : goal.returns-clause-front
returns-clause-front c = front_message

pub returns-clause-message : goal.returns-clause-message
returns-clause-message c = message_front

pub returns-clause-raw : goal.returns-clause-raw
returns-clause-raw c = λ s m r. (raw_front s m r, raw_good s m r)
