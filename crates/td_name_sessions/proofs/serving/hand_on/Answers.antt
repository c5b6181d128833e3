use Rattle.td_name_sessions.proofs.Taking.{close_seen}
use Rattle.td_name_sessions.proofs.serving.hand_on.Goals as goal

pub returns : goal.returns
returns g c = record {
  contexts = c.in-Ok.contexts;
  closes = close_seen _ _ _ c.in-Ok.ensures.closed;
  handed_on = c.naming.ensures.content;
}
