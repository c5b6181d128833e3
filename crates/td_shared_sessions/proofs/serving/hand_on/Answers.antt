use Rattle.td_sessions.proofs.Taking.{closes_all}
use Rattle.td_shared_sessions.proofs.serving.hand_on.Goals as goal

pub returns : goal.returns
returns g c = record {
  solo = c.in-Ok.solo;
  closes = closes_all _ _ _ c.in-Ok.ensures.closed;
  handed_on = c.group.ensures.content;
}
