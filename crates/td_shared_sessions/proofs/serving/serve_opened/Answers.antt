use Rattle.std.proofs.Common.{rules}
use Rattle.td_shared_sessions.proofs.serving.serve_opened.Goals as goal

pub returns-in-Ok-clause-serves : goal.returns-in-Ok-clause-serves
returns-in-Ok-clause-serves g c = record {
  end = _;
  whole = rw c.in-Ok.is at c.serve_visitors-stop.ensures.whole;
  left = search rules;
  hands = record {
    solo = c.hand_on.ensures.solo;
    closes = c.hand_on.ensures.closes;
    handed_on = search rules;
  };
}
