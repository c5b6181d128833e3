use Rattle.td_policy.proofs.Least.{passed_maximum, passed_limiting, passed_stated, passed_unstated}
use Rattle.td_policy.proofs.laws.passed_on_rules_are_bounded.Goals as goal

pub returns : goal.returns
returns c s a l d = record {
  by_maximum = passed_maximum s.follow a.max_follow_policy l d;
  by_limiting = passed_limiting s.follow a.max_follow_policy l d;
  by_stated = passed_stated s.follow a.max_follow_policy l d;
  by_own = passed_unstated s.follow a.max_follow_policy l d;
}
