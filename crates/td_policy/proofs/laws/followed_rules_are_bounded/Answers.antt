use Rattle.td_policy.proofs.Least.{least_first, least_second, followed_stated}
use Rattle.td_policy.proofs.laws.followed_rules_are_bounded.Goals as goal

pub returns : goal.returns
returns c s a l = record {
  by_maximum = least_first a.max_follow_policy l _;
  by_limiting = least_second a.max_follow_policy l _;
  by_stated = λ r. followed_stated a.max_follow_policy l a.def_follow_policy r s.follow;
}
