use Rattle.std.proofs.Common.{sym, ◌∙◌}
use Rattle.td_group.proofs.Closed.{all_ready, distinct_still}
use Rattle.td_group.proofs.group.Group.close.Goals as goal

pub close_all-traders-requires-clause-ready : goal.close_all-traders-requires-clause-ready
close_all-traders-requires-clause-ready c = all_ready _ _ c.requires (sym c.is_whole.ensures ∙ c.if-not-is_whole.false)

pub invariant_of-solo : goal.invariant_of-solo
invariant_of-solo c = record {
  distinct = distinct_still _ _ _ _ c.close_all-traders.ensures c.args.self.named c.args.self.distinct;
}
