use Rattle.td_group.specs.Grouping.{SamePasses}
use Rattle.td_group_tests.proofs.threads.export_each.Given as goal

abbrev pub invariant-loop : goal.invariant-loop
invariant-loop g l = SamePasses l.fn.session.passes.items l.session.passes.items
