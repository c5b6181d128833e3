use Rattle.std.specs.List.{AllZip}
use Rattle.td_group.specs.Grouping.{AreOpening, IsOut}
use Rattle.td_group_tests.proofs.Each.{EachOf}
use Rattle.td_group_tests.proofs.threads.begin_each.Given as goal

abbrev pub invariant-loop : goal.invariant-loop
invariant-loop g l =
    AreOpening l.group.cells.items l.passes.items
    × EachOf l.sessions.items (λ s. AllZip IsOut l.passes.items s.passes.items)
