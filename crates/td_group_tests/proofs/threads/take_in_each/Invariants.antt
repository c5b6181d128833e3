use Rattle.std.proofs.Common.{vec_len}
use Rattle.std.specs.List.{AllZip}
use Rattle.td_group.specs.Grouping.{AreOpening, IsOut}
use Rattle.td_group_tests.proofs.Each.{EachOf}
use Rattle.td_group_tests.proofs.threads.take_in_each.Given as goal

abbrev pub invariant-loop-session : goal.invariant-loop-session
invariant-loop-session g l =
    AreOpening l.group.cells.items l.passes.items
    × EachOf l.sessions.items (λ s. AllZip IsOut l.passes.items s.passes.items)

abbrev pub decreases-loop-session : goal.decreases-loop-session
decreases-loop-session g l = vec_len l.sessions
