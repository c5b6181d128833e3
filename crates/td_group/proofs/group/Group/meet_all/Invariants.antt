use Rattle.std.proofs.Common.{vec_len}
use Rattle.td_group.specs.Grouping.{AreOpening, IsOut, MeetsPass}
use Rattle.td_group.specs.Rows.{Beside, LeadsOn}
use Rattle.td_group.proofs.group.Group.meet_all.Given as goal

abbrev pub invariant-loop-pass : goal.invariant-loop-pass
invariant-loop-pass l =
    AreOpening l.self.cells.items l.passes.items
    × Beside IsOut l.content.items l.passes.items
    × LeadsOn MeetsPass l.initial.content.items l.initial.passes.items l.content.items l.passes.items

abbrev pub decreases-loop-pass : goal.decreases-loop-pass
decreases-loop-pass l = vec_len l.content
