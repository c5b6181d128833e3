use Rattle.std.proofs.Common.{subst}
use Rattle.td_marks.specs.Keeping.{AreRingMarks}
use Rattle.td_marks.proofs.Kept.{is_kept}
use Rattle.td_marks.proofs.ring.Ring.keeps.Goals as goal

pub returns : goal.returns
returns c =
    subst AreRingMarks c.self.view_is
    (is_kept c.self.inside.count c.self.inside.counter c.self.inside.last c.self.inside.numbers.entries
    c.self.invariant)
