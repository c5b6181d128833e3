use Rattle.std.proofs.Common.{◌-◌, ◌∙◌, sym, length}
use Rattle.td_marks.proofs.Kept.{length-numbered}
use Rattle.td_marks.proofs.ring.Ring.len.Goals as goal

pub returns : goal.returns
returns c =
    let ring = c.self.inside.last in
    rw (← c.self.view_is)
    (c.len.ensures.len ∙ sym (length-numbered (c.self.inside.count - length ring.items) ring.items))
