use Rattle.td_marks.proofs.Kept.{starts_tied}
use Rattle.td_marks.proofs.ring.Ring.new.Goals as goal

pub invariant_of-result : goal.invariant_of-result
invariant_of-result c =
    starts_tied c.args.size c.in_ok-with_capacity.field-0 c.new.result.entries c.requires.some c.requires.most
    c.in_ok-with_capacity.ensures c.new.ensures.empty
