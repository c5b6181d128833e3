use Rattle.std.proofs.Common.{ap, ◌∙◌, Some}
use Rattle.td_marks.proofs.Found.{forgets_one}
use Rattle.td_marks.proofs.ring.keep.Goals as goal

pub returns-in-Some-clause-forgets : goal.returns-in-Some-clause-forgets
returns-in-Some-clause-forgets c =
    forgets_one c.args.last.now.items c.args.identifier c.args.last.now.capacity c.as_slice.result.now
    c.args.numbers.now.entries c.swap_remove.new.self.entries
    (ap Some c.as_slice.ensures ∙ c.in-Some.ensures.value) c.swap_remove.ensures.updates.1
    c.swap_remove.ensures.updates.3
