use Rattle.std.proofs.Common.{ap, ◌∙◌}
use Rattle.td_visit.proofs.Progressed.{starts}
use Rattle.td_visit.proofs.advancing.start_visit.Goals as goal
use Rattle.td_visit.specs.Resuming.{start}

pub returns : goal.returns
returns c =
    starts c.args.local.now c.args.answers.now c.start.result (c.start.ensures ∙ ap start c.is_some.ensures)
