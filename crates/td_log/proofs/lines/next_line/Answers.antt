use Rattle.std.proofs.Common.{sym, ◌∙◌}
use Rattle.td_log.proofs.Feeds.{lines-one, lines-step}
use Rattle.td_log.specs.Words.{lines_of}
use Rattle.td_log.proofs.lines.next_line.Goals as goal

pub returns-in_default-clause-cut : goal.returns-in_default-clause-cut
unfolding lines_of
returns-in_default-clause-cut c = lines-one c.args.log.now (sym c.line_end.ensures ∙ c.in_default.is) c.requires

pub returns-clause-cut : goal.returns-clause-cut
returns-clause-cut c =
    lines-step c.args.log.now c.split_at.result.0.now c.split_at.result.1.now _ c.in-Some.end c.in-Some.ensures
    c.split_at.ensures.front c.split_at.ensures.back c.split_at-2.ensures.back
