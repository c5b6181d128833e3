use Rattle.std.proofs.Common.{sym, ◌∙◌}
use Rattle.td_lines.proofs.Feeds.{lines-one, lines-step}
use Rattle.td_lines.proofs.lines.next_line.Goals as goal

pub returns-in_default-clause-cut : goal.returns-in_default-clause-cut
returns-in_default-clause-cut c = lines-one c.args.text.now (sym c.line_end.ensures ∙ c.in_default.is) c.requires

pub returns-clause-cut : goal.returns-clause-cut
returns-clause-cut c =
    lines-step c.args.text.now c.split_at.result.0.now c.split_at.result.1.now _ _ c.in-Some.end c.in-Some.ensures
    c.split_at.ensures.front c.split_at.ensures.back c.without_return.ensures c.split_at-2.ensures.back
