use Rattle.td_lines.proofs.Stepping.{alone}
use Rattle.td_lines.proofs.draft.ScriptDraft.take_alone.Goals as goal

pub returns : goal.returns
returns c =
    alone c.args.self.now c.close.new.self c.take_part-content.new.self c.args.number c.args.part c.args.line.now
    c.take_part-content.result c.at.result c.in_ok-close.ensures c.take_part-content.ensures c.at.ensures
