use Rattle.td_lines.proofs.Stepping.{begun}
use Rattle.td_lines.proofs.draft.ScriptDraft.begin_head.Goals as goal

pub returns : goal.returns
returns c =
    begun c.args.self.now c.close.new.self c.take_head-content.new.self c.args.number c.args.head c.args.line.now
    c.take_head-content.result c.at.result c.in_ok-close.ensures c.take_head-content.ensures c.at.ensures
