use Rattle.std.proofs.Common.{reverse}
use Rattle.td_lang.specs.Machine.{stand}
use Rattle.td_lang.proofs.ReaderTurn.{turns}
use Rattle.td_lang.proofs.reader.turn.Goals as goal

pub returns-in-Ok-step_at-clause-turns : goal.returns-in-Ok-step_at-clause-turns
returns-in-Ok-step_at-clause-turns c =
    let before = stand c.args.depth (reverse c.args.stack.now.items) c.args.state in
    let behind = stand c.in-Ok-step_at.depth (reverse c.step_at.new.stack.items) c.in-Ok-step_at.state in
    turns c.args.text.now c.split_at.result.1.now c.args.place c.in-Ok.size c.in-Ok.token before behind (cc)
    c.requires.place c.in-Ok.ensures.within.0 c.in-Ok.ensures.within.1
    (cc) c.in-Ok.ensures.gives c.in-Ok-step_at.ensures.gives
