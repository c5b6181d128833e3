use Rattle.td_desk_calls.proofs.judging.judge.Goals as goal

pub returns-in-Err : goal.returns-in-Err
returns-in-Err c =
    let content = c.in-Err.ensures in
    c.refuse.ensures _ c.args.body.now (rw c.copied-reader.ensures.same at content.gives)
