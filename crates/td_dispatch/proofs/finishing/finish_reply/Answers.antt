use Rattle.td_dispatch.proofs.Replying.{in_vain_served, told_served, written_served}
use Rattle.td_dispatch.proofs.finishing.finish_reply.Goals as goal

pub returns-in-Written : goal.returns-in-Written
returns-in-Written g c = λ home x call draft s t begun seen invokes.
    written_served g.B.Backend.others g.B.Backend.later home c.args.to x call c.args.trader s t c.args.answer.entry
    draft c.args.w c.finish.new.self begun (rw c.in-Written.is at invokes) c.finish.ensures

pub returns-in-Ok : goal.returns-in-Ok
returns-in-Ok g c = λ home x call draft s t begun seen invokes.
    told_served g.B.Backend.others g.B.Backend.later home c.args.to x call c.args.trader s t c.args.answer.entry
    draft c.args.w c.tell-content.new.self c.in-Outcome.outcome begun (rw c.in-Outcome.is at invokes)
    c.in-Ok.ensures.ok

pub returns-in-Err : goal.returns-in-Err
returns-in-Err g c = λ home x call draft s t begun seen invokes.
    in_vain_served g.B.Backend.others g.B.Backend.later home c.args.to x call c.args.trader s t c.args.answer.entry
    draft c.args.w c.finish_without_memory.new.replies c.in-Outcome.outcome c.finish_without_memory.result
    (g.B.Backend.seen c.args.backend.now).world begun seen (rw c.in-Outcome.is at invokes) c.in-Err.ensures.err
    c.finish_without_memory.ensures.entry c.finish_without_memory.ensures.reply
