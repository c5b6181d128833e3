use Rattle.std.proofs.Common.{◌∙◌}
use Rattle.td_net.proofs.Becoming.{closes}
use Rattle.td_net.proofs.placing.end.Goals as goal

pub returns-clause-becomes : goal.returns-clause-becomes
returns-clause-becomes c =
    closes c.args.visits.now.calls.items c.args.call c.args.visits.now.words c.finish.new.words c.args.frame.local
    c.local.result.now c.args.frame.answers c.args.steps c.in_ok-answer.answer c.in_ok-visit.visit c.drawn-drawn.result
    c.index_mut.result.now c.end.new.self c.local.ensures (rw c.deref.ensures at c.in_ok-visit.ensures)
    c.drawn-drawn.ensures.number
    c.index_mut.ensures.value c.end.ensures c.in_ok-answer.ensures.answer c.in_ok-answer.ensures.drawn
    c.finish.ensures.same c.drawn-drawn.ensures.within c.drawn-drawn-2.ensures.within c.drawn-drawn.ensures.trimmed
