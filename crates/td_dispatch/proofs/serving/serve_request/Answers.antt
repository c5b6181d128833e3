use Rattle.std.proofs.Common.{◌∙◌, refl, sym}
use Rattle.td_servant.proofs.Classes.{of_its_class}
use Rattle.td_servant.specs.Answers.{no_memory}
use Rattle.td_servant.specs.Classes.{request_class}
use Rattle.td_servant.specs.Judging.{judge_request}
use Rattle.td_servant.specs.declared.entry.Entry.TheVariants.{Plain}
use Rattle.td_servant.specs.declared.judging.Judged.TheVariants.{Call, Refused}
use Rattle.td_dispatch.proofs.Invoking.{begun_length}
use Rattle.td_dispatch.proofs.Replying.{call_notes, either_served, head_before, judged_served, refusal_notes}
use Rattle.td_dispatch.proofs.Replying.{unread_notes, unread_served}
use Rattle.td_dispatch.proofs.serving.serve_request.Goals as goal
use Rattle.td_dispatch.specs.Backends.{scene_of}

pub answer_call-answer-requires-clause-start : goal.answer_call-answer-requires-clause-start
answer_call-answer-requires-clause-start g c = begun_length c.args.to c.in-Ok.w c.in-Ok.ensures.begun

pub finish_reply-requires-clause-head : goal.finish_reply-requires-clause-head
finish_reply-requires-clause-head g c =
    let invokes = c.answer_call-answer.ensures.invokes in
    head_before c.answer_call-answer.result.body invokes.outcome c.args.to c.in-Ok.w c.answer_call-answer.new.w
    c.in-Ok.ensures.begun invokes.body

-- ---- memory ran out to read it

pub returns-in-Err-clause-served : goal.returns-in-Err-clause-served
returns-in-Err-clause-served g c =
    let b = g.B.Backend.seen c.args.backend.now in
    let h = c.args.head.now in
    let j = judge_request b.world c.args.desk.now h.key.now h.operation.now h.body in
    unread_served g.B.Backend.others g.B.Backend.later c.args.home.now c.args.to b c.args.desk.now c.judge.new.desk
    j c.refuse_memory.result c.refuse_memory.new.replies c.judge.ensures.desk
    (c.refuse_memory.ensures.served c.args.home.now j (scene_of b c.judge.new.desk) c.in-Err.ensures.unread)

pub returns-in-Err-clause-no_call : goal.returns-in-Err-clause-no_call
returns-in-Err-clause-no_call g c =
    let b = g.B.Backend.seen c.args.backend.now in
    let h = c.args.head.now in
    unread_notes (request_class b.world c.args.desk.now h.key.now h.operation.now) c.in-Err.class
    (judge_request b.world c.args.desk.now h.key.now h.operation.now h.body) c.refuse_memory.result c.in-Err.ensures.class
    c.refuse_memory.ensures.entry

-- ---- it spells no call

pub returns-in-Ok-Refused-clause-served : goal.returns-in-Ok-Refused-clause-served
returns-in-Ok-Refused-clause-served g c =
    let b = g.B.Backend.seen c.args.backend.now in
    let h = c.args.head.now in
    let s = scene_of b c.judge.new.desk in
    let o = c.in-Ok-Refused.outcome in
    judged_served g.B.Backend.others g.B.Backend.later c.args.home.now c.args.to b c.args.desk.now c.judge.new.desk
    (judge_request b.world c.args.desk.now h.key.now h.operation.now h.body) (Refused o) Plain c.tell_refusal.new.replies s
    c.judge.ensures.desk (sym c.in-Ok-Refused.field-0-is ∙ c.in-Ok-Refused.ensures.judged)
    (either_served g.B.Backend.others g.B.Backend.later c.args.home.now c.args.to s o c.tell_refusal.new.replies
    c.code_bound.ensures c.tell_refusal.ensures)

pub returns-in-Ok-Refused-clause-no_call : goal.returns-in-Ok-Refused-clause-no_call
returns-in-Ok-Refused-clause-no_call g c =
    let b = g.B.Backend.seen c.args.backend.now in
    let h = c.args.head.now in
    refusal_notes (request_class b.world c.args.desk.now h.key.now h.operation.now) c.in-Ok-Refused.outcome
    (judge_request b.world c.args.desk.now h.key.now h.operation.now h.body)
    (sym c.in-Ok-Refused.field-0-is ∙ c.in-Ok-Refused.ensures.judged)

-- ---- memory ran out to begin its Reply

pub returns-in-Err-begin-clause-served : goal.returns-in-Err-begin-clause-served
returns-in-Err-begin-clause-served g c =
    let b = g.B.Backend.seen c.args.backend.now in
    let h = c.args.head.now in
    let s = scene_of b c.judge.new.desk in
    let x = c.in-Ok-Call.object in
    let call = c.in-Ok-Call.call in
    judged_served g.B.Backend.others g.B.Backend.later c.args.home.now c.args.to b c.args.desk.now c.judge.new.desk
    (judge_request b.world c.args.desk.now h.key.now h.operation.now h.body) (Call x call)
    c.refuse_memory-in-Err-begin.result c.refuse_memory-in-Err-begin.new.replies s c.judge.ensures.desk
    (sym c.in-Ok-Call.field-0-is ∙ c.in-Ok-Call.ensures.judged) (
      no_memory,
      c.refuse_memory-in-Err-begin.ensures.served c.args.home.now (Call x call) s
          (of_its_class c.class_of-class.result x call c.class_of-class.ensures),
    )

pub returns-in-Err-begin-clause-no_call : goal.returns-in-Err-begin-clause-no_call
returns-in-Err-begin-clause-no_call g c =
    let b = g.B.Backend.seen c.args.backend.now in
    let h = c.args.head.now in
    call_notes (request_class b.world c.args.desk.now h.key.now h.operation.now) c.in-Ok-Call.object
    c.in-Ok-Call.call (judge_request b.world c.args.desk.now h.key.now h.operation.now h.body)
    c.refuse_memory-in-Err-begin.result (sym c.in-Ok-Call.field-0-is ∙ c.in-Ok-Call.ensures.judged)

-- ---- its call is answered

pub returns-in-Ok-clause-served : goal.returns-in-Ok-clause-served
returns-in-Ok-clause-served g c =
    let b = g.B.Backend.seen c.args.backend.now in
    let h = c.args.head.now in
    let x = c.in-Ok-Call.object in
    let call = c.in-Ok-Call.call in
    let answer = c.answer_call-answer in
    let t = scene_of (g.B.Backend.seen answer.new.self) answer.new.desk in
    judged_served g.B.Backend.others g.B.Backend.later c.args.home.now c.args.to b c.args.desk.now c.judge.new.desk
    (judge_request b.world c.args.desk.now h.key.now h.operation.now h.body) (Call x call) c.finish_reply.result
    c.finish_reply.new.replies t c.judge.ensures.desk (sym c.in-Ok-Call.field-0-is ∙ c.in-Ok-Call.ensures.judged)
    (c.finish_reply.ensures c.args.home.now x call c.in-Ok.w (scene_of b c.judge.new.desk) t c.in-Ok.ensures.begun refl
    answer.ensures.invokes)

pub returns-in-Ok-clause-no_call : goal.returns-in-Ok-clause-no_call
returns-in-Ok-clause-no_call g c =
    let b = g.B.Backend.seen c.args.backend.now in
    let h = c.args.head.now in
    call_notes (request_class b.world c.args.desk.now h.key.now h.operation.now) c.in-Ok-Call.object
    c.in-Ok-Call.call (judge_request b.world c.args.desk.now h.key.now h.operation.now h.body) c.finish_reply.result
    (sym c.in-Ok-Call.field-0-is ∙ c.in-Ok-Call.ensures.judged)
