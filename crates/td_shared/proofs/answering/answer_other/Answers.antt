use Rattle.std.proofs.Common.{List, ap, subst, sym, ◌∙◌, ◌≤◌, length}
use Rattle.td_servant.specs.declared.entry.Entry.{Entry}
use Rattle.td_session.specs.Rooms.{Room}
use Rattle.td_shared.proofs.OneKept.{message_keeps}
use Rattle.td_shared.proofs.Others.{message_notes}
use Rattle.td_shared.proofs.answering.answer_other.Goals as goal

pub put_kept-requires-clause-one : goal.put_kept-requires-clause-one
put_kept-requires-clause-one g c =
    message_keeps g.T.Traders.others g.T.Traders.later _ _ _ _ _ (ap (λ (r : Room). r.desk) c.restart.ensures)
    c.in-Ok-answer.ensures.ok

pub note_session-requires-clause-one : goal.note_session-requires-clause-one
note_session-requires-clause-one g c =
    let none = ap (λ (r : Room). r.journal) c.restart.ensures ∙ c.requires.nothing_noted in
    subst (λ (j : List Entry). length j ≤ 1) (sym (ap (λ (r : Room). r.journal) c.put_kept.ensures.room))
    (message_notes g.T.Traders.others g.T.Traders.later _ _ _ _ none c.in-Ok-answer.ensures.ok)

pub put_kept-requires-clause-drawn : goal.put_kept-requires-clause-drawn
put_kept-requires-clause-drawn g c = c.in-Ok.ensures.usable c.args.sharing.now.order
