use Rattle.std.proofs.Common.{◌<◌, List, subst, arith}
use Rattle.td_ghost_list.specs.Entries.{entries_of}
use Rattle.td_desk.proofs.Kept.{counts_done}
use Rattle.td_desk.specs.Acting.{Counts}
use Rattle.td_desk.specs.Standings.{most}
use Rattle.td_desk.specs.declared.event.Event.{Event}
use Rattle.td_desk.proofs.book.DeskBook.max_left.Goals as goal

pub returns : goal.returns
returns c =
    let s = c.self.inside in
    let lt : s.calls < most = omega (arith, c.if-self-ge-MOST.false) in
    subst (λ (h : List Event). Counts h c.args.trader c.args.number c.size_at-left.result (entries_of c.note.new.self))
    c.self.view_is (counts_done (entries_of s.past) s.entries.items s.draws s.adds s.calls c.self.invariant.0
    c.args.trader c.args.number lt c.place_of-place.result c.place_of-place.ensures.place c.size_at-left.result
    (entries_of c.note.new.self) c.size_at-left.ensures c.note.ensures)
