use Rattle.std.proofs.Common.{ℕ, ◌+◌, ◌<◌, ◌≤◌, List, sym, subst, arith}
use Rattle.td_ghost_list.specs.Entries.{entries_of}
use Rattle.td_desk.proofs.Kept.{destroys_done}
use Rattle.td_desk.proofs.Replaying.{destroyed_on}
use Rattle.td_desk.specs.Acting.{DestroysIterator}
use Rattle.td_desk.specs.Standings.{IsReplayed, most}
use Rattle.td_desk.specs.declared.event.Event.{Event}
use Rattle.td_desk.proofs.book.DeskBook.destroy.Goals as goal

pub invariant_of-self : goal.invariant_of-self
invariant_of-self c =
    let s = c.self.inside in
    let lt : s.calls < most = omega (arith, c.if-self-ge-MOST.false) in (
      subst (λ (h : List Event). IsReplayed h c.take_out-taken.new.entries.items s.draws s.adds (s.calls + 1))
          (sym c.note.ensures) (destroyed_on (entries_of s.past) s.entries.items s.draws s.adds s.calls c.self.invariant.0
          c.args.trader c.args.number c.place_of-place.result c.take_out-taken.new.entries.items
          c.place_of-place.ensures.place c.take_out-taken.ensures.items lt),
      subst (λ (k : ℕ). 4096 ≤ k) (sym c.take_out-taken.ensures.capacity) c.self.invariant.1,
    )

pub returns : goal.returns
returns c =
    let s = c.self.inside in
    let lt : s.calls < most = omega (arith, c.if-self-ge-MOST.false) in
    subst (λ (h : List Event). DestroysIterator h c.args.trader c.args.number c.take_out-taken.result
    (entries_of c.note.new.self)) c.self.view_is (destroys_done (entries_of s.past) s.entries.items s.draws s.adds
    s.calls c.self.invariant.0 c.args.trader c.args.number lt c.place_of-place.result c.place_of-place.ensures.place
    c.take_out-taken.result (entries_of c.note.new.self) c.take_out-taken.ensures.taken c.note.ensures)
