use Rattle.std.proofs.Common.{length, ap, ◌∙◌}
use Rattle.td_ghost_list.specs.Entries.{entries_of}
use Rattle.td_desk.proofs.Replaying.{counted}
use Rattle.td_desk.proofs.book.DeskBook.done.Goals as goal

pub returns : goal.returns
returns c =
    counted (entries_of c.self.inside.past) c.self.inside.entries.items c.self.inside.draws c.self.inside.adds
    c.self.inside.calls c.self.invariant.0 ∙ ap length c.self.view_is
