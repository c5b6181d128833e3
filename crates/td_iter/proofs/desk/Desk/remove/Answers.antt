use Rattle.std.proofs.Common.{ℕ, length, nat_lt, ap, ◌∙◌}
use Rattle.td_iter.specs.Desks.{LiveOf, is_live, place_of}
use Rattle.td_iter.proofs.Places.{live-is}
use Rattle.td_iter.proofs.desk.Desk.remove.Goals as goal

pub returns-clause-found : goal.returns-clause-found
returns-clause-found g c =
    let items = c.self.inside.entries.items in
    let same = c.place_of-place.ensures.place
    ∙ ap (place_of c.args.trader.now c.args.number) c.as_slice.ensures.value in
    c.take_out.ensures.found ∙ ap (λ (place : ℕ). nat_lt place (length items)) same
    ∙ live-is c.args.trader.now c.args.number items
    ∙ ap (λ (d : LiveOf g.row.I.Denot). is_live c.args.trader.now c.args.number d) c.self.view_is
