use Rattle.std.proofs.Common.{◌+◌, nat_lt, sym, ap, ◌∙◌}
use Rattle.td_iter.proofs.Loading.{some-left}
use Rattle.td_iter.proofs.iter.Iter.give.Goals as goal

pub returns-clause-more : goal.returns-clause-more
returns-clause-more g c =
    ap (nat_lt (c.self.inside.given + c.args.count)) c.len.ensures
    ∙ sym (some-left (c.self.inside.given + c.args.count) c.self.inside.items)
