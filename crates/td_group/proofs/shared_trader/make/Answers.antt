use Rattle.std.proofs.Common.{subst}
use Rattle.td_group.proofs.Acted.{changes}
use Rattle.td_group.proofs.shared_trader.make.Goals as goal
use Rattle.td_group.specs.Acting.{ChangesWritably}

pub returns : goal.returns
returns c =
    subst (λ x. ChangesWritably c.args.trader.now x c.change.result c.change.new.self) c.into_change.ensures.same
    (changes c.args.trader.now c.change.new.self c.into_change.result c.change.result c.into_change.ensures.admitted
    c.change.ensures.outcome c.change.ensures.after c.change.ensures.err)
