use Rattle.std.proofs.Common.{◌≡◌, ◌<◌, length, rules}
use Rattle.td_net.proofs.Taking.{change-wants}
use Rattle.td_net.proofs.beginning.change.Goals as goal

pub returns-in-Err-clause-takes : goal.returns-in-Err-clause-takes
returns-in-Err-clause-takes c w h =
    let within : c.args.trader < length c.args.group.now.traders.items = search rules in
    change-wants c.args.group.now.traders.items c.args.trader c.args.change c.index_mut.result.now
    c.apply.new.trader w within c.index_mut.ensures.value c.in-Err.ensures.err h
