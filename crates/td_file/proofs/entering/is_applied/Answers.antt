use Rattle.std.proofs.Common.{sym}
use Rattle.td_trader.proofs.KeepingLimits.{limited_applied}
use Rattle.td_file.proofs.entering.is_applied.Goals as goal

pub returns-clause-limited : goal.returns-clause-limited
returns-clause-limited c =
    limited_applied c.args.store.now c.apply.new.store c.args.change (sym c.in_ok-outcome.ensures.applies.1) c.requires
