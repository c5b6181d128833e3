use Rattle.td_cli_args.proofs.Adding.{becomes}
use Rattle.td_cli_args.proofs.command.with_usages.Goals as goal

pub loop-usage-preserved : goal.loop-usage-preserved
loop-usage-preserved c =
    becomes _ _ _ c.args.usages.now c.loop-usage.usage-index _ _ c.loop-usage-test.true c.in_ok-command.ensures
    c.in_ok-placed.ensures c.loop-usage.invariant
