use Rattle.td_file.proofs.Rows.{trader_not_made}
use Rattle.td_file.proofs.Stems.{short_stem}
use Rattle.td_file.proofs.trading.open_trader.Goals as goal

pub trader_in-requires-clause-stem : goal.trader_in-requires-clause-stem
trader_in-requires-clause-stem c =
    short_stem c.args.home.now c.args.content.name c.args.content.interfaces c.args.content.entries c.in-Ok.store
    c.requires.short c.in-Ok.ensures.gives

pub returns-in-Err : goal.returns-in-Err
returns-in-Err c = trader_not_made c.args.home.now c.args.content c.in-Err.fault c.in-Err.ensures.gives
