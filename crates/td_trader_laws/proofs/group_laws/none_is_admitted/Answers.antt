use Rattle.td_trader_laws.proofs.WritingWorlds.{solo-admitted}
use Rattle.td_trader_laws.proofs.group_laws.none_is_admitted.Goals as goal

pub returns : goal.returns
returns c = solo-admitted
